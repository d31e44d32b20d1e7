-- Records put into a page one behind the other, of whatever kind and width.
use Rattle.std.proofs.Common.{◌≡◌, ℕ, suc, ◌+◌, ◌-◌, ◌*◌, ◌<◌, ◌≤◌, min, List, [], ◌∷◌, ◌++◌, length, get_or, take, drop, sym, ap, ◌∙◌, append_assoc, mul-le-mul_left, mul-le-mul_right, suc-mul, arith, length-append}
use borrow.Rule.Slice.PartMut.{put_mid}
use Rattle.std.proofs.lemmas.List.{take_all, take_more, get_or-take, get_or-drop, length-take, length-drop, append-nil}
use Rattle.wire.specs.Bytes.{row_of}
use Rattle.wire.proofs.Fields.{row_length}
use Rattle.journal_rows.specs.Bytes.{filled, page, all_rows}
use Rattle.journal_words.proofs.Pages.{row_append, page_is, more}

rows_push : {X : Type 0} (f : X → List ℕ) (xs : List X) (x : X) → all_rows f (xs ++ (x ∷ [])) ≡ all_rows f xs ++ f x
unfolding all_rows
rows_push f [] x = append-nil (f x)
rows_push f (y ∷ ys) x = ap (λ z. f y ++ z) (rows_push f ys x) ∙ sym (append_assoc (f y) (all_rows f ys) (f x))

-- a page of some kind with the first i of these records, each in a row of w numbers
pub record Put {X : Type 0} (f : X → List ℕ) (w kind : ℕ) (xs : List X) (i : ℕ) (out : List ℕ) : Type 0 where
  pub bytes : out ≡ filled (row_of 4 (kind ∷ (length xs ∷ all_rows f (take i xs))))
  pub long : length (all_rows f (take i xs)) ≡ i * w

-- as many records from the first on as there is room for
module _ {X : Type 0} (f : X → List ℕ) (w kind room first : ℕ) (all : List X) where
  abbrev some : List X
  some = take room (drop first all)

  counted : (n count : ℕ) → n ≡ length all → count ≡ min room (n - first) → count ≡ length some
  counted n count e m = m ∙ sym (length-take room (drop first all) ∙ ap (min room) (length-drop first all ∙ ap (λ x. x - first) (sym e)))

  -- none yet
  pub none_put : (n count : ℕ) (out : List ℕ) → n ≡ length all → count ≡ min room (n - first) → out ≡ filled (row_of 4 (kind ∷ (count ∷ []))) → Put f w kind some 0 out
  unfolding all_rows
  none_put n count out e m o = record { bytes = o ∙ ap (λ k. filled (row_of 4 (kind ∷ (k ∷ [])))) (counted n count e m); long = omega arith }

  -- ONE ROW MORE
  pub row_put : (n count i at k : ℕ) (d : X) (out new words : List ℕ) → n ≡ length all → count ≡ min room (n - first) → i < count → Put f w kind some i out →
      words ≡ f (get_or all (first + i) d) → length words ≡ w → new ≡ row_of 4 words → at ≡ 8 + 4 * (i * w) → k ≡ 4 * w → room * w ≤ 126 → Put f w kind some (i + 1) (put_mid at k out new)
  row_put n count i at k d out new words e m lt p is wide b a c fits =
      let here : i < length some = omega (arith, counted n count e m) in
      let x : X = get_or some i d in
      let same : f x ≡ words = ap f (get_or-take room (drop first all) i d (omega arith) ∙ get_or-drop first all i d) ∙ sym is in
      let rows : List ℕ = all_rows f (take i some) in
      let so_far : List ℕ = kind ∷ (length some ∷ rows) in
      let next : all_rows f (take (i + 1) some) ≡ rows ++ words = ap (all_rows f) (take_more some i d here) ∙ (rows_push f (take i some) x ∙ ap (λ z. rows ++ z) same) in
      let a-row : suc i * w ≡ i * w + w = suc-mul i w in
      let fit : suc i * w ≤ room * w = mul-le-mul_right w (omega arith) in
      let front : length (row_of 4 so_far) ≡ 8 + 4 * (i * w) = row_length 4 so_far ∙ omega (arith, p.long) in
      let this : length new ≡ 4 * w = ap length b ∙ (row_length 4 words ∙ ap (λ z. 4 * z) wide) in
      let put : put_mid at k out new ≡ filled (row_of 4 so_far ++ new) = more 512 at k (row_of 4 so_far) new out p.bytes (omega arith) (omega arith) (omega arith) in
      record {
        bytes = put ∙ ap filled (ap (λ z. row_of 4 so_far ++ z) b ∙ (sym (row_append 4 so_far words) ∙ ap (λ z. row_of 4 (kind ∷ (length some ∷ z))) (sym next)));
        long = ap length next ∙ (length-append rows words ∙ (ap (λ z. length rows + z) wide ∙ (ap (λ z. z + w) p.long ∙ sym (ap (λ z. z * w) (native.Mathlib.Numerals.add-one i) ∙ a-row))));
      }

  -- all of them
  pub all_put : (n count i : ℕ) (out : List ℕ) → n ≡ length all → count ≡ min room (n - first) → count ≤ i → Put f w kind some i out → out ≡ page (kind ∷ (length some ∷ all_rows f some))
  all_put n count i out e m le p =
      p.bytes ∙ (ap (λ z. filled (row_of 4 (kind ∷ (length some ∷ all_rows f z)))) (take_all i some (omega (arith, counted n count e m))) ∙ sym (page_is (kind ∷ (length some ∷ all_rows f some))))

-- as many as there is room for stay within the page
pub row_fits : (i count room w : ℕ) → i < count → count ≤ room → room * w ≤ 126 → 8 + i * (4 * w) + 4 * w ≤ 512
row_fits i count room w h r f =
    let a-row : suc i * w ≡ i * w + w = suc-mul i w in
    let fit : suc i * w ≤ room * w = mul-le-mul_right w (omega arith) in
    omega arith

-- and are few
pub room_few : (room w : ℕ) → 0 < w → room * w ≤ 126 → room ≤ 126
room_few room w p f = let fit : room * 1 ≤ room * w = mul-le-mul_left room p in omega arith
