-- Records cut out of a page's numbers, once for records of every width: one more at the end, each by its number, and where its numbers stand in the page.
use Rattle.std.proofs.Common.{◌≡◌, ℕ, zero, suc, ◌+◌, ◌-◌, ◌*◌, ◌^◌, ◌<◌, List, [], ◌∷◌, ◌++◌, length, get_or, take, drop, replicate, sym, refl, ap, ◌∙◌, subst, append_assoc, suc-mul, zero-mul, arith}
use Rattle.std.proofs.lemmas.List.{drop-drop, get_or_append_left, get_or-append-add, get_or-take, get_or-drop}
use Rattle.wire.specs.Bytes.{bytes_of, row_of, numbers_in}
use Rattle.wire.proofs.Fields.{number_back}
use Rattle.records.specs.Words.{padded}
use Rattle.journal.specs.Slots.{AllOf}
use Rattle.journal_rows.specs.Bytes.{all_rows, cut, page}
use Rattle.journal_rows.specs.Sorts.{record_of}

-- what holds of all holds of each
pub all_at : {X : Type 0} (P : X → Type 0) (xs : List X) → AllOf P xs → (k : ℕ) (d : X) → k < length xs → P (get_or xs k d)
unfolding AllOf
all_at P [] a k d h = absurd (omega arith)
all_at P (x ∷ xs) a zero d h = a.0
all_at P (x ∷ xs) a (suc k) d h = all_at P xs a.1 k d (omega arith)

module _ {X : Type 0} (u : List ℕ → X) (w : ℕ) where
  pub cut_length : (n : ℕ) (ns : List ℕ) → length (cut u w n ns) ≡ n
  unfolding cut
  cut_length zero ns = refl
  cut_length (suc n) ns = ap suc (cut_length n (drop w ns))

  -- where record n begins, behind the first one
  further : (n : ℕ) (ns : List ℕ) → drop (n * w) (drop w ns) ≡ drop (suc n * w) ns
  further n ns = drop-drop (n * w) w ns ∙ ap (λ (k : ℕ). drop k ns) (omega (arith, suc-mul n w))

  pub cut_more : (n : ℕ) (ns : List ℕ) → cut u w (suc n) ns ≡ cut u w n ns ++ (u (take w (drop (n * w) ns)) ∷ [])
  unfolding cut
  cut_more zero ns = ap (λ (k : ℕ). u (take w (drop k ns)) ∷ []) (sym (zero-mul w))
  cut_more (suc n) ns = ap (λ (v : List X). u (take w ns) ∷ v) (cut_more n (drop w ns)) ∙ ap (λ (v : List ℕ). u (take w ns) ∷ (cut u w n (drop w ns) ++ (u (take w v) ∷ []))) (further n ns)

  -- behind others
  pub cut_push : (xs : List X) (n : ℕ) (ns : List ℕ) → (xs ++ cut u w n ns) ++ (u (take w (drop (n * w) ns)) ∷ []) ≡ xs ++ cut u w (n + 1) ns
  cut_push xs n ns =
      append_assoc xs (cut u w n ns) (u (take w (drop (n * w) ns)) ∷ [])
      ∙ ap (λ (v : List X). xs ++ v) (sym (cut_more n ns) ∙ ap (λ (k : ℕ). cut u w k ns) (omega arith))

  pub cut_none : (ns : List ℕ) → cut u w 0 ns ≡ []
  unfolding cut
  cut_none ns = refl

  -- what holds of all that was cut out
  pub cut_at : (P : X → Type 0) (n : ℕ) (ns : List ℕ) → AllOf P (cut u w n ns) → (k : ℕ) → k < n → P (u (take w (drop (k * w) ns)))
  unfolding AllOf cut
  cut_at P zero ns a k h = absurd (omega arith)
  cut_at P (suc n) ns a zero h = subst (λ (k : ℕ). P (u (take w (drop k ns)))) (sym (zero-mul w)) a.0
  cut_at P (suc n) ns a (suc k) h = subst (λ (v : List ℕ). P (u (take w v))) (further k ns) (cut_at P n (drop w ns) a.1 k (omega arith))

-- a number of a row of fields, if it fits its field
at_row : (ns : List ℕ) (j : ℕ) → get_or ns j 0 < 256 ^ 4 → get_or (numbers_in (row_of 4 ns)) j 0 ≡ get_or ns j 0
unfolding row_of bytes_of numbers_in
at_row [] j h = refl
at_row (n ∷ ns) zero h = number_back 4 n h
at_row (n ∷ ns) (suc j) h = at_row ns j h

-- zeros behind numbers say nothing
at_zeros : (n i : ℕ) → ◌≡◌ {A = ℕ} (get_or (replicate n 0) i 0) 0
at_zeros zero i = refl
at_zeros (suc n) zero = refl
at_zeros (suc n) (suc i) = at_zeros n i

at_filled : (ms : List ℕ) (n i : ℕ) → get_or (ms ++ replicate n 0) i 0 ≡ get_or ms i 0
at_filled [] n i = at_zeros n i
at_filled (m ∷ ms) n zero = refl
at_filled (m ∷ ms) n (suc i) = at_filled ms n i

-- number j of record k, in rows of w numbers each
rows_at : {X : Type 0} (f : X → List ℕ) (w : ℕ) (xs : List X) → AllOf (λ x. length (f x) ≡ w) xs → (k j : ℕ) (d : X) → k < length xs → j < w →
    get_or (all_rows f xs) (k * w + j) 0 ≡ get_or (f (get_or xs k d)) j 0
unfolding AllOf all_rows
rows_at f w [] a k j d h l = absurd (omega arith)
rows_at f w (x ∷ xs) a zero j d h l =
    let e : length (f x) ≡ w = a.0 in
    ap (λ (i : ℕ). get_or (f x ++ all_rows f xs) i 0) (omega (arith, zero-mul w)) ∙ get_or_append_left (f x) (all_rows f xs) 0 j (omega arith)
rows_at f w (x ∷ xs) a (suc k) j d h l =
    let e : length (f x) ≡ w = a.0 in
    ap (λ (i : ℕ). get_or (f x ++ all_rows f xs) i 0) (omega (arith, suc-mul k w)) ∙ get_or-append-add (f x) (all_rows f xs) (k * w + j) 0 ∙ rows_at f w xs a.1 k j d (omega arith) l

-- and so in the page of such rows, if it fits its field
pub page_at : {X : Type 0} (f : X → List ℕ) (w : ℕ) (xs : List X) (a b : ℕ) (bs : List ℕ) → bs ≡ page (a ∷ (b ∷ all_rows f xs)) → AllOf (λ x. length (f x) ≡ w) xs →
    (k j : ℕ) (d : X) → k < length xs → j < w → get_or (f (get_or xs k d)) j 0 < 256 ^ 4 → get_or (record_of w bs k) j 0 ≡ get_or (f (get_or xs k d)) j 0
unfolding page
page_at f w xs a b bs e s k j d h l v =
    let ms : List ℕ = all_rows f xs in
    let z : ℕ = 128 - length (a ∷ (b ∷ ms)) in
    let two : 2 + (k * w + j) ≡ suc (suc (k * w + j)) = omega arith in
    let there : get_or (padded 128 (a ∷ (b ∷ ms))) (2 + (k * w + j)) 0 ≡ get_or (f (get_or xs k d)) j 0 =
    ap (λ (i : ℕ). get_or ((a ∷ (b ∷ ms)) ++ replicate z 0) i 0) two ∙ at_filled ms z (k * w + j) ∙ rows_at f w xs s k j d h l in
    get_or-take w (drop (k * w) (drop 2 (numbers_in bs))) j 0 l
    ∙ get_or-drop (k * w) (drop 2 (numbers_in bs)) j 0
    ∙ get_or-drop 2 (numbers_in bs) (k * w + j) 0
    ∙ ap (λ (x : List ℕ). get_or (numbers_in x) (2 + (k * w + j)) 0) e
    ∙ at_row (padded 128 (a ∷ (b ∷ ms))) (2 + (k * w + j)) (subst (λ (n : ℕ). n < 256 ^ 4) (sym there) v)
    ∙ there
