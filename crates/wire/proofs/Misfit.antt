-- A row that is no call is refused at its first byte that doesn't fit.
use Rattle.std.proofs.Common.{◌≡◌, ℕ, zero, suc, ◌+◌, ◌-◌, ◌*◌, ◌<◌, ◌≤◌, Bool, true, false, List, [], ◌∷◌, ◌++◌, length, get_or, take, drop, replicate, sym, refl, ap, ◌∙◌, subst, ⊎_elim, append-nil, arith, lit<, lit≤, length-append}
use lib.ListN.{length-replicate}
use Rattle.std.proofs.lemmas.List.{get_or_append_left, get_or-take, length-take-le, take_all}
use Rattle.std.proofs.lemmas.Bool.{cases_lt, cases_order}
use Rattle.meaning.specs.Calls.{Call, garbled, call_number}
use Rattle.protocol.specs.Forms.{field_count, has_list, made}
use Rattle.wire.specs.Bytes.{Bytes, numbers_in}
use Rattle.wire.specs.Rows.{list_at, extent, decoded}
use Rattle.wire.specs.Theorems.{FirstMisfit, Misfits}
use Rattle.protocol.proofs.Numbers.{each_call}
use Rattle.wire.proofs.Decoding.{extent_listed, extent_plain, decoded_empty, decoded_unknown, decoded_short, decoded_long, decoded_whole, list_within}
use Rattle.wire.proofs.Back.{Whole, no_call, whole_row}

-- a call that is made of parts has their number
made_number : (k : ℕ) → k ≤ 10 → (fs list : List ℕ) → call_number (made k fs list) ≡ k
unfolding call_number
made_number = each_call (λ k. (fs list : List ℕ) → call_number (made k fs list) ≡ k)
    (λ fs list. refl) (λ fs list. refl) (λ fs list. refl) (λ fs list. refl) (λ fs list. refl) (λ fs list. refl) (λ fs list. refl) (λ fs list. refl) (λ fs list. refl) (λ fs list. refl) (λ fs list. refl)

-- a row as long as it should be is a call
whole_is_call : (bs : List ℕ) (k : ℕ) → Whole bs k → call_number (decoded bs) ≤ 10
whole_is_call bs k w = subst (λ c. call_number c ≤ 10) (decoded_whole bs k w.some_byte w.first w.known w.long) (subst (λ m. m ≤ 10) (sym (made_number k w.known (take (field_count k) (numbers_in (drop 1 bs))) (numbers_in (drop (list_at k) bs)))) w.known)

-- how long a row should be is known from its bytes up to there
extent_agree : (k : ℕ) (bs cs : List ℕ) → ((i : ℕ) → i < extent k bs → get_or cs i 0 ≡ get_or bs i 0) → extent k cs ≡ extent k bs
extent_agree k bs cs h = go (has_list k) refl
  where
    go : (t : Bool) → t ≡ has_list k → extent k cs ≡ extent k bs
    go true l =
        let a = extent_listed k (field_count k) bs refl l in
        let b = extent_listed k (field_count k) cs refl l in
        let s = h (1 + 4 * field_count k) (omega arith) in
        omega arith
    go false l = extent_plain k (field_count k) cs refl l ∙ sym (extent_plain k (field_count k) bs refl l)

-- and it is at least its first byte
extent_some : (k : ℕ) (bs : List ℕ) → 0 < extent k bs
extent_some k bs = let w = list_within k bs in omega (arith, w.0, w.1)

-- zeros behind a row are what is read there anyway
zeros : (m i : ℕ) → get_or {A = ℕ} (replicate m 0) i 0 ≡ 0
zeros zero i = refl
zeros (suc m) zero = refl
zeros (suc m) (suc i) = zeros m i

padded : (bs : List ℕ) (m i : ℕ) → get_or (bs ++ replicate m 0) i 0 ≡ get_or bs i 0
padded [] m i = zeros m i
padded (b ∷ bs) m zero = refl
padded (b ∷ bs) m (suc i) = padded bs m i

zeros_bytes : (m : ℕ) → Bytes (replicate m 0)
unfolding Bytes
zeros_bytes zero = tt
zeros_bytes (suc m) = (lit< tt, zeros_bytes m)

-- nothing begins some call, as to pay for a booking
some_call : (rest : List ℕ) × Bytes rest × (call_number (decoded rest) ≤ 10)
unfolding extent Bytes
some_call = (
  3 ∷ (0 ∷ (0 ∷ (0 ∷ (0 ∷ [])))),
  (lit< tt, (lit< tt, (lit< tt, (lit< tt, (lit< tt, tt))))),
  whole_is_call (3 ∷ (0 ∷ (0 ∷ (0 ∷ (0 ∷ []))))) 3 (record { some_byte = lit< tt; first = refl; known = lit≤ tt; long = refl }),
)

-- a place is told by what can't be read
same_place : (c : Call) (m n : ℕ) → garbled m ≡ c → c ≡ garbled n → n ≡ m
same_place c m n e f = cc

at_start : (bs : List ℕ) (n : ℕ) → n ≡ 0 → (0 < length bs → (rest : List ℕ) → call_number (decoded (take 1 bs ++ rest)) ≤ 10 → ⊥) → FirstMisfit bs n
at_start bs n e h = subst (FirstMisfit bs) (sym e) (record { within = omega arith; before = some_call; with_it = h })

too_short : (bs : List ℕ) (k n : ℕ) → 0 < length bs → k ≡ get_or bs 0 0 → k ≤ 10 → length bs < extent k bs → n ≡ length bs → FirstMisfit bs n
too_short bs k n s f le l e =
    let m : ℕ = extent k bs - length bs in
    let cs : List ℕ = bs ++ replicate m 0 in
    let long : length cs ≡ length bs + m = length-append bs (replicate m 0) ∙ ap (λ x. length bs + x) (length-replicate m 0) in
    let x : extent k cs ≡ extent k bs = extent_agree k bs cs (λ i h. padded bs m i) in
    let w : Whole cs k = record { some_byte = omega arith; first = f ∙ sym (padded bs m 0); known = le; long = omega arith } in
    record {
      within = omega arith;
      before = (replicate m 0, zeros_bytes m, subst (λ p. call_number (decoded (p ++ replicate m 0)) ≤ 10) (sym (take_all n bs (omega arith))) (whole_is_call cs k w));
      with_it = λ h. absurd (omega arith);
    }

too_long : (k : ℕ) (rest : List ℕ) (n : ℕ) → k ≤ 10 → extent k (k ∷ rest) < length (k ∷ rest) → n ≡ extent k (k ∷ rest) → FirstMisfit (k ∷ rest) n
unfolding Bytes
too_long k rest n le l e =
    let bs : List ℕ = k ∷ rest in
    let long : length (take n bs) ≡ n = length-take-le n bs (omega arith) in
    let x : extent k (take n bs) ≡ extent k bs = extent_agree k bs (take n bs) (λ i h. get_or-take n bs i 0 (omega arith)) in
    let some : 0 < extent k bs = extent_some k bs in
    let w : Whole (take n bs) k = record { some_byte = omega arith; first = sym (get_or-take n bs 0 0 (omega arith)); known = le; long = omega arith } in
    record {
      within = omega arith;
      before = ([], tt, subst (λ p. call_number (decoded p) ≤ 10) (sym (append-nil (take n bs))) (whole_is_call (take n bs) k w));
      with_it = λ h r c.
          let cs : List ℕ = take (n + 1) bs ++ r in
          let front : length (take (n + 1) bs) ≡ n + 1 = length-take-le (n + 1) bs (omega arith) in
          let all : length cs ≡ length (take (n + 1) bs) + length r = length-append (take (n + 1) bs) r in
          let agree : (i : ℕ) → i < extent k bs → get_or cs i 0 ≡ get_or bs i 0 = λ i j. get_or_append_left (take (n + 1) bs) r 0 i (omega arith) ∙ get_or-take (n + 1) bs i 0 (omega arith) in
          let y : extent k cs ≡ extent k bs = extent_agree k bs cs agree in
          let v : Whole cs (get_or cs 0 0) = whole_row cs c in
          let z : length cs ≡ extent k cs = v.long ∙ ap (λ q. extent q cs) (agree 0 some) in
          omega arith;
    }

pub misfits : Misfits
misfits [] n g = at_start [] n (same_place (decoded []) 0 n (decoded_empty [] 0 refl refl) g) (λ h. absurd (omega arith))
misfits (k ∷ rest) n g = ⊎_elim unknown known (cases_lt 10 k)
  where
    unknown : 10 < k → FirstMisfit (k ∷ rest) n
    unknown l =
        at_start (k ∷ rest) n (same_place (decoded (k ∷ rest)) 0 n (decoded_unknown (k ∷ rest) k 0 (omega arith) refl l refl) g)
        (λ h r c. let w = whole_row (k ∷ r) c in let q : k ≤ 10 = w.known in omega arith)

    known : k ≤ 10 → FirstMisfit (k ∷ rest) n
    known l =
        ⊎_elim
        (λ e. no_call (decoded (k ∷ rest)) n (sym g) (whole_is_call (k ∷ rest) k (record { some_byte = omega arith; first = refl; known = l; long = e })))
        (λ o. ⊎_elim
        (λ p. too_short (k ∷ rest) k n (omega arith) refl l p (same_place (decoded (k ∷ rest)) _ n (decoded_short (k ∷ rest) k _ (omega arith) refl l p refl) g))
        (λ p. too_long k rest n l p (same_place (decoded (k ∷ rest)) _ n (decoded_long (k ∷ rest) k _ (omega arith) refl l p refl) g))
        o)
        (cases_order (length (k ∷ rest)) (extent k (k ∷ rest)))
