-- Numbers read one after the other: what was read so far, and what is read from the rest, make the whole.
use Rattle.std.proofs.Common.{◌≡◌, ℕ, zero, suc, ◌+◌, ◌-◌, ◌<◌, true, false, eqb, List, [], ◌∷◌, ◌++◌, length, sym, refl, ap, ◌∙◌, ap₂, append_assoc, append-nil, arith}
use Rattle.meaning.specs.Lines.{pick}
use Rattle.scan.specs.Words.{Read, got, bad, and_then, onto, next_word, number_in, numbers_in, list_in}

pub onto_onto : (us vs : List ℕ) (r : Read (List ℕ)) → onto us (onto vs r) ≡ onto (us ++ vs) r
onto_onto us vs (got ws rest) = ap (λ l. got l rest) (sym (append_assoc us vs ws))
onto_onto us vs (bad left) = refl

pub onto_none : (r : Read (List ℕ)) → onto [] r ≡ r
onto_none (got ws rest) = refl
onto_none (bad left) = refl

-- what was read before, one number and what is read behind it; or a number that did not fit
onto_next : (us : List ℕ) (r : Read ℕ) (f : List ℕ → Read (List ℕ)) → onto us (and_then r (λ v rest. onto (v ∷ []) (f rest))) ≡ and_then r (λ v rest. onto (us ++ (v ∷ [])) (f rest))
onto_next us (got v rest) f = onto_onto us (v ∷ []) (f rest)
onto_next us (bad left) f = refl

-- the next of m numbers, of which i were read before
pub numbers_next : (m i : ℕ) (us bs : List ℕ) (r : Read ℕ) → i < m → r ≡ number_in bs → onto us (numbers_in (m - i) bs) ≡ and_then r (λ v rest. onto (us ++ (v ∷ [])) (numbers_in (m - (i + 1)) rest))
unfolding numbers_in
numbers_next m i us bs r h e =
    let n : m - i ≡ suc (m - (i + 1)) = omega arith in
    ap (λ k. onto us (numbers_in k bs)) n
    ∙ ap (λ q. onto us (and_then q (λ v rest. onto (v ∷ []) (numbers_in (m - (i + 1)) rest)))) (sym e)
    ∙ onto_next us r (numbers_in (m - (i + 1)))

-- all of them were
pub numbers_done : (us bs : List ℕ) → onto us (numbers_in 0 bs) ≡ got us bs
unfolding numbers_in
numbers_done us bs = ap (λ l. got l bs) (append-nil us)

-- the next number of a list, of at most m numbers
pub list_next : (m i : ℕ) (us bs : List ℕ) (r : Read ℕ) → i < m → eqb (length (next_word bs)) 0 ≡ false → r ≡ number_in bs →
    onto us (list_in (m - i) bs) ≡ and_then r (λ v rest. onto (us ++ (v ∷ [])) (list_in (m - (i + 1)) rest))
unfolding list_in
list_next m i us bs r h s e =
    let n : m - i ≡ suc (m - (i + 1)) = omega arith in
    ap (λ k. onto us (list_in k bs)) n
    ∙ ap₂ (λ t q. onto us (pick t (got [] []) (and_then q (λ v rest. onto (v ∷ []) (list_in (m - (i + 1)) rest))))) s (sym e)
    ∙ onto_next us r (list_in (m - (i + 1)))

-- the end of the line, however many may still come
pub list_done : (n : ℕ) (us bs : List ℕ) → eqb (length (next_word bs)) 0 ≡ true → onto us (list_in n bs) ≡ got us []
unfolding list_in
list_done zero us bs e = ap (λ t. onto us (pick t (got [] []) (bad (length (next_word bs))))) e ∙ ap (λ l. got l []) (append-nil us)
list_done (suc n) us bs e = ap (λ t. onto us (pick t (got [] []) (and_then (number_in bs) (λ v rest. onto (v ∷ []) (list_in n rest))))) e ∙ ap (λ l. got l []) (append-nil us)

-- one number too many
pub list_over : (us bs : List ℕ) → eqb (length (next_word bs)) 0 ≡ false → onto us (list_in 0 bs) ≡ bad (length (next_word bs))
unfolding list_in
list_over us bs e = ap (λ t. onto us (pick t (got [] []) (bad (length (next_word bs))))) e

-- as many numbers are read as were asked for
pub numbers_length : (n : ℕ) (bs ns rest : List ℕ) → numbers_in n bs ≡ got ns rest → length ns ≡ n
unfolding numbers_in
numbers_length zero bs ns rest e = let z : ns ≡ [] = cc in ap length z
numbers_length (suc n) bs ns rest e = first (number_in bs) e (numbers_length n)
  where
    last : (v : ℕ) (r : Read (List ℕ)) → onto (v ∷ []) r ≡ got ns rest → ((vs end : List ℕ) → r ≡ got vs end → length vs ≡ n) → length ns ≡ suc n
    last v (got vs end) f ih = let z : ns ≡ v ∷ vs = cc in omega (arith, ap length z, ih vs end refl)
    last v (bad left) f ih = let z : ◌≡◌ {A = ℕ} 0 1 = cc in absurd (omega arith)

    first : (r : Read ℕ) → and_then r (λ v end. onto (v ∷ []) (numbers_in n end)) ≡ got ns rest → ((cs vs end : List ℕ) → numbers_in n cs ≡ got vs end → length vs ≡ n) → length ns ≡ suc n
    first (got v cs) f ih = last v (numbers_in n cs) f (ih cs)
    first (bad left) f ih = let z : ◌≡◌ {A = ℕ} 0 1 = cc in absurd (omega arith)
