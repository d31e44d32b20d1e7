-- What is taken on a leg, class by class.
use Rattle.std.proofs.Common.{◌≡◌, ℕ, zero, suc, ◌+◌, List, [], ◌∷◌, ◌++◌, refl, ap, ◌∙◌, arith}
use Rattle.meaning.specs.House.{Booking, taken}
use Rattle.meaning.specs.Calls.{each_class}

-- what is taken in each class, one class more
each_suc : (bs : List Booking) (i c n : ℕ) → each_class bs i c (suc n) ≡ each_class bs i c n ++ (taken bs i (c + n) ∷ [])
unfolding each_class
each_suc bs i c zero = ap (λ k. taken bs i k ∷ []) (omega arith)
each_suc bs i c (suc n) =
    ap (λ rest. taken bs i c ∷ rest) (each_suc bs i (suc c) n ∙ ap (λ k. each_class bs i (suc c) n ++ (taken bs i k ∷ [])) (omega arith))

pub each_more : (bs : List Booking) (i n : ℕ) → each_class bs i 0 (n + 1) ≡ each_class bs i 0 n ++ (taken bs i n ∷ [])
each_more bs i n = ap (each_class bs i 0) (omega arith) ∙ each_suc bs i 0 n ∙ ap (λ k. each_class bs i 0 n ++ (taken bs i k ∷ [])) (omega arith)

pub each_none : (bs : List Booking) (i : ℕ) → each_class bs i 0 0 ≡ []
unfolding each_class
each_none bs i = refl
