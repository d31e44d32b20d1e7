-- An array made by a function of the place, whose captures stay as they are.
use Rattle.std.proofs.Common.{◌≡◌, ℕ, zero, suc, ◌+◌, ◌<◌, ◌≤◌, List, get_or, ap, ◌∙◌, ⊎_elim, subst, arith}
use Rattle.std.proofs.lemmas.Bool.{cases_lt}
use Rattle.std.specs.Array.{IsFromFnResultFrom}
use denote.Param.Members.{Mut, Called}

pub each_place : {F : Type 0} (g : Mut F (ℕ × Unit {0}) ℕ) (says : F → ℕ → ℕ) → ((f h : F) (i y : ℕ) → Called g f (i, tt) y h → (h ≡ f) × (y ≡ says f i)) →
    (f : F) (ys : List ℕ) (i n : ℕ) → IsFromFnResultFrom g f ys i n → (k : ℕ) → i ≤ k → k < i + n → get_or ys k 0 ≡ says f k
each_place g says s f ys i zero w k a b = absurd (omega arith)
each_place g says s f ys i (suc n) (h, y, at, call, rest) k a b =
    ⊎_elim
    (λ l. each_place g says s h ys (i + 1) n rest k (omega arith) (omega arith) ∙ ap (λ x. says x k) (s f h i y call).0)
    (λ l. let e : i ≡ k = omega arith in subst (λ j. get_or ys j 0 ≡ says f j) e (at.1 0 ∙ (s f h i y call).1))
    (cases_lt i k)
