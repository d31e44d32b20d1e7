-- An act that was done is one of those that a tear leaves.
use Rattle.std.proofs.Common.{◌/◌, refl, ap, inl, inr}
use Rattle.std.proofs.lemmas.Bool.{cases_eq, eq-eqb, ne_eqb}
use Rattle.meaning.specs.Lines.{pick}
use Rattle.meaning.specs.Calls.{Answer}
use Rattle.meaning.specs.Chip.{Chip, blank, written_on}
use Rattle.journal.specs.Acts.{Act, write, wipe, say, done, Torn}

pub done_is_torn : (d : Chip) (x : Act Answer) → Torn d x (done d x)
unfolding done Torn
done_is_torn d (write k bs) = λ j. elim (cases_eq j k) [
  | inl e ↦ inr (e, inl (ap (λ b. pick b (written_on (d j) bs) (d j)) (eq-eqb j k e)))
  | inr n ↦ inl (ap (λ b. pick b (written_on (d j) bs) (d j)) (ne_eqb j k n))
]
done_is_torn d (wipe b) = λ j. elim (cases_eq (j / 16) b) [
  | inl e ↦ inr (e, inl (ap (λ x. pick x blank (d j)) (eq-eqb (j / 16) b e)))
  | inr n ↦ inl (ap (λ x. pick x blank (d j)) (ne_eqb (j / 16) b n))
]
done_is_torn d (say a) = λ j. refl
