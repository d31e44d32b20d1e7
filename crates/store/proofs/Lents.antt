-- The same slices and limits, over several calls.
use Rattle.std.proofs.Common.{refl, ◌∙◌}
use Rattle.store.specs.Whole.{Lent}
use Rattle.store.specs.declared.Memory.{Memory}

-- nothing done
pub lent_none : (m : Memory) → Lent m m
lent_none m = record { legs = refl; fares = refl; bookings = refl; sums = refl; sizes = refl; limits = refl }

-- one thing done, then another
pub lent_both : (a b c : Memory) → Lent a b → Lent b c → Lent a c
lent_both a b c p q = record {
  legs = q.legs ∙ p.legs;
  fares = q.fares ∙ p.fares;
  bookings = q.bookings ∙ p.bookings;
  sums = q.sums ∙ p.sums;
  sizes = q.sizes ∙ p.sizes;
  limits = q.limits ∙ p.limits;
}
