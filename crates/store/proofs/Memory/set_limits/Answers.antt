-- the leg has the other limits, and what is taken stays
use Rattle.std.proofs.Common.{◌≡◌, ℕ, ◌-◌, true, List, ◌++◌, length, take, sym, refl, ap, ◌∙◌, arith, rules}
use borrow.Rule.Slice.PartMut.{post_of}
use Rattle.std.proofs.lemmas.List.{take_at}
use Rattle.meaning.specs.Calls.{with_limits, falling, all_to}
use Rattle.meaning.specs.Lines as lines
use Rattle.records.specs.declared.Leg.{Leg}
use Rattle.records.specs.Means.{leg_means}
use Rattle.store.specs.Range.{FineLeg}
use Rattle.store.specs.Whole.{words}
use Rattle.store.proofs.Kept as kept
use Rattle.store.proofs.Memory.set_limits.Goals as goal

pub store_leg-requires : goal.store_leg-requires
store_leg-requires c = kept.leg_there (words c.args.self.now) c.args.self.now.sound c.args.i c.requires.there

-- the leg that is stored: its limits are those that were given, and all else is as it was loaded
module _ (g : Leg) (xs ys : List ℕ) (n : ℕ) (e : ys ≡ xs) (k : g.classes ≡ length xs) where
  abbrev other : Leg
  other = record { from = g.from; to = g.to; leaves = g.leaves; arrives = g.arrives; classes = g.classes; limits = ys ++ post_of 0 n g.limits }

  taken_limits : take g.classes other.limits ≡ xs
  taken_limits = (λ d. take (k d) (e d ++ post_of 0 n g.limits)) ∙ take_at xs (post_of 0 n g.limits) (length xs) refl

  other_fine : FineLeg g → falling xs ≡ true → all_to 1000 xs ≡ true → FineLeg other
  other_fine f p q = record {
    from = f.from;
    to = f.to;
    leaves = f.leaves;
    arrives = f.arrives;
    some = f.some;
    classes = f.classes;
    falling = ap falling taken_limits ∙ p;
    small = ap (all_to 1000) taken_limits ∙ q;
  }

  other_means : (m : lines.Leg) → leg_means g ≡ m → leg_means other ≡ with_limits m xs
  other_means m h = (λ d. record { from = g.from; to = g.to; leaves = g.leaves; arrives = g.arrives; limits = taken_limits d }) ∙ ap (λ (z : lines.Leg). with_limits z xs) h

pub invariant_of-self : goal.invariant_of-self
invariant_of-self c =
    let g : Leg = c.leg-g.result in
    let xs : List ℕ = c.args.limits.now in
    let ys : List ℕ = c.copy_from_slice.new.self in
    let n : ℕ = length xs - 0 in
    let e : ys ≡ xs = c.copy_from_slice.ensures.after in
    let k : g.classes ≡ length xs = c.leg-g.ensures.classes ∙ sym c.requires.classes in
    let a = c.store_leg.ensures in
    record {
      sound = kept.limited_sound (words c.args.self.now) c.args.self.now.sound c.args.i c.requires.there (other g xs ys n e k) c.store_leg.new.legs
          (other_fine g xs ys n e k c.leg-g.ensures.fine c.requires.falling c.requires.small) a.this a.others (λ j x m. a.beside j x (omega arith)) (search rules);
    }

pub returns-clause-house : goal.returns-clause-house
returns-clause-house c =
    let g : Leg = c.leg-g.result in
    let xs : List ℕ = c.args.limits.now in
    let ys : List ℕ = c.copy_from_slice.new.self in
    let n : ℕ = length xs - 0 in
    let e : ys ≡ xs = c.copy_from_slice.ensures.after in
    let k : g.classes ≡ length xs = c.leg-g.ensures.classes ∙ sym c.requires.classes in
    let a = c.store_leg.ensures in
    kept.limited_house (words c.args.self.now) c.args.self.now.sound c.args.i c.requires.there (other g xs ys n e k) c.store_leg.new.legs
    (other_fine g xs ys n e k c.leg-g.ensures.fine c.requires.falling c.requires.small) a.this a.others (λ j x m. a.beside j x (omega arith)) (search rules) xs (other_means g xs ys n e k _ c.leg-g.ensures.means)
