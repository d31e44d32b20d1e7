-- turn by turn a first piece of one leg more
use Rattle.std.proofs.Common.{◌≡◌, suc, ◌+◌, ◌*◌, length, sym, refl, arith}
use Rattle.std.proofs.lemmas.Bool.{eqb-true, eqb-false}
use Rattle.store.specs.Whole.{house}
use Rattle.pricing.specs.Prices.{coded}
use Rattle.pricing.proofs.Cuts.{cheaper_none, cheaper_le, to_more, cost_none, cost_some}
use Rattle.pricing.proofs.+cheapest.Goals as goal

pub returns-then-is_empty : goal.returns-then-is_empty
returns-then-is_empty t c = record { value = λ n h. cost_none n _ _ _ c.args.journey.now (eqb-true _ _ (sym c.if-is_empty.ensures)); bound = omega arith }

-- no fare for the piece
pub loop-more-preserved-in_default : goal.loop-more-preserved-in_default
loop-more-preserved-in_default t c = (
  λ n h. to_more (house c.args.m.now).fares (house c.args.m.now).legs c.args.class n c.args.journey.now c.loop-more.more c.split_at.result.0.now c.split_at.result.1.now
      0 _ (coded c.loop-more.best) (coded c.loop-more.best) c.split_at.ensures.front c.split_at.ensures.back c.in_default.ensures.value refl (c.loop-more.invariant.0 n h) (sym (cheaper_none (coded c.loop-more.best))),
  c.loop-more.invariant.1,
)

-- none for the legs left
pub loop-more-preserved-in_default-cheapest : goal.loop-more-preserved-in_default-cheapest
loop-more-preserved-in_default-cheapest t c = (
  λ n h. to_more (house c.args.m.now).fares (house c.args.m.now).legs c.args.class n c.args.journey.now c.loop-more.more c.split_at.result.0.now c.split_at.result.1.now
      (suc c.in-Some.here) 0 (coded c.loop-more.best) (coded c.loop-more.best) c.split_at.ensures.front c.split_at.ensures.back c.in-Some.ensures.value
      (c.in_default-cheapest.ensures.value n (omega arith)) (c.loop-more.invariant.0 n h) (sym (cheaper_none (coded c.loop-more.best))),
  c.loop-more.invariant.1,
)

-- both have one
pub loop-more-preserved : goal.loop-more-preserved
loop-more-preserved t c = (
  λ n h. to_more (house c.args.m.now).fares (house c.args.m.now).legs c.args.class n c.args.journey.now c.loop-more.more c.split_at.result.0.now c.split_at.result.1.now
      (suc c.in-Some.here) (suc c.in-Some-cheapest.then) (coded c.loop-more.best) (coded c.cheaper_of-best.result) c.split_at.ensures.front c.split_at.ensures.back c.in-Some.ensures.value
      (c.in-Some-cheapest.ensures.value n (omega arith)) (c.loop-more.invariant.0 n h) c.cheaper_of-best.ensures,
  cheaper_le (coded c.loop-more.best) (suc (c.in-Some.here + c.in-Some-cheapest.then)) (coded c.cheaper_of-best.result) (length c.args.journey.now * 100000000 + 1) c.cheaper_of-best.ensures c.loop-more.invariant.1
      (omega (arith, c.in-Some.ensures.bound, c.in-Some-cheapest.ensures.bound)),
)

pub returns : goal.returns
returns t c =
    let e : c.loop-more.more ≡ length c.args.journey.now = omega arith in
    record {
      value = λ n h. cost_some n (house c.args.m.now).fares (house c.args.m.now).legs c.args.class c.args.journey.now (coded c.loop-more.best) (omega (arith, eqb-false _ _ (sym c.if-is_empty.ensures))) h (λ m l. simp (sym e) (c.loop-more.invariant.0 m l));
      bound = c.loop-more.invariant.1;
    }
