-- the cheapest of all cuts of as many legs as there are
use Rattle.std.proofs.Common.{length, arith}
use Rattle.store.specs.Whole.{house}
use Rattle.pricing.proofs.Cuts.{best_way}
use Rattle.pricing.proofs.price.Goals as goal

pub returns : goal.returns
returns c =
    let v = c.cheapest.ensures.value (length c.args.journey.now) (omega arith) in
    record { value = v; best = best_way (house c.args.m.now).fares (house c.args.m.now).legs c.args.class c.args.journey.now c.cheapest.result v; bound = omega arith }
