-- turn by turn one leg more on which the seats are given back, none of them twice
use Rattle.std.proofs.Common.{◌≡◌, ◌<◌, false, length, get_or, take, arith}
use Rattle.meaning.specs.House.{goes}
use Rattle.counts.proofs.Journeys.{new_leg, on_none, on_less, on_fresh, on_given}
use Rattle.counts.proofs.give_all.Goals as goal

pub loop-y-init : goal.loop-y-init
loop-y-init c = on_none _ _

pub give_on-requires : goal.give_on-requires
give_on-requires c =
    let t : c.loop-y.y < c.args.b.now.count = omega arith in
    let l : c.loop-y.y < length c.args.b.now.legs = omega arith in
    let f : goes (take c.loop-y.y c.args.b.now.legs) (get_or c.args.b.now.legs c.loop-y.y 0) ≡ false = new_leg c.args.b.now.legs c.args.b.now.count c.loop-y.y c.requires.ready.apart t l in
    record {
      leg = omega (arith, c.requires.ready.there c.loop-y.y t);
      class = c.requires.ready.class;
      taken = λ d h. omega (arith, c.requires.taken c.loop-y.y d t h, on_fresh c.args.b.now c.loop-y.y l f c.loop-y.legs c.args.legs.now d c.loop-y.invariant (omega (arith, c.requires.ready.class)));
    }

pub loop-y-preserved : goal.loop-y-preserved
loop-y-preserved c =
    let t : c.loop-y.y < c.args.b.now.count = omega arith in
    let l : c.loop-y.y < length c.args.b.now.legs = omega arith in
    let f : goes (take c.loop-y.y c.args.b.now.legs) (get_or c.args.b.now.legs c.loop-y.y 0) ≡ false = new_leg c.args.b.now.legs c.args.b.now.count c.loop-y.y c.requires.ready.apart t l in
    on_less c.args.b.now c.loop-y.y l f c.args.legs.now c.loop-y.legs _ c.loop-y.invariant c.give_on.ensures

pub returns : goal.returns
returns c = let e : c.loop-y.y ≡ c.args.b.now.count = omega arith in on_given c.args.legs.now c.loop-y.legs c.args.b.now (simp e at c.loop-y.invariant)
