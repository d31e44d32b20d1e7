-- turn by turn one leg more on which the seats are taken, none of them twice
use Rattle.std.proofs.Common.{◌≡◌, ◌<◌, false, length, get_or, take, arith}
use Rattle.meaning.specs.House.{goes}
use Rattle.counts.proofs.Journeys.{new_leg, on_none, on_more, on_fresh, on_taken}
use Rattle.counts.proofs.take_all.Goals as goal

pub loop-x-init : goal.loop-x-init
loop-x-init c = on_none _ _

pub take_on-requires : goal.take_on-requires
take_on-requires c =
    let t : c.loop-x.x < c.args.b.now.count = omega arith in
    let l : c.loop-x.x < length c.args.b.now.legs = omega arith in
    let f : goes (take c.loop-x.x c.args.b.now.legs) (get_or c.args.b.now.legs c.loop-x.x 0) ≡ false = new_leg c.args.b.now.legs c.args.b.now.count c.loop-x.x c.requires.ready.apart t l in
    record {
      leg = omega (arith, c.requires.ready.there c.loop-x.x t);
      class = c.requires.ready.class;
      few = λ d h. omega (arith, c.requires.few c.loop-x.x d t h, on_fresh c.args.b.now c.loop-x.x l f c.args.legs.now c.loop-x.legs d c.loop-x.invariant (omega (arith, c.requires.ready.class)));
    }

pub loop-x-preserved : goal.loop-x-preserved
loop-x-preserved c =
    let t : c.loop-x.x < c.args.b.now.count = omega arith in
    let l : c.loop-x.x < length c.args.b.now.legs = omega arith in
    let f : goes (take c.loop-x.x c.args.b.now.legs) (get_or c.args.b.now.legs c.loop-x.x 0) ≡ false = new_leg c.args.b.now.legs c.args.b.now.count c.loop-x.x c.requires.ready.apart t l in
    on_more c.args.b.now c.loop-x.x l f c.args.legs.now c.loop-x.legs _ c.loop-x.invariant c.take_on.ensures

pub returns : goal.returns
returns c = let e : c.loop-x.x ≡ c.args.b.now.count = omega arith in on_taken c.args.legs.now c.loop-x.legs c.args.b.now (simp e at c.loop-x.invariant)
