-- turn by turn what is left to serve is the same, and at the end nobody is
use Rattle.std.proofs.Common.{◌≡◌, ap, arith}
use Rattle.meaning.specs.House.{House}
use Rattle.meaning.proofs.Serve.{waiting}
use Rattle.store.specs.Whole.{house}
use Rattle.seating.specs.Serving.{all_served}
use Rattle.seating.proofs.Turns.{way_on, way_ends, fewer_wait, served_idle}
use Rattle.seating.proofs.serve.Goals as goal

pub loop-k-smaller : goal.loop-k-smaller
loop-k-smaller c =
    omega (arith, ap (λ (g : House). waiting g.bookings) c.set_stand.ensures.house, fewer_wait (house c.loop-k.memory) c.in-Some.k c.args.until c.in-Some.ensures.first)

pub loop-k-preserved : goal.loop-k-preserved
loop-k-preserved c =
    way_on c.args.memory.now c.loop-k.memory c.set_stand.new.self c.args.until c.in-Some.k c.loop-k.invariant c.in-Some.ensures.first
    c.set_stand.ensures.house c.set_stand.ensures.lent

pub returns : goal.returns
returns c =
    let all : house c.loop-k.memory ≡ all_served (house c.args.memory.now) c.args.until = way_ends c.args.memory.now c.loop-k.memory c.args.until c.loop-k.invariant c.in_default.ensures.first in
    record { house = all; idle = served_idle (house c.args.memory.now) (house c.loop-k.memory) c.args.until all; lent = c.loop-k.invariant.lent }
