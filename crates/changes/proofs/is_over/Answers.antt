use Rattle.std.proofs.Common.{arith}
use Rattle.meaning.specs.Calls.{the_booking}
use Rattle.records.specs.Means.{leg_means}
use Rattle.store.specs.Whole.{house}
use Rattle.changes.proofs.Timed.{over_by}
use Rattle.changes.proofs.is_over.Goals as goal

pub returns : goal.returns
returns c =
    over_by c.args.tick (house c.args.m.now).legs c.booking-b.result (the_booking (house c.args.m.now) c.args.k) (leg_means c.leg-first.result) c.has_ended.result
    (omega (arith, c.booking-b.ensures.fine.any)) c.booking-b.ensures.means c.leg-first.ensures.means c.has_ended.ensures
