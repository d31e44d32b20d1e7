-- A call is begun, and what it owes is done.
use Rattle.std.proofs.Common.{◌≤◌, sym, subst}
use Rattle.std.proofs.lemmas.Bool.{both_ways}
use Rattle.limits.specs.declared.Limits.{Limits}
use Rattle.meaning.specs.Promise.{room_for}
use Rattle.journal_steps.specs.Steps.{chip_limits}
use Rattle.session.specs.Acts.{at_rest}
use Rattle.driver.proofs.Runs.{played}
use Rattle.driver.proofs.play_row.Goals as goal

pub unreachable-requires : goal.unreachable-requires
unreachable-requires g c = both_ways (at_rest c.args.session.now) c.if-not-begun.ensures.0 c.requires.rests

pub finish-requires : goal.finish-requires
finish-requires g c =
    let k = c.if-not-begun.ensures in
    record { ready = k.ready; size = subst (λ (l : Limits). room_for (chip_limits l) ≤ g.D.Device.blocks c.args.device.now) (sym k.lent.limits) c.requires.size }

pub returns : goal.returns
returns g c = record { played = played _ _ _ _ _ _ _ _ _ _ _ c.if-not-begun.ensures c.finish.ensures.done c.finish.ensures.kept c.finish.ensures.rests; size = c.finish.ensures.size }
