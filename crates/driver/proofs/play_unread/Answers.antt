-- What can't be read is refused.
use Rattle.std.proofs.lemmas.Bool.{both_ways}
use Rattle.session.specs.Acts.{at_rest}
use Rattle.driver.proofs.Runs.{played}
use Rattle.driver.proofs.play_unread.Goals as goal

pub unreachable-requires : goal.unreachable-requires
unreachable-requires g c = both_ways (at_rest c.args.session.now) c.if-not-begun.ensures.0 c.requires.rests

pub finish-requires : goal.finish-requires
finish-requires g c = record { ready = c.if-not-begun.ensures.ready; size = c.requires.size }

pub returns : goal.returns
returns g c = record { played = played _ _ _ _ _ _ _ _ _ _ _ c.if-not-begun.ensures c.finish.ensures.done c.finish.ensures.kept c.finish.ensures.rests; size = c.finish.ensures.size }
