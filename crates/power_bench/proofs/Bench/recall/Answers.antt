-- Memory that fits is opened as a new house, in which nobody waits.
use Rattle.std.proofs.Common.{ap}
use Rattle.meaning.specs.House.{House}
use Rattle.meaning.specs.Statements.{some_could}
use Rattle.meaning.specs.Promise.{thin}
use Rattle.power_bench.proofs.Bench.recall.Goals as goal

pub play-requires : goal.play-requires
unfolding some_could
play-requires c = record {
  sound = c.open-m.result.sound;
  idle = ap (λ (h : House). some_could h h.bookings) (c.open-m.ensures.house thin);
}
