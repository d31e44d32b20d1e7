-- A log that has come as far as the ring goes has ended.
use Rattle.std.proofs.Common.{◌*◌, ◌≤◌, ap, arith}
use Rattle.std.proofs.lemmas.Bool.{le-ltb}
use Rattle.journal.specs.Start as start
use Rattle.journal_rows.specs.Layout.{ring_blocks}
use Rattle.limits.specs.Opening.{limits_mean}
use Rattle.journal_start.proofs.Steps.{found_ranges}
use Rattle.journal_start.proofs.replay_on.Goals as goal

pub returns-else-page-ring_blocks : goal.returns-else-page-ring_blocks
returns-else-page-ring_blocks c = record {
  reading = λ can h.
      (let r = c.ring_blocks.ensures.blocks can in
      let a : 16 * ring_blocks (limits_mean can c.args.layout.now.limits) ≤ c.args.page = omega arith in
      rw (le-ltb c.args.page (16 * ring_blocks (limits_mean can c.args.layout.now.limits)) a) (ap start.Reading.ready (c.found_in.ensures (limits_mean can c.args.layout.now.limits) h)));
  ranges = found_ranges c.args.layout.now.limits c.args.in_use c.found_in.result c.args.page c.requires.within c.requires.page c.found_in.ensures;
  past = λ m i. i;
}
