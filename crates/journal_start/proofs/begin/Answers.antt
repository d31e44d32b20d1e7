-- A checkpoint without a page: its log comes next.
use Rattle.std.proofs.Common.{◌∙◌, arith}
use Rattle.journal_start.proofs.Steps.{past_at, none_kept}
use Rattle.journal_start.proofs.begin.Goals as goal

pub returns-else-pages_of-gt0 : goal.returns-else-pages_of-gt0
returns-else-pages_of-gt0 c =
    let m = c.args.m.now in
    let n = c.set_clock.new.self in
    let r = c.replay_on.ensures in
    let e = c.pages_of.ensures.pages in
    let k = none_kept m n c.args.in_use c.requires.new c.set_clock.ensures.house (omega arith) in
    record {
      at = past_at m n c.new.result.limits c.replay_on.result c.args.in_use 0 _ (c.new.ensures ∙ c.limits.ensures) c.set_clock.ensures.lent r.reading r.ranges r.past k.0 k.1;
      sound = c.set_clock.new.self.sound;
      lent = c.set_clock.ensures.lent;
    }
