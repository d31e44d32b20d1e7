-- A page of the log.
use Rattle.std.proofs.Common.{◌+◌, sym, ap, ◌∙◌, arith}
use Rattle.flash.specs.Pages.{page_told}
use Rattle.journal_start.proofs.Steps.{ring_few, past_at, blank_ends, spoilt_passes, call_done}
use Rattle.store.proofs.Lents.{lent_none}
use Rattle.wire.specs.Rows.{decoded}
use Rattle.journal_start.proofs.take_logged.Goals as goal

pub overflow_add-n : goal.overflow_add-n
overflow_add-n c = let a = c.requires.fits.ranges.more in let b = ring_few c.args.m.now.limits c.requires.sound.limits in omega arith

pub overflow_add-n-in-Written : goal.overflow_add-n-in-Written
overflow_add-n-in-Written c = let a = c.requires.fits.ranges.more in let b = ring_few c.args.m.now.limits c.requires.sound.limits in omega arith

pub returns-in-Blank : goal.returns-in-Blank
returns-in-Blank c = record {
  next =
      blank_ends c.args.m.now c.args.in_use c.args.n (page_told c.args.page) c.found_in.result (ap page_told c.in-Blank.is) c.requires.fits.ranges.within c.requires.fits.ranges.more
      c.requires.fits.holds c.found_in.ensures;
  sound = c.requires.sound;
  lent = lent_none c.args.m.now;
}

pub returns-in-Spoilt : goal.returns-in-Spoilt
returns-in-Spoilt c =
    let m = c.args.m.now in
    let r = c.replay_on.ensures in
    record {
      next =
          past_at m m c.new-layout.result.limits c.replay_on.result c.args.in_use (c.args.n + 1) _ (c.new-layout.ensures ∙ c.limits.ensures) (lent_none m) r.reading r.ranges r.past c.requires.fits.holds
          (spoilt_passes m c.args.in_use c.args.n (page_told c.args.page) (ap page_told c.in-Spoilt.is));
      sound = c.requires.sound;
      lent = lent_none m;
    }

pub returns-in-Some : goal.returns-in-Some
returns-in-Some c =
    let m = c.args.m.now in
    let n = c.answer_row.new.m in
    let d = c.answer_row.ensures.done in
    let r = c.replay_on-in-Written.ensures in
    record {
      next =
          past_at m n c.new-layout.result.limits c.replay_on-in-Written.result c.args.in_use (c.args.n + 1) _ ((c.new-layout.ensures ∙ c.limits.ensures) ∙ sym d.lent.limits) d.lent r.reading r.ranges r.past d.idle
          (call_done m c.args.in_use c.args.n (page_told c.args.page) n c.in-Written.bytes.now (decoded c.in-Some.part.now) (ap page_told c.in-Written.is) c.in-Some.ensures.0 d.leaves);
      sound = c.answer_row.new.m.sound;
      lent = d.lent;
    }
