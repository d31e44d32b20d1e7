-- A page of the checkpoint, and the last of them.
use Rattle.std.proofs.Common.{◌∙◌, ap, arith}
use Rattle.std.proofs.lemmas.Result.{err_from_is_err_and}
use Rattle.flash.specs.Pages.{page_told}
use Rattle.journal_start.proofs.Steps.{past_at, page_refused, whole_refused, whole_on, none_idle}
use Rattle.store.specs.Whole.{house}
use Rattle.journal_start.proofs.take_kept.Goals as goal

pub returns-in_err-load_checkpoint : goal.returns-in_err-load_checkpoint
returns-in_err-load_checkpoint c = record {
  next =
      rw (err_from_is_err_and c.from_residual.result c.from_residual.ensures.1).1
      (page_refused c.args.m.now c.load_checkpoint.new.m c.args.in_use c.args.n (page_told c.args.page) c.in-Written.bytes.now (ap page_told c.in-Written.is) c.in_err-load_checkpoint.ensures.refused);
  sound = c.load_checkpoint.ensures.sound;
  lent = c.load_checkpoint.ensures.lent;
}

pub returns-in_default-first_fit : goal.returns-in_default-first_fit
returns-in_default-first_fit c =
    let e = c.pages_of.ensures.pages in
    let b = c.requires.fits.ranges.more in
    record {
      next =
          whole_refused c.args.m.now c.load_checkpoint.new.m c.args.in_use c.args.n (page_told c.args.page) c.in-Written.bytes.now (ap page_told c.in-Written.is) (omega arith) b
          c.in_ok-load_checkpoint.ensures.loads c.in_default-first_fit.field-0 c.in_default-first_fit.ensures.first;
      sound = c.load_checkpoint.ensures.sound;
      lent = c.load_checkpoint.ensures.lent;
    }

pub returns : goal.returns
returns c =
    let m = c.args.m.now in
    let n = c.load_checkpoint.new.m in
    let e = c.pages_of.ensures.pages in
    let b = c.requires.fits.ranges.more in
    let r = c.replay_on.ensures in
    record {
      next =
          past_at m n c.new.result.limits c.replay_on.result c.args.in_use 0 _ (c.new.ensures ∙ c.limits.ensures) c.load_checkpoint.ensures.lent r.reading r.ranges r.past
          (none_idle (house n) c.in-None.ensures.first)
          (whole_on m n c.args.in_use c.args.n (page_told c.args.page) c.in-Written.bytes.now (ap page_told c.in-Written.is) (omega arith) b
          c.in_ok-load_checkpoint.ensures.loads);
      sound = c.load_checkpoint.ensures.sound;
      lent = c.load_checkpoint.ensures.lent;
    }
