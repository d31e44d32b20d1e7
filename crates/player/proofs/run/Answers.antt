-- The chip is taken up, and the text is played from there.
use Rattle.std.proofs.Common.{◌≤◌, Ok, Err, sym, refl, subst}
use Rattle.std.proofs.lemmas.Result.{err_from_is_err_and}
use Rattle.meaning.specs.Promise.{room_for}
use Rattle.limits.specs.Opening.{limits_mean}
use Rattle.limits.specs.declared.Limits.{Limits}
use Rattle.store.proofs.Lents.{lent_both}
use Rattle.journal_rows.specs.Layout.{Reads}
use Rattle.journal_rows.specs.Bytes.{page_bytes}
use Rattle.journal_steps.specs.Steps.{chip_limits}
use Rattle.player.specs.Texts.{RunEnded, ended_by, text_calls}
use Rattle.player.proofs.Plays.{text_readable}
use Rattle.player.proofs.Promise.{cut, ended}
use Rattle.every_call.specs.Stage.{stage_calls}
use Rattle.player.proofs.run.Goals as goal

pub play_text-requires : goal.play_text-requires
play_text-requires g c =
    let b = c.in-Some.ensures.taken in
    record { ready = b.ready; rests = b.rests; size = subst (λ (l : Limits). room_for (chip_limits l) ≤ g.D.Device.blocks c.args.device.now) (sym c.take_up.ensures.lent.limits) c.requires.size }

pub returns-in_default : goal.returns-in_default
returns-in_default g c =
    let none = c.in_default.ensures.taken in
    let chip = g.D.Device.chip c.args.device.now in
    record {
      promise = (λ before r. none before (subst (λ (l : Limits). Reads (limits_mean stage_calls l) page_bytes chip before) (sym c.take_up.ensures.lent.limits) r), refl, refl);
      readable = text_readable _ c.args.text.now;
      lent = c.take_up.ensures.lent;
    }

pub returns-in_err-play_text : goal.returns-in_err-play_text
returns-in_err-play_text g c =
    let d = g.D.Device.chip c.args.device.now in
    let ts = g.D.Device.told c.args.device.now in
    let e = g.D.Device.chip c.play_text.new.device in
    let us = g.D.Device.told c.play_text.new.device in
    let m = c.take_up.new.m in
    let cs = text_calls c.args.text.now in
    let fails = err_from_is_err_and c.from_residual.result c.from_residual.ensures.1 in
    rw (fails.1, fails.2) (record {
      promise = subst (λ (l : Limits). RunEnded (limits_mean stage_calls l) cs d ts e us (Err (ended_by c.in_err-play_text.field-0.0))) c.take_up.ensures.lent.limits (cut m c.in-Some.session cs d e ts us c.in_err-play_text.field-0.0 c.in-Some.ensures.taken c.in_err-play_text.ensures.played);
      readable = text_readable _ c.args.text.now;
      lent = lent_both c.args.m.now m c.play_text.new.m c.take_up.ensures.lent c.play_text.ensures.lent;
    })

pub returns : goal.returns
returns g c =
    let d = g.D.Device.chip c.args.device.now in
    let ts = g.D.Device.told c.args.device.now in
    let e = g.D.Device.chip c.play_text.new.device in
    let us = g.D.Device.told c.play_text.new.device in
    let m = c.take_up.new.m in
    let cs = text_calls c.args.text.now in
    record {
      promise = subst (λ (l : Limits). RunEnded (limits_mean stage_calls l) cs d ts e us (Ok tt)) c.take_up.ensures.lent.limits (ended m c.in-Some.session cs d e ts us c.in-Some.ensures.taken c.in_ok-play_text.ensures.played);
      readable = text_readable _ c.args.text.now;
      lent = lent_both c.args.m.now m c.play_text.new.m c.take_up.ensures.lent c.play_text.ensures.lent;
    }
