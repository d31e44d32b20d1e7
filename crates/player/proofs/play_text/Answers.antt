-- Line after line.
use Rattle.std.proofs.Common.{◌-◌, ◌<◌, length, sym, refl, ap, ◌∙◌, subst, arith}
use Rattle.std.proofs.lemmas.Result.{err_from_is_err_and}
use Rattle.store.specs.Whole.{house}
use Rattle.store.proofs.Lents.{lent_none, lent_both}
use Rattle.call_files.specs.Lines.{passed_over}
use Rattle.call_files.proofs.Lines.{line_shorter}
use Rattle.driver.proofs.Runs.{all_of, none_done}
use Rattle.player.proofs.Plays.{owes, step_over, step_call, call_more, line_cut, no_lines, nothing_owed}
use Rattle.player.proofs.play_text.Goals as goal

pub loop-line-init : goal.loop-line-init
loop-line-init g c = rw c.new-lines.ensures ((length c.args.text.now, omega arith, none_done _ _ _), c.requires.ready, c.requires.rests, lent_none c.args.m.now, refl)

pub loop-line-preserved-then-is_passed_over : goal.loop-line-preserved-then-is_passed_over
loop-line-preserved-then-is_passed_over g c =
    let m = c.loop-line.m in
    let i = c.loop-line.invariant in
    let w = i.0 in
    let b = c.loop-line.lines.rest.now in
    let t = c.in-Some.ensures.steps in
    let less : length c.next.new.self.rest.now < length b = subst (λ x. length x < length b) (sym t.2) (line_shorter b t.0) in
    ((w.0 - 1, omega (arith, w.1, less), step_over _ _ _ c.args.m.now.limits c.loop-line.session.journal (house m) w.0 b c.next.new.self.rest.now _ _ t.0 w.1 t.2 (ap passed_over (sym t.1) ∙ sym c.if-is_passed_over.ensures) w.2), i.1, i.2, i.3, i.4)

pub loop-line-preserved : goal.loop-line-preserved
loop-line-preserved g c =
    let m = c.loop-line.m in
    let i = c.loop-line.invariant in
    let w = i.0 in
    let b = c.loop-line.lines.rest.now in
    let t = c.in-Some.ensures.steps in
    let less : length c.next.new.self.rest.now < length b = subst (λ x. length x < length b) (sym t.2) (line_shorter b t.0) in
    let p = step_call _ _ _ c.args.m.now.limits c.loop-line.session.journal (house m) w.0 b c.next.new.self.rest.now c.in-Some.line.now _ _ t.0 w.1 t.2 t.1 (sym c.if-is_passed_over.ensures) w.2 in
    let k = c.in_ok-play_line.ensures.played in (
      (w.0 - 1, omega (arith, w.1, less), call_more _ _ _ c.args.m.now.limits _ _ m c.play_line.new.m _ _ _ _ _ _ i.3.limits p k),
      k.ready,
      k.rests refl,
      lent_both c.args.m.now m c.play_line.new.m i.3 k.lent,
      c.in_ok-play_line.ensures.size ∙ i.4,
    )

pub returns-in_err-play_line-clause-played : goal.returns-in_err-play_line-clause-played
returns-in_err-play_line-clause-played g c =
    let m = c.loop-line.m in
    let i = c.loop-line.invariant in
    let w = i.0 in
    let b = c.loop-line.lines.rest.now in
    let t = c.in-Some.ensures.steps in
    let p = step_call _ _ _ c.args.m.now.limits c.loop-line.session.journal (house m) w.0 b c.next.new.self.rest.now c.in-Some.line.now _ _ t.0 w.1 t.2 t.1 (sym c.if-is_passed_over.ensures) w.2 in
    let fails = err_from_is_err_and c.from_residual.result c.from_residual.ensures.1 in
    rw fails.1 (line_cut _ _ _ c.args.m.now.limits _ _ m c.play_line.new.m _ _ _ _ _ _ c.in_err-play_line.field-0.0 i.3.limits p c.in_err-play_line.ensures.played)

pub returns-clause-played : goal.returns-clause-played
returns-clause-played g c =
    let i = c.loop-line.invariant in
    let none = no_lines i.0.0 c.loop-line.lines.rest.now (ap length c.in_default.ensures.steps.0) in
    all_of _ _ _ _ _ _ i.0.2 (ap (owes c.args.m.now.limits c.loop-line.session.journal (house c.loop-line.m)) none ∙ nothing_owed c.args.m.now.limits c.loop-line.session.journal (house c.loop-line.m))
