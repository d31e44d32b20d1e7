-- Line after line, until one is not passed over.
use Rattle.std.proofs.Common.{◌-◌, ◌<◌, length, sym, ap, ◌∙◌, subst, arith}
use Rattle.call_files.specs.Lines.{passed_over}
use Rattle.call_files.proofs.Lines.{line_over, line_found, line_shorter, no_line}
use Rattle.call_files.proofs.first_line.Goals as goal

pub returns-then-not-is_passed_over : goal.returns-then-not-is_passed_over
returns-then-not-is_passed_over c =
    let i = c.loop-line.invariant in
    let b = c.loop-line.lines.rest.now in
    let t = c.in-Some.ensures.steps in
    sym (i.2 ∙ line_found i.0 b _ _ t.0 i.1 t.1 t.2 (ap passed_over (sym t.1) ∙ sym c.if-not-is_passed_over.ensures))

pub loop-line-preserved : goal.loop-line-preserved
loop-line-preserved c =
    let i = c.loop-line.invariant in
    let b = c.loop-line.lines.rest.now in
    let t = c.in-Some.ensures.steps in
    let less : length c.next.new.self.rest.now < length b = subst (λ x. length x < length b) (sym t.2) (line_shorter b t.0) in
    (i.0 - 1, omega (arith, i.1, less), i.2 ∙ line_over i.0 b _ t.0 i.1 t.2 (ap passed_over (sym t.1) ∙ sym c.if-not-is_passed_over.ensures))

pub returns : goal.returns
returns c =
    let i = c.loop-line.invariant in
    let b = c.loop-line.lines.rest.now in
    let s = c.in_default.ensures.steps in
    ap (λ x. (x, x)) (s.1 ∙ sym s.0) ∙ sym (i.2 ∙ no_line i.0 b (ap length s.0))
