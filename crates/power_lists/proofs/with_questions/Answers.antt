-- Each turn puts one question more behind the list.
use Rattle.std.proofs.Common.{◌++◌, string_bytes, ap, ◌∙◌}
use Rattle.power_lists.proofs.Lines.{no_questions, more_questions}
use Rattle.power_lists.proofs.with_questions.Goals as goal

pub loop-k-init : goal.loop-k-init
loop-k-init c = c.in_ok-push_str.ensures.bytes ∙ ap (λ t. t ++ c.args.list.now) c.new-text.ensures.bytes ∙ no_questions c.args.list.now

pub loop-k-preserved : goal.loop-k-preserved
loop-k-preserved c =
    more_questions c.args.list.now (string_bytes c.loop-k.text) _ c.loop-k.k-counter c.loop-k.invariant
    (c.in_ok-push_str-2.ensures.bytes ∙ ap (λ t. string_bytes c.loop-k.text ++ t) (c.as_str.ensures.value ∙ c.in_ok-line.ensures.ok))
