-- Each turn reads one number more.
use Rattle.std.proofs.Common.{◌≡◌, ◌<◌, [], ◌∷◌, ◌++◌, length, take, drop, sym, ap, ◌∙◌, arith}
use Rattle.std.proofs.lemmas.List.{get_or-drop, length-drop, take_more, take_more_set, take_all}
use Rattle.wire.specs.Bytes.{numbers_in}
use Rattle.wire.proofs.Fields.{numbers_length}
use Rattle.journal_words.proofs.words_at.Goals as goal

pub loop-i-preserved : goal.loop-i-preserved
loop-i-preserved c =
    let ns = numbers_in c.args.page.now in
    let i = c.loop-i.i in
    let long : i < length (drop c.args.at ns) = omega (arith, length-drop c.args.at ns, numbers_length c.args.page.now) in
    take_more_set c.loop-i.out i c.word.result (omega arith)
    ∙ (λ d. c.loop-i.invariant d ++ ((c.word.ensures ∙ sym (get_or-drop c.args.at ns i 0)) d ∷ []))
    ∙ sym (take_more (drop c.args.at ns) i 0 long)

pub returns : goal.returns
returns c =
    let e : c.loop-i.i ≡ length c.args.out.now = omega arith in
    sym (take_all c.loop-i.i c.loop-i.out (omega arith)) ∙ c.loop-i.invariant ∙ ap (λ n. take n (drop c.args.at (numbers_in c.args.page.now))) e
