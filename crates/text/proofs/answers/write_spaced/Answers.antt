-- Each turn writes one more number behind what was written.
use Rattle.std.proofs.Common.{◌≡◌, true, ◌∷◌, ◌++◌, map, get_or, take, decimal, sym, refl, ap, ◌∙◌, arith}
use Rattle.std.proofs.Output.{writes_in_calls_nil, has_written_append, has_written_of_eq}
use Rattle.std.proofs.lemmas.List.{get_or-map, length-map}
use Rattle.scan.specs.Words.{spaced}
use Rattle.text.proofs.Spaced.{spaced_none, spaced_more, spaced_all}
use Rattle.text.proofs.answers.write_spaced.Goals as goal

pub loop-number-init : goal.loop-number-init
loop-number-init g c v shows plain =
    has_written_of_eq g.W.Write.write_str_gives _ _ _ _ (sym (spaced_none (map v c.args.numbers.now))) (record { wrote = writes_in_calls_nil g.W.Write.write_str_gives _; plain = plain })

pub loop-number-preserved : goal.loop-number-preserved
loop-number-preserved g c v shows plain =
    let ns = map v c.args.numbers.now in
    let i = c.loop-number.number-index in
    let p = c.loop-number.invariant v shows plain in
    let writes = rw (shows c.number-item.result) at c.in_ok-write.ensures.writes in
    let q = writes p.plain (refl {a = true}) in
    let here : v c.number-item.result ≡ get_or ns i 0 = ap v c.number-item.is ∙ sym (get_or-map v c.args.numbers.now i c.number-item.result 0 c.loop-number-test.true) in
    has_written_of_eq g.W.Write.write_str_gives _ _ _ _
    (ap (λ n. spaced (take i ns) ++ (32 ∷ decimal n)) here ∙ spaced_more ns i (omega (arith, length-map c.args.numbers.now v)))
    (has_written_append g.W.Write.write_str_gives _ _ _ _ _ p q)

pub returns : goal.returns
returns g c v shows plain e =
    let ns = map v c.args.numbers.now in
    has_written_of_eq g.W.Write.write_str_gives _ _ _ _ (spaced_all ns c.loop-number.number-index (omega (arith, length-map c.args.numbers.now v))) (c.loop-number.invariant v shows plain)
