-- The first number, and then the others, each behind a space.
use Rattle.std.proofs.Common.{◌++◌, decimal, sym, refl, ap, ◌∙◌}
use Rattle.std.proofs.Output.{has_written_append, has_written_of_eq}
use Rattle.scan.specs.Words.{spaced}
use Rattle.text.specs.AnswerLines.{in_a_row}
use Rattle.std.proofs.lemmas.List.{map-id}
use Rattle.text.proofs.answers.write_row.Goals as goal

pub returns : goal.returns
returns g c plain e =
    let p = c.in_ok-write.ensures.writes plain refl in
    let q = c.write_spaced.ensures (λ n. n) (λ n. refl) p.plain e in
    has_written_of_eq g.W.Write.write_str_gives _ _ _ _ (ap (λ ns. decimal c.in-Some.first.now ++ spaced ns) (map-id c.in-Some.rest.now) ∙ sym (ap in_a_row c.in-Some.ensures.cases.0)) (has_written_append g.W.Write.write_str_gives _ _ _ _ _ p q)
