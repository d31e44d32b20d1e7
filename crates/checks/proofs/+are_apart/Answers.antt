use Rattle.std.proofs.Common.{not, ◌&&◌, sym, ap, ◌∙◌}
use Rattle.meaning.specs.Calls.{no_twice}
use Rattle.checks.proofs.Steps.{apart_is, none_apart}
use Rattle.checks.proofs.+are_apart.Goals as goal

pub returns-then-not-contains : goal.returns-then-not-contains
returns-then-not-contains t c =
    let e = apart_is c.args.journey.now c.in-Some.others.now c.in-Some.i.now c.in-Some.ensures.cases.0 in
    c.are_apart.ensures ∙ ap (λ b. not b && no_twice c.in-Some.others.now) (sym c.if-not-contains.true ∙ c.contains.ensures.value) ∙ sym e

pub returns-else-not-contains : goal.returns-else-not-contains
returns-else-not-contains t c =
    let e = apart_is c.args.journey.now c.in-Some.others.now c.in-Some.i.now c.in-Some.ensures.cases.0 in
    ap not c.if-not-contains.false ∙ ap (λ b. not b && no_twice c.in-Some.others.now) (sym c.if-not-contains.false ∙ c.contains.ensures.value) ∙ sym e

pub returns-in-None : goal.returns-in-None
returns-in-None t c = none_apart c.args.journey.now c.in-None.ensures.cases
