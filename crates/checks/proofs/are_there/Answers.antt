use Rattle.std.proofs.Common.{sym, ◌∙◌, rules, tests}
use Rattle.std.proofs.lemmas.Iterator.{YieldsList-from_slice}
use Rattle.std.proofs.lemmas.Iterator.Search.{all_from_yields_List}
use Rattle.store.specs.Whole.{house}
use Rattle.checks.specs.Lists.{leg_there}
use Rattle.checks.proofs.Steps.{there_is}
use Rattle.checks.proofs.are_there.Goals as goal

pub returns : goal.returns
returns c =
    all_from_yields_List (leg_there (house c.args.m.now).legs c.args.class) _ _ c.all.result c.all.ensures.ran (YieldsList-from_slice c.args.journey.now (cc)) (λ x b q k. search (rules, tests))
    ∙ sym (there_is (house c.args.m.now).legs c.args.class c.args.journey.now)
