use Rattle.std.proofs.Common.{leb, sym, ◌∙◌, rules, tests}
use Rattle.std.proofs.lemmas.Iterator.{YieldsList-from_slice}
use Rattle.std.proofs.lemmas.Iterator.Search.{all_from_yields_List}
use Rattle.checks.proofs.Steps.{small_is}
use Rattle.checks.proofs.are_small.Goals as goal

pub returns : goal.returns
returns c =
    all_from_yields_List (λ x. leb x 1000) _ _ c.all.result c.all.ensures.ran (YieldsList-from_slice c.args.limits.now (cc)) (λ x b q k. search (rules, tests))
    ∙ sym (small_is 1000 c.args.limits.now)
