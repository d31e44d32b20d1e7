use Rattle.std.proofs.Common.{leb, rules}
use Rattle.std.proofs.lemmas.Fn.{always_returns_same}
use Rattle.checks.proofs.Steps.{sorted_is}
use Rattle.checks.proofs.are_falling.Goals as goal

pub returns : goal.returns
returns c = sorted_is c.is_sorted_by.result c.args.limits.now (c.is_sorted_by.ensures.cases (λ x y. leb y x) (always_returns_same _ _ _ (λ a r f k. search rules)))
