-- The word, and behind it the five numbers.
use Rattle.std.proofs.Common.{refl}
use Rattle.std.proofs.Output.{has_written_append}
use Rattle.text.proofs.houses.HouseLineDisplay.fmt.Goals as goal

pub returns-clause-writes : goal.returns-clause-writes
returns-clause-writes g c plain e =
    let p = c.in_ok-write_str.ensures.writes plain refl in
    let q = c.write_spaced.ensures (λ n. n) (λ n. refl) p.plain e in
    has_written_append g.W.Write.write_str_gives _ _ _ _ _ p q
