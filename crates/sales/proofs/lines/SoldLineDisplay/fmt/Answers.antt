-- Part behind part.
use Rattle.std.proofs.Common.{◌++◌, codes, refl, ap₂}
use Rattle.std.proofs.Output.{has_written_append, has_written_of_eq}
use Rattle.std.proofs.lemmas.List.{map-id}
use Rattle.scan.specs.Words.{spaced}
use Rattle.sales.specs.Lines.{leg_front}
use Rattle.sales.proofs.lines.SoldLineDisplay.fmt.Goals as goal

pub returns-clause-writes : goal.returns-clause-writes
returns-clause-writes g c plain e =
    let t = g.W.Write.write_str_gives in
    let x = c.args.self.now in
    let p = c.in_ok-write.ensures.writes plain refl in
    let q = c.in_ok-write_spaced.ensures (λ n. n) (λ n. refl) p.plain refl in
    let r = c.in_ok-write-2.ensures.writes q.plain refl in
    let s = c.write_spaced-2.ensures (λ n. n) (λ n. refl) r.plain e in
    has_written_of_eq t _ _ _ _
    (ap₂ (λ xs ys. leg_front x.number x.from x.to x.leaves x.arrives ++ (spaced xs ++ (codes " of" ++ spaced ys))) (map-id x.sold.now) (map-id x.limits.now))
    (has_written_append t _ _ _ _ _ p (has_written_append t _ _ _ _ _ q (has_written_append t _ _ _ _ _ r s)))
