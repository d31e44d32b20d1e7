-- Each turn passes over one line more.
use Rattle.std.proofs.Common.{◌≡◌, ℕ, suc, ◌+◌, List, refl, ap, ◌∙◌, arith}
use Rattle.scan.specs.Words.{past_line}
use Rattle.power_stories.specs.Stories.{behind}
use Rattle.power_stories.proofs.skip_lines.Goals as goal

one_more : (n : ℕ) (bs : List ℕ) → past_line (behind n bs) ≡ behind (n + 1) bs
unfolding behind
one_more n bs = let e : suc n ≡ n + 1 = omega arith in ap (λ k. behind k bs) e

pub loop-init : goal.loop-init
unfolding behind
loop-init c = refl

pub loop-preserved : goal.loop-preserved
loop-preserved c = c.read_line.ensures.rest ∙ ap past_line c.loop.invariant ∙ one_more c.loop.counter c.args.text.now
