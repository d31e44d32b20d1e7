use Rattle.std.proofs.Common.{◌≡◌, ℕ, ◌≤◌, true, length}
use Rattle.store.specs.Whole.{Lent, house}
use Rattle.session.specs.Acts.{Ready, at_rest}
use Rattle.driver.specs.Played.{Progress}
use Rattle.player.specs.Texts.{calls_in, text_calls}
use Rattle.player.proofs.Plays.{owes}
use Rattle.player.proofs.play_text.Given as goal

abbrev pub invariant-loop-line : goal.invariant-loop-line
invariant-loop-line g l =
    ((n : ℕ) × (length l.lines.rest.now ≤ n)
    × Progress (g.D.Device.chip l.initial.device) (g.D.Device.told l.initial.device) (owes l.initial.m.limits l.initial.session.journal (house l.initial.m) (text_calls l.text)) (owes l.initial.m.limits l.session.journal (house l.m) (calls_in n l.lines.rest.now)) (g.D.Device.chip l.device) (g.D.Device.told l.device))
    × Ready l.session l.m × (at_rest l.session ≡ true) × Lent l.initial.m l.m × (g.D.Device.blocks l.device ≡ g.D.Device.blocks l.initial.device)

abbrev pub decreases-loop-line : goal.decreases-loop-line
decreases-loop-line g l = length l.lines.rest.now
