-- A call that is turned away leaves the house as it was.
use Rattle.std.proofs.Common.{◌≡◌, Bool, false, eqb, ap, arith}
use Rattle.std.proofs.lemmas.Bool.{ne_eqb}
use Rattle.meaning.specs.Lines.{pick}
use Rattle.meaning.specs.Calls.{turned, changed, answers}
use Rattle.meaning.specs.Statements.{TurnedAway}

pub turned_away : TurnedAway
unfolding TurnedAway
turned_away l h x cs p =
    let e : eqb (turned l h x) 0 ≡ false = ne_eqb (turned l h x) 0 (λ q. omega arith) in
    ap (λ (b : Bool). answers l (pick b (changed h x) h) cs) e
