-- Which turn and which slot of the definitions a value of the code is, and turns as numbers. Definitions only: nothing is assumed or proved here.
use Rattle.std.specs.Prelude.{ℕ, Bool, true, false, ◌==◌, Result, Ok, Err}
use Rattle.std.proofs.Math.Option.{Option, none, some}
use Rattle.meaning.specs.Lines.{pick}
use Rattle.journal.specs.Slots.{Turn, one, two, three}
use Rattle.journal.specs.declared.Turn as code
use Rattle.journal.specs.declared.Turn.TheVariants as turn
use Rattle.journal.specs.declared.NoTurn.{NoTurn}
use Rattle.journal.specs.declared.Slot.{Slot}
use Rattle.journal.specs.declared.Slot.TheVariants as slot

-- the turn that a value is
abbrev pub turn_of : code.Turn → Turn
turn_of turn.One = one
turn_of turn.Two = two
turn_of turn.Three = three

-- turns as numbers
abbrev pub turn_number : Turn → ℕ
turn_number one = 1
turn_number two = 2
turn_number three = 3

-- and back
abbrev pub number_turn : ℕ → Option Turn
number_turn a = pick (a == 1) (some one) (pick (a == 2) (some two) (pick (a == 3) (some three) none))

-- the turn that was read of a number, if any
abbrev pub turn_told : Result code.Turn NoTurn → Option Turn
turn_told (Ok t) = some (turn_of t)
turn_told (Err e) = none

-- is a slot the second one: so the definitions tell slots
abbrev pub is_second : Slot → Bool
is_second slot.First = false
is_second slot.Second = true
