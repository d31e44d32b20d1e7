-- Which limits a commit record names, and when they are those of a chip's house. Definitions only: nothing is assumed or proved here.
use Rattle.std.specs.Prelude.{ℕ, Bool, ◌&&◌, ◌||◌, List, Some, None, Option, ◌==◌, nat_le, slice_index}
use Rattle.meaning.specs.Lines.{pick}
use Rattle.meaning.specs.Promise.{room_for}
use Rattle.limits.specs.declared.Limits.{Limits}
use Rattle.journal_rows.specs.Layout.{slot_blocks}
use Rattle.journal_steps.specs.Steps.{chip_limits}

-- the limits that the numbers of a page name, if it is a commit record: its kind is 1
abbrev pub limits_named : List ℕ → Option Limits
limits_named ns = pick (slice_index ns 0 == 1) (Some (record { gap = slice_index ns 2; hold = slice_index ns 3; legs = slice_index ns 4; fares = slice_index ns 5; bookings = slice_index ns 6 })) None

-- limits in range, for which the program lends memory
abbrev pub served : Limits → Bool
served l = (nat_le l.gap 65536 && (nat_le 1 l.hold && nat_le l.hold 65536)) && (nat_le l.legs 32 && (nat_le l.fares 32 && nat_le l.bookings 128))

-- LIMITS OF A CHIP of so many blocks, whose commit record can stand in this one: it asks for just as many, and a slot begins with the block
abbrev pub fits_chip : Limits → ℕ → ℕ → Bool
fits_chip l block blocks = served l && (room_for (chip_limits l) == blocks && (block == 0 || block == slot_blocks (chip_limits l)))
