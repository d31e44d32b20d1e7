-- Kinds of pages as numbers. Definitions only: nothing is assumed or proved here.
use Rattle.std.specs.Prelude.{ℕ}
use Rattle.journal_rows.specs.declared.PageKind.{PageKind}
use Rattle.journal_rows.specs.declared.PageKind.TheVariants.{Commit, Legs, Fares, Bookings, Call}

-- the number with which a page of this kind begins
abbrev pub kind_number : PageKind → ℕ
kind_number Commit = 1
kind_number Legs = 2
kind_number Fares = 3
kind_number Bookings = 4
kind_number Call = 5
