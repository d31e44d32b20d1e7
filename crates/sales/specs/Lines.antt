-- What is sold on a leg, as a line. Definitions only: nothing is assumed or proved here.
use Rattle.std.specs.Prelude.{◌≡◌, ℕ, List, ◌++◌, length, Ok, Err, string_bytes, codes, decimal, Result, String}
use Rattle.meaning.specs.Lines.{Leg, leg}
use Rattle.meaning.specs.House.{House}
use Rattle.meaning.specs.Calls.{each_class}
use Rattle.scan.specs.Words.{spaced}
use Rattle.std.specs.declared.alloc.AllocError.{AllocError}
use Rattle.std.specs.declared.alloc.Global.{Global}

-- its front: number, from where to where, when it leaves and arrives
abbrev pub leg_front : ℕ → ℕ → ℕ → ℕ → ℕ → List ℕ
leg_front number from to leaves arrives =
    decimal number ++ (codes ": " ++ (decimal from ++ (codes " to " ++ (decimal to ++ (codes ", " ++ (decimal leaves ++ (codes " to " ++ (decimal arrives ++ codes ", sold"))))))))

-- the line: behind that, what is taken, and the limits
abbrev pub sold_line : ℕ → ℕ → ℕ → ℕ → ℕ → List ℕ → List ℕ → List ℕ
sold_line number from to leaves arrives taken limits = leg_front number from to leaves arrives ++ (spaced taken ++ (codes " of" ++ spaced limits))

-- THE LINE OF LEG i OF A HOUSE: for each class of the leg, what is taken in it and the cheaper ones
abbrev pub leg_line : House → ℕ → List ℕ
leg_line h i =
    let g : Leg = leg h.legs i in
    sold_line i g.from g.to g.leaves g.arrives (each_class h.bookings i 0 (length g.limits)) g.limits

-- it was told, unless there was no memory for it
abbrev pub LineTold : Result (String Global) AllocError → House → ℕ → Type 0
LineTold (Ok s) h i = string_bytes s ≡ leg_line h i
LineTold (Err e) h i = Unit {0}
