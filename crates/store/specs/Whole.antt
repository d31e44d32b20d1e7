-- What the whole memory means, and what a change leaves as it is. Definitions only: nothing is assumed or proved here.
use Rattle.std.specs.Prelude.{◌≡◌, ℕ, List, [], ◌∷◌, ◌++◌, slice_set}
use Rattle.meaning.specs.Lines as lines
use Rattle.meaning.specs.House.{House, with_bookings}
use Rattle.meaning.specs.House as houses
use Rattle.meaning.specs.Calls.{with_limits}
pub use Rattle.store.specs.Words.{Words}
use Rattle.store.specs.Words.{SoundWords, house_of, sizes}
use Rattle.store.specs.declared.Memory.{Memory}

-- what a memory holds at a moment
abbrev pub words : Memory → Words
words m = record {
  legs = m.legs.now;
  fares = m.fares.now;
  bookings = m.bookings.now;
  sums = m.sums.now;
  opened = m.opened;
  filed = m.filed;
  booked = m.booked;
  clock = m.clock;
  limits = m.limits;
}

-- THE HOUSE that a memory is
abbrev pub house : Memory → House
house m = house_of (words m)

-- SOUND memory
abbrev pub Sound : Memory → Type 0
Sound m = SoundWords (words m)

-- the second memory is over the same slices as the first, as long as they were, with the same limits
pub record Lent (m n : Memory) : Type 0 where
  pub legs : n.legs.ghost_name ≡ m.legs.ghost_name
  pub fares : n.fares.ghost_name ≡ m.fares.ghost_name
  pub bookings : n.bookings.ghost_name ≡ m.bookings.ghost_name
  pub sums : n.sums.ghost_name ≡ m.sums.ghost_name
  pub sizes : sizes (words n) ≡ sizes (words m)
  pub limits : n.limits ≡ m.limits

-- the same house at another tick
abbrev pub at_tick : House → ℕ → House
at_tick h t = record { now = t; gap = h.gap; hold_for = h.hold_for; legs = h.legs; fares = h.fares; bookings = h.bookings }

-- the same house with other legs
abbrev pub with_legs : House → List lines.Leg → House
with_legs h ls = record { now = h.now; gap = h.gap; hold_for = h.hold_for; legs = ls; fares = h.fares; bookings = h.bookings }

-- the same house with other fares
abbrev pub with_fares : House → List lines.Fare → House
with_fares h fs = record { now = h.now; gap = h.gap; hold_for = h.hold_for; legs = h.legs; fares = fs; bookings = h.bookings }

-- the same house with one leg more, at the end
abbrev pub plus_leg : House → lines.Leg → House
plus_leg h g = with_legs h (h.legs ++ (g ∷ []))

-- the same house with one fare more, at the end
abbrev pub plus_fare : House → lines.Fare → House
plus_fare h f = with_fares h (h.fares ++ (f ∷ []))

-- the same house with one booking more, at the end
abbrev pub plus_booking : House → houses.Booking → House
plus_booking h b = with_bookings h (h.bookings ++ (b ∷ []))

-- the same booking, standing otherwise, until another tick, with another sum paid
abbrev pub settled : houses.Booking → ℕ → ℕ → ℕ → houses.Booking
settled b s u p = record { legs = b.legs; class = b.class; seats = b.seats; stands = s; until = u; paid = p }

-- the same house where booking k is another
abbrev pub set_booking : House → ℕ → houses.Booking → House
set_booking h k b = with_bookings h (slice_set h.bookings k b)

-- the same house where leg i has other limits
abbrev pub set_limits : House → ℕ → List ℕ → House
set_limits h i ls = with_legs h (slice_set h.legs i (with_limits (lines.leg h.legs i) ls))
