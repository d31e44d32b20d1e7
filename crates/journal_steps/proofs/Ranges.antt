-- Numbers of the journal are in range.
use Rattle.std.proofs.Common.{◌≡◌, ℕ, suc, ◌+◌, ◌-◌, ◌*◌, ◌/◌, ◌<◌, ◌≤◌, Bool, true, false, ltb, refl, arith}
use Rattle.std.proofs.lemmas.Bool.{ltb-true, ltb-false}
use Rattle.meaning.specs.Lines.{pick}
use Rattle.meaning.specs.Calls.{Limits}
use Rattle.meaning.specs.Promise.{GoodLimits, room_for}
use Rattle.journal.specs.Slots.{around, first, longest, next_block}
use Rattle.journal_rows.specs.Layout.{most_pages, slot_blocks, ring_blocks}
use Rattle.journal_rows.proofs.Room.{thrice}

-- a place that has gone round once at most is within the ring
pub round_in : (n k : ℕ) → k < n + n → around n k < n
unfolding around
round_in n k lt = go (ltb k n) refl
  where
    go : (t : Bool) → ltb k n ≡ t → pick t k (k - n) < n
    go true e = ltb-true k n e
    go false e = let a = ltb-false k n e in omega arith

-- the ring has more pages than the longest log, by far
pub ring_wide : (l : Limits) → 16 * slot_blocks l + 32 ≤ 16 * ring_blocks l
unfolding ring_blocks
ring_wide l = omega (arith, thrice l)

pub slot_wide : (l : Limits) → 16 + most_pages l ≤ 16 * slot_blocks l
unfolding slot_blocks
slot_wide l = fill (most_pages l)
  where
    fill : (n : ℕ) → 16 + n ≤ 16 * (1 + (n + 15) / 16)
    fill n = omega arith

longest_most : (q n : ℕ) → q ≤ n → longest q ≤ n + 16
longest_most q n h = go (ltb (suc q) 16) refl
  where
    go : (t : Bool) → ltb (suc q) 16 ≡ t → pick t 16 (suc q) ≤ n + 16
    go true e = omega arith
    go false e = omega arith

-- the slots and the ring are all of the chip
pub all_blocks : (l : Limits) → 2 * slot_blocks l + ring_blocks l ≡ room_for l
unfolding ring_blocks
all_blocks l = omega (arith, thrice l)

-- a slot has at least two blocks' room behind it
pub slot_some : (l : Limits) → 1 ≤ slot_blocks l
unfolding slot_blocks
slot_some l = omega arith

pub log_short : (l : Limits) (q : ℕ) → q ≤ most_pages l → longest q + 32 ≤ 16 * ring_blocks l
log_short l q h = omega (arith, longest_most q (most_pages l) h, slot_wide l, ring_wide l)

-- and no more than 4,000,000 pages
pub ring_most : (l : Limits) → GoodLimits l → 16 * ring_blocks l < 4000000
unfolding ring_blocks
ring_most l g = few l.legs l.fares l.bookings (slot_blocks l) g.3 g.4 g.5
  where
    few : (a b c s : ℕ) → a ≤ 65536 → b ≤ 65536 → c ≤ 1000000 → 16 * (((a + b + c) / 8 + 16) - 2 * s) < 4000000
    few a b c s x y z = omega arith

-- a checkpoint has few pages
pub most_few : (l : Limits) → GoodLimits l → most_pages l < 145000
most_few l g = few l.legs l.fares l.bookings g.3 g.4 g.5
  where
    few : (a b c : ℕ) → a ≤ 65536 → b ≤ 65536 → c ≤ 1000000 → (a + 3) / 4 + ((b + 24) / 25 + (c + 7) / 8) < 145000
    few a b c x y z = omega arith

-- EVERY ACT IS ON THE CHIP. A page of the ring
pub in_ring : (l : Limits) (k : ℕ) → k < 16 * ring_blocks l → 16 * (2 * slot_blocks l) + k < 16 * room_for l
in_ring l k h = sum (slot_blocks l) (ring_blocks l) (room_for l) k (all_blocks l) h
  where
    sum : (s r n k : ℕ) → 2 * s + r ≡ n → k < 16 * r → 16 * (2 * s) + k < 16 * n
    sum s r n k e h = omega arith

-- a slot begins within the first two
pub slot_in : (s : ℕ) (x : Bool) → first s x ≤ s
slot_in s true = omega arith
slot_in s false = omega arith

-- a page of a slot
pub in_slot : (l : Limits) (x : Bool) (j : ℕ) → j < most_pages l → 16 * (first (slot_blocks l) x + 1) + j < 16 * room_for l
in_slot l x j h = sum (slot_blocks l) (first (slot_blocks l) x) (most_pages l) (room_for l) j (slot_in (slot_blocks l) x) (slot_wide l) (thrice l) h
  where
    sum : (s f m n j : ℕ) → f ≤ s → 16 + m ≤ 16 * s → 3 * s + 2 ≤ n → j < m → 16 * (f + 1) + j < 16 * n
    sum s f m n j a b c d = omega arith

-- the page of a commit record, and its block
pub slot_on : (l : Limits) (x : Bool) → first (slot_blocks l) x < room_for l
slot_on l x = sum (slot_blocks l) (first (slot_blocks l) x) (room_for l) (slot_in (slot_blocks l) x) (thrice l)
  where
    sum : (s f n : ℕ) → f ≤ s → 3 * s + 2 ≤ n → f < n
    sum s f n a c = omega arith

-- a block of a checkpoint
pub block_on : (l : Limits) (x : Bool) (j : ℕ) → j < most_pages l → first (slot_blocks l) x + 1 + j / 16 < room_for l
block_on l x j h = sum (first (slot_blocks l) x) (room_for l) j (in_slot l x j h)
  where
    sum : (f n j : ℕ) → 16 * (f + 1) + j < 16 * n → f + 1 + j / 16 < n
    sum f n j a = omega arith

-- the first two blocks of the ring
pub ring_on : (l : Limits) → 2 * slot_blocks l + 1 < room_for l
ring_on l = omega (arith, thrice l, slot_some l)

-- and the block after a place of it
pub next_on : (l : Limits) (k : ℕ) → k < 16 * ring_blocks l → next_block (slot_blocks l) (ring_blocks l) k < room_for l
next_on l k h = omega (arith, all_blocks l, round_in (ring_blocks l) (suc (k / 16)) (omega (arith, h)))
