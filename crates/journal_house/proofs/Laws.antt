-- The house's rows are as the journal asks, and the chip has room for its slots and its ring.
use Rattle.std.proofs.Common.{◌≡◌, ℕ, ◌+◌, ◌-◌, ◌*◌, ◌≤◌, refl, inl, inr, arith}
use Rattle.meaning.specs.Calls.{Limits}
use Rattle.meaning.specs.Promise.{GoodLimits, room_for}
use Rattle.journal.specs.Slots.{longest, Laws}
use Rattle.journal.proofs.Slots.{longest_is}
use Rattle.journal_rows.specs.Layout.{house, Fine, most_pages, slot_blocks, ring_blocks, rows}
use Rattle.journal_rows.specs.Bytes.{page_bytes}
use Rattle.journal_rows.proofs.Room.{thrice}
use Rattle.journal_rows.proofs.ReadBack.{reads_back}
use Rattle.journal_house.specs.Right.{Roomy}
use Rattle.journal_house.proofs.Checkpoint.{checkpoint_is, checkpoint_pages, checkpoint_short, checkpoint_fine, slot_holds}
use Rattle.journal_house.proofs.Stays.{good_after, good_new, unchanged_same, call_fine, longer}

-- THE LAWS OF THE HOUSE'S ROWS
pub laws : (l : Limits) → GoodLimits l → Laws (house l) (slot_blocks l) (ring_blocks l) (rows l page_bytes)
laws l gl = record {
  acted_call = λ h c. refl;
  same = unchanged_same l;
  Fine = Fine;
  fine_call = call_fine l;
  unrow_row = reads_back.unrow_row;
  row_whole = reads_back.row_whole;
  uncommit_commit = reads_back.uncommit_commit l;
  commit_whole = reads_back.commit_whole l;
  good_new = good_new l gl;
  good_after = λ h c g ok. good_after l h c g;
  checkpoint_is = checkpoint_is l;
  checkpoint_fine = checkpoint_fine l;
  checkpoint_pages = checkpoint_pages;
  checkpoint_short = checkpoint_short l;
  grows = λ h c g ok. longer l h c;
}

-- slots and ring are the whole chip
chip_shared : (l : Limits) → slot_blocks l + slot_blocks l + ring_blocks l ≡ room_for l
unfolding ring_blocks
chip_shared l = fit (slot_blocks l) (room_for l) (thrice l)
  where
    fit : (s n : ℕ) → 3 * s + 2 ≤ n → s + s + (n - 2 * s) ≡ n
    fit s n h = omega arith

-- the ring has two blocks more than a slot
ring_wide : (l : Limits) → slot_blocks l + 2 ≤ ring_blocks l
unfolding ring_blocks
ring_wide l = fit (slot_blocks l) (room_for l) (thrice l)
  where
    fit : (s n : ℕ) → 3 * s + 2 ≤ n → s + 2 ≤ n - 2 * s
    fit s n h = omega arith

-- THERE IS ROOM on the chip for the slots and the ring, and the ring is wide enough
pub room_is : (l : Limits) → (slot_blocks l + slot_blocks l + ring_blocks l ≤ room_for l) × (slot_blocks l + 2 ≤ ring_blocks l)
room_is l = (let e = chip_shared l in omega arith, ring_wide l)

-- the longest log, with a block that is written and one ahead, fits the ring
ring_holds : (l : Limits) → longest (most_pages l) + 32 ≤ 16 * ring_blocks l
ring_holds l = fit (most_pages l) (slot_blocks l) (ring_blocks l) (slot_holds l) (ring_wide l)
  where
    fit : (q s r : ℕ) → 16 + q ≤ 16 * s → s + 2 ≤ r → longest q + 32 ≤ 16 * r
    fit q s r a b = elim (longest_is q) [ inl p ↦ (let u = p.1 in omega arith) | inr p ↦ (let u = p.1 in omega arith) ]

pub roomy : Roomy
roomy l g = record { all_of_it = chip_shared l; slots = checkpoint_short l; ring = ring_holds l }
