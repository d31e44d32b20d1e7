-- A start in code that is given the pages of a chip: it has always met what the chip has, it is refused on no chip that holds a house, and when it is ready it is the program's start.
use Rattle.std.proofs.Common.{◌≡◌, ◌*◌, ◌<◌, sym, subst}
use Rattle.meaning.specs.House.{House}
use Rattle.meaning.specs.Calls.{new_house}
use Rattle.meaning.specs.Chip.{Page, Chip}
use Rattle.meaning.specs.Promise.{whole}
use Rattle.limits.specs.Opening.{limits_mean}
use Rattle.limits.specs.declared.Limits.{Limits}
use Rattle.store.specs.Whole as store
use Rattle.store.specs.Whole.{Lent, Sound}
use Rattle.store.specs.declared.Memory.{Memory}
use Rattle.every_call.specs.Stage.{stage, stage_calls}
use Rattle.journal.specs.Slots.{SlotsHold}
use Rattle.journal.specs.Start as start
use Rattle.journal_rows.specs.Layout.{house, slot_blocks, ring_blocks, rows, program}
use Rattle.journal_rows.specs.Bytes.{page_bytes}
use Rattle.journal_steps.specs.Steps.{journal_of}
use Rattle.journal_steps.specs.declared.Journal.{Journal}
use Rattle.journal_start.specs.declared.Stage.{Stage}
use Rattle.journal_start.specs.declared.Stage.TheVariants.{Unread, OneCommit, Reading, Replaying, Ready}
use Rattle.journal_start.specs.Starting.{MetHouse, Unfit}
use Rattle.journal_start.specs.Stages.{reading_of, Ranges, StageFits, taken, At}
use Rattle.journal_start.proofs.Accepts.{accepts_houses}
use Rattle.journal_start.proofs.Steps.{ring_any}

-- what a start in code has met on a chip
abbrev pub Follows : Chip → Memory → Stage → Type 0
Follows d m s = MetHouse (stage m) d (reading_of (stage m) s (store.house m))

-- the page of a chip that a stage asks for
abbrev pub asked : Chip → Memory → Stage → Page
asked d m s = d (start.wants (house (stage m)) (slot_blocks (stage m)) (ring_blocks (stage m)) (rows (stage m) page_bytes) (reading_of (stage m) s (store.house m)))

-- before a page is read
pub begins : (d : Chip) (m : Memory) → store.house m ≡ new_house (stage m) → StageFits m Unread × Follows d m Unread
begins d m e = (record { ranges = tt; holds = e }, tt)

-- a page is asked for only if there is one
pub open_still : (m : Memory) (s : Stage) → Ranges m.limits s → start.OpenStill (house (stage m)) (slot_blocks (stage m)) (ring_blocks (stage m)) (rows (stage m) page_bytes) (reading_of (stage m) s (store.house m))
open_still m Unread r = tt
open_still m (OneCommit o) r = tt
open_still m (Reading u n) r = r.more
open_still m (Replaying u n) r = subst (λ k. n < 16 * k) (ring_any m.limits whole stage_calls) r.more
open_still m (Ready j) r = tt

-- with the page that it asked for it has met what the chip has
pub goes_on : (d : Chip) (m n : Memory) (s t : Stage) (p : Page) → Sound m → StageFits m s → Lent m n → p ≡ asked d m s → At m n t (taken (stage m) (reading_of (stage m) s (store.house m)) p) → Follows d m s → Follows d n t
goes_on d m n s t p ok fits lent e at met =
    let v = (accepts_houses (stage m) ok.limits).goes_on d (reading_of (stage m) s (store.house m)) met (open_still m s fits.ranges) in
    let w = subst (λ q. MetHouse (stage m) d (taken (stage m) (reading_of (stage m) s (store.house m)) q)) (sym e) v in
    let y = subst (MetHouse (stage m) d) (sym at.reading) w in
    subst (λ (l : Limits). MetHouse (limits_mean stage_calls l) d (reading_of (limits_mean stage_calls l) t (store.house n))) (sym lent.limits) y

-- a chip that holds a house is not refused
pub not_refused : (d : Chip) (h : House) (m : Memory) (s : Stage) (p : Page) → Sound m → StageFits m s → SlotsHold (house (stage m)) (slot_blocks (stage m)) (ring_blocks (stage m)) (rows (stage m) page_bytes) d h →
    p ≡ asked d m s → Follows d m s → Unfit (stage m) (reading_of (stage m) s (store.house m)) p → ⊥
not_refused d h m s p ok fits hold e met bad =
    (accepts_houses (stage m) ok.limits).fit d h hold (reading_of (stage m) s (store.house m)) met (open_still m s fits.ranges) (subst (Unfit (stage m) (reading_of (stage m) s (store.house m))) e bad)

-- and when all is read, memory and what was found are the program's start
pub comes_to : (d : Chip) (m : Memory) (j : Journal) → Follows d m (Ready j) → journal_of (stage m) j (store.house m) ≡ (program page_bytes (stage m)).start d
comes_to d m j met = met
