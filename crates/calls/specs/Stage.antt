-- What a call does at a stage of the house. Definitions only: nothing is assumed or proved here.
use Rattle.std.specs.Prelude.{◌≡◌, ℕ, ◌<◌, ◌≤◌, Bool, true, false, ◌≢◌, ◌⊎◌, List, [], ◌∷◌, map, length, slice_index}
use Rattle.std.specs.Borrow.{Bor}
use Rattle.meaning.specs.Lines.{leg}
use Rattle.meaning.specs.House.{House, goes, taken}
use Rattle.meaning.specs.Calls as meaning
use Rattle.meaning.specs.Calls.{Call, books, cancels, after, answer, answers, most, the_booking, turned}
use Rattle.meaning.specs.Promise.{GoodLimits, thin}
use Rattle.meaning.specs.Statements.{Cheapest, Reached, none_left, none_over, some_could}
use Rattle.limits.specs.Opening.{limits_mean}
use Rattle.protocol.specs.Forms.{answer_of}
use Rattle.protocol.specs.declared.Answer.{Answer}
use Rattle.store.specs.Whole.{Lent, house}
use Rattle.store.specs.declared.Memory.{Memory}
use Rattle.wire.specs.Rows.{decoded}

-- the limits of a memory's house, at the stage that can do these calls
abbrev pub stage_at : (ℕ → Bool) → Memory → meaning.Limits
stage_at can m = limits_mean can m.limits

-- the same at the first stage
abbrev pub stage : Memory → meaning.Limits
stage m = stage_at thin m

-- NOBODY WAITS FOR WHAT IS FREE in memory: booking rests on it, and every call keeps it
abbrev pub Idle : Memory → Type 0
Idle m = some_could (house m) (house m).bookings ≡ false

-- a call was answered at a stage: the answer, with the list beside it, and the house then are the meaning's; memory is over the same slices
pub record Answered (can : ℕ → Bool) (m n : Memory) (x : Call) (a : Answer) (list : List ℕ) : Type 0 where
  pub says : answer_of a list ≡ answer (stage_at can m) (house m) x
  pub leaves : house n ≡ after (stage_at can m) (house m) x
  pub lent : Lent m n

-- a call was done at a stage: it was answered, nobody waits for what is free, and the house is one that calls lead to, if it was one
pub record Done (can : ℕ → Bool) (m n : Memory) (x : Call) (a : Answer) (list : List ℕ) : Type 0 where
  pub says : answer_of a list ≡ answer (stage_at can m) (house m) x
  pub leaves : house n ≡ after (stage_at can m) (house m) x
  pub idle : Idle n
  pub reached : Reached (stage_at can m) (house m) → Reached (stage_at can n) (house n)
  pub lent : Lent m n

-- the calls that rows of bytes are
abbrev pub calls_of : List (Bor (List ℕ)) → List Call
calls_of rows = map (λ r. decoded r.now) rows

-- WHAT IS PROMISED of a house: each statement about houses that calls lead to, at this one
pub record Promised (l : meaning.Limits) (h : House) : Type 0 where
  pub reached : Reached l h
  -- a seat is sold once, whatever the next call is
  pub sold_once : (x : Call) (i c : ℕ) → i < length (after l h x).legs → c < length (leg (after l h x).legs i).limits →
      (taken (after l h x).bookings i c ≤ slice_index (leg (after l h x).legs i).limits c) ⊎ (taken (after l h x).bookings i c ≤ taken h.bookings i c)
  -- nobody waits for what is free
  pub nobody_waits : some_could h h.bookings ≡ false
  -- no hold outlives its time or the beginning of its journey
  pub in_time : GoodLimits l → (none_over h.bookings h.now ≡ true) × (none_left h.legs h.bookings h.now ≡ true)
  -- what was paid stays paid until it is cancelled
  pub paid_stays : (x : Call) (k : ℕ) → (the_booking h k).stands ≡ 2 → x ≢ cancels k → the_booking (after l h x) k ≡ the_booking h k
  -- first come, first served
  pub first_served : (x : Call) (j k : ℕ) → j < k → (the_booking h j).stands ≡ 0 → (the_booking h k).stands ≡ 0 →
      (the_booking h j).legs ≡ (the_booking h k).legs → (the_booking h j).class ≡ (the_booking h k).class → (the_booking h j).seats ≤ (the_booking h k).seats →
      (the_booking (after l h x) k).stands ≡ 1 → (the_booking (after l h x) j).stands ≢ 0
  -- a price is the cheapest
  pub cheapest : Cheapest
  -- what is said to be free can be had
  pub free_is_free : (i c n : ℕ) → n ≤ 9 → turned l h (books c n (i ∷ [])) ≡ 0 →
      (n ≤ most 1000 h.legs h.bookings i c → (the_booking (after l h (books c n (i ∷ []))) (length h.bookings)).stands ≡ 1)
      × (most 1000 h.legs h.bookings i c < n → (the_booking (after l h (books c n (i ∷ []))) (length h.bookings)).stands ≡ 0)
  -- what is taken on a leg changes only by bookings of that leg
  pub untouched : (x : Call) (i c : ℕ) →
      ((k : ℕ) → goes (the_booking (after l h x) k).legs i ≡ true → (the_booking (after l h x) k).stands ≡ (the_booking h k).stands) →
      taken (after l h x).bookings i c ≡ taken h.bookings i c
  -- a refused call changes nothing
  pub turned_away : (x : Call) (cs : List Call) → 0 < turned l h x → answers l (after l h x) cs ≡ answers l h cs
