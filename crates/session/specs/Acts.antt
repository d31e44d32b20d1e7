-- What a session has still to do, and what its functions make of that. Definitions only: nothing is assumed or proved here.
use Rattle.std.specs.Prelude.{◌≡◌, ℕ, ◌*◌, ◌<◌, ◌≤◌, Bool, true, false, List, [], ◌∷◌, ◌++◌, length, take}
use Rattle.meaning.specs.Calls as meaning
use Rattle.meaning.specs.House.{House}
use Rattle.journal.specs.Acts.{Act, write, wipe, say}
use Rattle.meaning.specs.Promise.{room_for}
use Rattle.limits.specs.declared.Limits.{Limits}
use Rattle.protocol.specs.Forms.{answer_of}
use Rattle.protocol.specs.declared.Answer.{Answer}
use Rattle.store.specs.Whole.{Lent, Sound, house}
use Rattle.store.specs.declared.Memory.{Memory}
use Rattle.wire.specs.Bytes.{in_front}
use Rattle.wire.specs.Rows.{encoded, decoded}
use Rattle.wire_answers.specs.Answers.{answer_bytes}
use Rattle.every_call.specs.Stage.{Idle, stage}
use Rattle.journal.specs.Slots as slots
use Rattle.journal_rows.specs.Layout as layout
use Rattle.journal_rows.specs.Layout.{changes, head, pages, program}
use Rattle.journal_rows.specs.Bytes.{page_bytes}
use Rattle.journal_steps.specs.Steps.{Fits, WorkFits, chip_limits, journal_of, owed}
use Rattle.journal_steps.specs.declared.Journal.{Journal}
use Rattle.journal_steps.specs.declared.Work.{Work}
use Rattle.journal_steps.specs.declared.Work.TheVariants as work
use Rattle.session.specs.declared.Session.{Session}
use Rattle.session.specs.declared.Effect.{Effect}
use Rattle.session.specs.declared.Effect.TheVariants as effect

-- the bytes of the call under way, and that call
abbrev pub call_bytes : Session → List ℕ
call_bytes s = take s.length s.call

abbrev pub call_kept : Session → meaning.Call
call_kept s = decoded (call_bytes s)

-- the answer that is to be given
abbrev pub answer_kept : Session → meaning.Answer
answer_kept s = answer_of s.answer (take s.listed s.sold)

-- WHAT IS KEPT, in the words of the program of the main promise: the journal, and the house in memory
abbrev pub state : Session → (m : Memory) → slots.Journal (layout.house (stage m))
state s m = journal_of (stage m) s.journal (house m)

-- THE ACTS THAT ARE STILL OWED
abbrev pub pending : Session → Memory → List (Act meaning.Answer)
pending s m = owed (stage m) s.journal (house m) s.work (call_kept s) (answer_kept s)

-- is nothing left to be done
abbrev pub rests : Work → Bool
rests work.Resting = true
rests work.Answering = false
rests (work.Logging k) = false
rests (work.LoggingNow k) = false
rests work.Opening = false
rests work.OpeningMore = false
rests work.Erasing = false
rests (work.Filling j) = false
rests (work.FillingNow j) = false

abbrev pub at_rest : Session → Bool
at_rest s = rests s.work

-- a session that can go on over a memory: memory is sound and nobody waits for what is free; the numbers of the journal and of the work are in range; the call and the list that are kept are within their arrays, and the call's bytes are just those of the call that they are
pub record Ready (s : Session) (m : Memory) : Type 0 where
  pub sound : Sound m
  pub idle : Idle m
  pub fits : Fits m.limits s.journal
  pub work : WorkFits m.limits (pages (head (house m))) s.work
  pub listed : s.listed ≤ 26
  pub length : s.length ≤ 128
  pub whole : encoded (call_kept s) ≡ call_bytes s

-- a session with this journal, at rest
pub record Woken (j : Journal) (s : Session) : Type 0 where
  pub journal : s.journal ≡ j
  pub rests : at_rest s ≡ true
  pub ready : (m : Memory) → Sound m → Idle m → Fits m.limits j → Ready s m

-- did a call change the house, by its answer
abbrev pub Changed : Answer → meaning.Call → Bool → Type 0
Changed a c r = (l : meaning.Limits) (h : House) (list : List ℕ) → answer_of a list ≡ meaning.answer l h c → r ≡ changes l h c

-- the session takes a call
pub record Takes (s t : Session) (m n : Memory) (c : meaning.Call) : Type 0 where
  pub next : journal_of (stage m) t.journal (house n) ≡ (program page_bytes (stage m)).next (state s m) c
  pub acts : owed (stage m) t.journal (house n) t.work (call_kept t) (answer_kept t) ≡ (program page_bytes (stage m)).does (state s m) c
  pub ready : Ready t n
  pub lent : Lent m n

-- a call was begun: what is kept then is the program's next state, and the acts that are owed are what the program does for the call; or another call was under way, and nothing changed
abbrev pub Begun : Session → Session → Memory → Memory → meaning.Call → Bool → Type 0
Begun s t m n c true = Takes s t m n c
Begun s t m n c false = (at_rest s ≡ false) × (t ≡ s) × (n ≡ m)

-- what a step's effect does to the chip, or says: the answer a, or the page whose bytes are lent
abbrev pub effects : meaning.Answer → List ℕ → Effect → List (Act meaning.Answer)
effects a bs effect.Rest = []
effects a bs (effect.Write k) = write k bs ∷ []
effects a bs (effect.Erase b) = wipe b ∷ []
effects a bs (effect.Say n) = say a ∷ []

-- the lent page changes only where it is to be written, and the lent bytes only where the answer is put in front of them
abbrev pub LentBytes : meaning.Answer → List ℕ → List ℕ → List ℕ → List ℕ → Effect → Type 0
LentBytes a page page' out out' effect.Rest = (page' ≡ page) × (out' ≡ out)
LentBytes a page page' out out' (effect.Write k) = out' ≡ out
LentBytes a page page' out out' (effect.Erase b) = (page' ≡ page) × (out' ≡ out)
LentBytes a page page' out out' (effect.Say n) = (page' ≡ page) × (n ≡ length (answer_bytes a)) × (out' ≡ in_front (answer_bytes a) out)

-- an effect on the chip that the limits ask for
abbrev pub OnChip : Limits → Effect → Type 0
OnChip l effect.Rest = Unit {0}
OnChip l (effect.Write k) = k < 16 * room_for (chip_limits l)
OnChip l (effect.Erase b) = b < room_for (chip_limits l)
OnChip l (effect.Say n) = Unit {0}

-- there is no effect only where nothing is owed
abbrev pub OnlyAtRest : Session → Effect → Type 0
OnlyAtRest s effect.Rest = at_rest s ≡ true
OnlyAtRest s (effect.Write k) = Unit {0}
OnlyAtRest s (effect.Erase b) = Unit {0}
OnlyAtRest s (effect.Say n) = Unit {0}

-- ONE STEP: its effect is the first of the acts that are owed, and the others are left; the journal and the answer stay
pub record Stepped (s t : Session) (m : Memory) (page page' out out' : List ℕ) (e : Effect) : Type 0 where
  pub acts : pending s m ≡ effects (answer_kept s) page' e ++ pending t m
  pub bytes : LentBytes (answer_kept s) page page' out out' e
  pub on_chip : OnChip m.limits e
  pub rest : OnlyAtRest s e
  pub journal : t.journal ≡ s.journal
  pub answer : answer_kept t ≡ answer_kept s
  pub ready : Ready t m
