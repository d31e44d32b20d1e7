-- What was done on a chip, and which answers were given, when all acts were done or power failed in one of them. Definitions only: nothing is assumed or proved here.
use Rattle.std.specs.Prelude.{◌≡◌, ℕ, ◌<◌, Bool, true, false, List, [], ◌∷◌, ◌++◌, length, take, Some, None, Option}
use Rattle.meaning.specs.Calls.{Answer, Call}
use Rattle.meaning.specs.Chip.{Page, blank, has, spoilt, Chip}
use Rattle.journal.specs.Acts.{Act, done, all_done, Torn, LeftAfter, said}
use Rattle.store.specs.declared.Memory.{Memory}
use Rattle.store.specs.Whole.{Lent, house}
use Rattle.every_call.specs.Stage.{stage}
use Rattle.journal_rows.specs.Layout.{Reads, program}
use Rattle.journal_rows.specs.Bytes.{page_bytes}
use Rattle.journal_steps.specs.Steps.{journal_of}
use Rattle.session.specs.Acts.{Ready, at_rest, state}
use Rattle.session.specs.declared.Session.{Session}
use Rattle.flash.specs.declared.PageState.{PageState}
use Rattle.flash.specs.declared.PageState.TheVariants as reading

-- the page that reading told, with its bytes
abbrev pub page_of : PageState → List ℕ → Page
page_of reading.Blank bs = blank
page_of reading.Written bs = has bs
page_of reading.Spoilt bs = spoilt

-- ONE ACT on a chip d after the answers ts: where power held, it is done; where it failed, it is torn, and no answer was given
abbrev pub Acted : Chip → List Answer → Act Answer → Chip → List Answer → Bool → Type 0
Acted d ts x e us true = (e ≡ done d x) × (us ≡ ts ++ said (x ∷ []))
Acted d ts x e us false = Torn d x e × (us ≡ ts)

-- A LIST OF ACTS: where power held all of them are done; where it failed, it failed in one of them, those before it are done, and their answers are all that was given
pub record Stopped (d : Chip) (ts : List Answer) (xs : List (Act Answer)) (e : Chip) (us : List Answer) : Type 0 where
  pub at : ℕ
  pub in_it : at < length xs
  pub left : LeftAfter d xs at e
  pub heard : us ≡ ts ++ said (take at xs)

abbrev pub Finished : Chip → List Answer → List (Act Answer) → Chip → List Answer → Bool → Type 0
Finished d ts xs e us true = (e ≡ all_done d xs) × (us ≡ ts ++ said xs)
Finished d ts xs e us false = Stopped d ts xs e us

-- the next of the acts that are owed, and what is owed after it
pub record OneAct (d : Chip) (ts : List Answer) (before after : List (Act Answer)) (e : Chip) (us : List Answer) (held : Bool) : Type 0 where
  pub act : Act Answer
  pub first : before ≡ act ∷ after
  pub acted : Acted d ts act e us held

-- a session goes on, with the same journal
pub record Kept (s t : Session) (m : Memory) : Type 0 where
  pub ready : Ready t m
  pub journal : t.journal ≡ s.journal

-- some of the acts are done: those before what is still owed
pub record Progress (d : Chip) (ts : List Answer) (before now : List (Act Answer)) (e : Chip) (us : List Answer) : Type 0 where
  pub past : List (Act Answer)
  pub split : before ≡ past ++ now
  pub chip : e ≡ all_done d past
  pub heard : us ≡ ts ++ said past

-- A CALL was played on a session at rest: the acts that the program of the main promise does for it are done, all or up to the one in which power failed, and what is kept then is the program's next state
pub record CallPlayed (s t : Session) (m n : Memory) (c : Call) (d : Chip) (ts : List Answer) (e : Chip) (us : List Answer) (held : Bool) : Type 0 where
  pub next : journal_of (stage m) t.journal (house n) ≡ (program page_bytes (stage m)).next (state s m) c
  pub acts : Finished d ts ((program page_bytes (stage m)).does (state s m) c) e us held
  pub ready : Ready t n
  pub rests : held ≡ true → at_rest t ≡ true
  pub lent : Lent m n

-- a session that goes on from what a chip holds: what is kept is the program's start on that chip
pub record Started (d : Chip) (m : Memory) (s : Session) : Type 0 where
  pub start : state s m ≡ (program page_bytes (stage m)).start d
  pub ready : Ready s m
  pub rests : at_rest s ≡ true

-- A CHIP was taken up, or it reads as no calls under these limits
abbrev pub TakenUp : Chip → Memory → Option Session → Type 0
TakenUp d m (Some s) = Started d m s
TakenUp d m None = (ts : List Call) → Reads (stage m) page_bytes d ts → ⊥
