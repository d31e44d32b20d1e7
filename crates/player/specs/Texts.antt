-- A file of calls played on a device, and what is promised of it. Definitions only: nothing is assumed or proved here.
use Rattle.std.specs.Prelude.{◌≡◌, ℕ, zero, suc, Bool, true, false, ◌⊎◌, List, [], ◌∷◌, ◌++◌, length, take, ◌==◌, Ok, Err, Result}
use Rattle.meaning.specs.Lines.{pick}
use Rattle.meaning.specs.Calls.{Answer, Call, Limits, answers, ran, new_house}
use Rattle.meaning.specs.Chip.{Chip}
use Rattle.journal.specs.Acts.{Act, LeftAfter, said}
use Rattle.meaning.specs.Promise.{all_readable}
use Rattle.journal.specs.Programs.{acts}
use Rattle.call_files.specs.Lines.{passed_over}
use Rattle.scan.specs.Words.{line_of, past_line}
use Rattle.store.specs.declared.Memory.{Memory}
use Rattle.text.specs.CallLines.{line_call}
use Rattle.calls.specs.Stage.{Promised}
use Rattle.every_call.specs.Stage.{stage}
use Rattle.journal_rows.specs.Layout.{Reads, program}
use Rattle.journal_rows.specs.Bytes.{page_bytes}
use Rattle.session.specs.Acts.{state}
use Rattle.session.specs.declared.Session.{Session}
use Rattle.driver.specs.Played.{CallPlayed, Finished}
use Rattle.player.specs.declared.LineFault.{LineFault}
use Rattle.player.specs.declared.LineFault.TheVariants as line
use Rattle.player.specs.declared.Unfinished.{Unfinished}
use Rattle.player.specs.declared.Unfinished.TheVariants as unfinished

-- the calls of a text of n lines at most: each line that is not passed over is one
unfoldable pub calls_in : ℕ → List ℕ → List Call
calls_in zero bs = []
calls_in (suc n) [] = []
calls_in (suc n) (b ∷ bs) = pick (passed_over (line_of (b ∷ bs))) [] (line_call (line_of (b ∷ bs)) ∷ []) ++ calls_in n (past_line (b ∷ bs))

-- THE CALLS OF A TEXT: it has no more lines than bytes
abbrev pub text_calls : List ℕ → List Call
text_calls bs = calls_in (length bs) bs

-- a line was played as its call; where there was no memory to read it nothing was done
abbrev pub PlaysLine : Session → Session → Memory → Memory → Call → Chip → List Answer → Chip → List Answer → Result (Unit {0}) LineFault → Type 0
PlaysLine s t m n c d ts e us (Ok _) = CallPlayed s t m n c d ts e us true
PlaysLine s t m n c d ts e us (Err line.PowerFailed) = CallPlayed s t m n c d ts e us false
PlaysLine s t m n c d ts e us (Err line.NoMemory) = (t ≡ s) × (n ≡ m) × (e ≡ d) × (us ≡ ts)

-- why a run ended, by why a line of it was not played to its end
abbrev pub ended_by : LineFault → Unfinished
ended_by line.PowerFailed = unfinished.PowerFailed
ended_by line.NoMemory = unfinished.NoMemory

-- acts were done up to one of them, which power may have torn, and the answers among those before it are all that was given
pub record CutOff (d : Chip) (ts : List Answer) (xs : List (Act Answer)) (e : Chip) (us : List Answer) : Type 0 where
  pub at : ℕ
  pub left : LeftAfter d xs at e
  pub heard : us ≡ ts ++ said (take at xs)

-- a text was played from a session at rest: all acts that the program does for its calls are done, or they were cut off
abbrev pub TextPlayed : Session → Memory → List Call → Chip → List Answer → Chip → List Answer → Result (Unit {0}) LineFault → Type 0
TextPlayed s m cs d ts e us (Ok _) = Finished d ts (acts (program page_bytes (stage m)) (state s m) cs) e us true
TextPlayed s m cs d ts e us (Err _) = CutOff d ts (acts (program page_bytes (stage m)) (state s m) cs) e us

-- WHAT IS PROMISED of a chip that reads as the calls before: the answers that were given are the house's, to the first so many calls; and the chip that is left reads as the calls before and those that were answered, or
-- these and the one under way
pub record KeptPromise (l : Limits) (before cs : List Call) (ts : List Answer) (e : Chip) (us : List Answer) : Type 0 where
  pub heard : ℕ
  pub given : us ≡ ts ++ take heard (answers l (ran l (new_house l) before) cs)
  pub reads : Reads l page_bytes e (before ++ take heard cs) ⊎ Reads l page_bytes e (before ++ take (suc heard) cs)

-- and where all was played, every call was answered, and is kept
pub record AllKept (l : Limits) (before cs : List Call) (ts : List Answer) (e : Chip) (us : List Answer) : Type 0 where
  pub given : us ≡ ts ++ answers l (ran l (new_house l) before) cs
  pub reads : Reads l page_bytes e (before ++ cs)

-- THE MAIN PROMISE of a run: a chip that reads as calls is never refused, and what is given and left is what is promised; a chip that was refused is left as it was, and nothing was given
abbrev pub RunEnded : Limits → List Call → Chip → List Answer → Chip → List Answer → Result (Unit {0}) Unfinished → Type 0
RunEnded l cs d ts e us (Ok _) = (before : List Call) → Reads l page_bytes d before → all_readable cs ≡ true → AllKept l before cs ts e us
RunEnded l cs d ts e us (Err unfinished.Refused) = ((before : List Call) → Reads l page_bytes d before → ⊥) × (e ≡ d) × (us ≡ ts)
RunEnded l cs d ts e us (Err unfinished.PowerFailed) = (before : List Call) → Reads l page_bytes d before → all_readable cs ≡ true → KeptPromise l before cs ts e us
RunEnded l cs d ts e us (Err unfinished.NoMemory) = (before : List Call) → Reads l page_bytes d before → all_readable cs ≡ true → KeptPromise l before cs ts e us

-- every statement about the house holds of each house that a chip reads as
abbrev pub StatementsHold : Type 0
StatementsHold = (l : Limits) (d : Chip) (cs : List Call) → Reads l page_bytes d cs → Promised l (ran l (new_house l) cs)
