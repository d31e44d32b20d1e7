-- What a line of a file of calls does. Definitions only: nothing is assumed or proved here.
use Rattle.std.specs.Prelude.{◌≡◌, ℕ, ◌≤◌, List, take, Ok, Err, Result}
use Rattle.meaning.specs.Promise.{thin}
use Rattle.calls.specs.Stage.{Done}
use Rattle.questions.specs.declared.Reply.{Reply}
use Rattle.std.specs.declared.alloc.AllocError.{AllocError}
use Rattle.store.specs.declared.Memory.{Memory}
use Rattle.protocol.specs.declared.Answer.TheVariants as answer
use Rattle.text.specs.CallLines.{line_call}
use Rattle.text.specs.declared.NoCall.{NoCall}
use Rattle.text.specs.declared.NoCall.TheVariants as no_call

-- a line that is no call is refused by 1, where it ceases to be one; where there was no memory to read it, nothing is answered
abbrev pub LineRefused : NoCall → Result Reply AllocError → Type 0
LineRefused (no_call.Unreadable place) r = r ≡ Ok (record { answer = answer.Refused 1 place; listed = 0 })
LineRefused no_call.NoMemory r = r ≡ Err (record {})

-- the call that a line is was done; where there was no memory to read the line, nothing changed
abbrev pub LineDone : Memory → Memory → List ℕ → List ℕ → Result Reply AllocError → Type 0
LineDone m n line list (Ok reply) = Done thin m n (line_call line) reply.answer (take reply.listed list) × (reply.listed ≤ 26)
LineDone m n line list (Err e) = n ≡ m
