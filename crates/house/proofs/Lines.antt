-- A line that is no call is refused where it ceases to be one.
use Rattle.std.proofs.Common.{◌≡◌, ℕ, List, [], Err, Result, sym, refl, subst, lit≤}
use Rattle.std.specs.declared.alloc.AllocError.{AllocError}
use Rattle.calls.proofs.Performed.{idle, not_read}
use Rattle.calls.specs.Stage.{Done, stage}
use Rattle.meaning.specs.Promise.{thin}
use Rattle.meaning.specs.Statements.{Reached}
use Rattle.protocol.specs.declared.Answer.TheVariants as answer
use Rattle.questions.specs.declared.Reply.{Reply}
use Rattle.store.specs.Whole.{house}
use Rattle.store.specs.declared.Memory.{Memory}
use Rattle.call_files.specs.Lines.{RowRead}
use Rattle.text.specs.declared.NoCall.{NoCall}
use Rattle.text.specs.declared.NoCall.TheVariants as no_call
use Rattle.house.specs.Answering.{LineDone, LineRefused}

-- a line that is no call is answered as one that can't be read, and changes nothing
pub not_a_call : (m : Memory) (line list : List ℕ) (n : NoCall) (r : Result Reply AllocError) → Reached (stage m) (house m) →
    RowRead line (Err n) → LineRefused n r → LineDone m m line list r
not_a_call m line list (no_call.Unreadable place) r reached e f =
    subst (LineDone m m line list) (sym f) (subst (λ x. Done thin m m x (answer.Refused 1 place) []) (sym e) (not_read thin m (answer.Refused 1 place) place refl (idle (stage m) m reached)), lit≤ tt)
not_a_call m line list no_call.NoMemory r reached e f = subst (LineDone m m line list) (sym f) refl
