-- Which calls the whole house does: all that there are. Definitions only: nothing is assumed or proved here.
use Rattle.std.specs.Prelude.{ℕ, Bool, List}
use Rattle.meaning.specs.Calls as meaning
use Rattle.meaning.specs.Promise.{whole}
use Rattle.protocol.specs.declared.Answer.{Answer}
use Rattle.store.specs.declared.Memory.{Memory}
use Rattle.calls.specs.Stage as calls

-- WHICH CALLS CAN BE DONE: all of them
abbrev pub stage_calls : ℕ → Bool
stage_calls = whole

-- the limits of a memory's house, at this stage
abbrev pub stage : Memory → meaning.Limits
stage m = calls.stage_at stage_calls m

-- nobody waits for what is free in memory
abbrev pub Idle : Memory → Type 0
Idle m = calls.Idle m

-- a call was done at this stage
abbrev pub Done : Memory → Memory → meaning.Call → Answer → List ℕ → Type 0
Done m n x a list = calls.Done stage_calls m n x a list
