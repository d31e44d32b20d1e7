-- What it means that a call is done on memory as the meaning says. Definitions only: nothing is assumed or proved here.
use Rattle.std.specs.Prelude.{◌≡◌, ℕ, Bool, true}
use Rattle.meaning.specs.House.{House}
use Rattle.meaning.specs.Calls.{Call, Answer, call_number, after, answer}
use Rattle.limits.specs.Opening.{limits_mean}
use Rattle.limits.specs.declared.Limits.{Limits}

-- a is the answer to call x on house h, and g the house then, under these limits, at every stage that can do the call
pub record Meant (l : Limits) (h : House) (x : Call) (a : Answer) (g : House) : Type 0 where
  pub says : (can : ℕ → Bool) → can (call_number x) ≡ true → a ≡ answer (limits_mean can l) h x
  pub leaves : (can : ℕ → Bool) → can (call_number x) ≡ true → g ≡ after (limits_mean can l) h x
