-- A call is taken apart into its verb's number and its numbers.
use Rattle.std.proofs.Common.{◌≡◌, ℕ, List, [], ◌∷◌, refl, lit≤}
use Rattle.std.proofs.lemmas.Bool.{false≢true}
use Rattle.meaning.specs.Calls.{call_number}
use Rattle.protocol.specs.Forms.{TakenApart}
use Rattle.protocol.specs.Verbs.{verb_number, verb_of}
use Rattle.protocol.specs.declared.Call.{Call}
use Rattle.protocol.specs.declared.Call.TheVariants as call

-- the five numbers that stand for a call's: its own, and 0 beyond them
abbrev pub five_of : Call → List ℕ
five_of (call.Open a b c d) = a ∷ b ∷ c ∷ d ∷ 0 ∷ []
five_of (call.File a b c n p) = a ∷ b ∷ c ∷ n ∷ p ∷ []
five_of (call.Book c n) = c ∷ n ∷ 0 ∷ 0 ∷ 0 ∷ []
five_of (call.Pay k) = k ∷ 0 ∷ 0 ∷ 0 ∷ 0 ∷ []
five_of (call.Cancel k) = k ∷ 0 ∷ 0 ∷ 0 ∷ 0 ∷ []
five_of (call.Limits i) = i ∷ 0 ∷ 0 ∷ 0 ∷ 0 ∷ []
five_of (call.Ticks n) = n ∷ 0 ∷ 0 ∷ 0 ∷ 0 ∷ []
five_of (call.Free i c) = i ∷ c ∷ 0 ∷ 0 ∷ 0 ∷ []
five_of (call.Price c) = c ∷ 0 ∷ 0 ∷ 0 ∷ 0 ∷ []
five_of (call.Booking k) = k ∷ 0 ∷ 0 ∷ 0 ∷ 0 ∷ []
five_of (call.Leg i) = i ∷ 0 ∷ 0 ∷ 0 ∷ 0 ∷ []

-- and these are the call taken apart
pub five_apart : (c : Call) → TakenApart c (verb_number (verb_of c)) (five_of c)
unfolding call_number
five_apart (call.Open a b c d) = record { known = lit≤ tt; number_is = λ _. refl; fields_are = λ _. refl; list_is = λ _ _. refl }
five_apart (call.File a b c n p) = record { known = lit≤ tt; number_is = λ _. refl; fields_are = λ _. refl; list_is = λ _ e. absurd (false≢true e) }
five_apart (call.Book c n) = record { known = lit≤ tt; number_is = λ _. refl; fields_are = λ _. refl; list_is = λ _ _. refl }
five_apart (call.Pay k) = record { known = lit≤ tt; number_is = λ _. refl; fields_are = λ _. refl; list_is = λ _ e. absurd (false≢true e) }
five_apart (call.Cancel k) = record { known = lit≤ tt; number_is = λ _. refl; fields_are = λ _. refl; list_is = λ _ e. absurd (false≢true e) }
five_apart (call.Limits i) = record { known = lit≤ tt; number_is = λ _. refl; fields_are = λ _. refl; list_is = λ _ _. refl }
five_apart (call.Ticks n) = record { known = lit≤ tt; number_is = λ _. refl; fields_are = λ _. refl; list_is = λ _ e. absurd (false≢true e) }
five_apart (call.Free i c) = record { known = lit≤ tt; number_is = λ _. refl; fields_are = λ _. refl; list_is = λ _ e. absurd (false≢true e) }
five_apart (call.Price c) = record { known = lit≤ tt; number_is = λ _. refl; fields_are = λ _. refl; list_is = λ _ _. refl }
five_apart (call.Booking k) = record { known = lit≤ tt; number_is = λ _. refl; fields_are = λ _. refl; list_is = λ _ e. absurd (false≢true e) }
five_apart (call.Leg i) = record { known = lit≤ tt; number_is = λ _. refl; fields_are = λ _. refl; list_is = λ _ e. absurd (false≢true e) }

pub apart : (c : Call) (fs : List ℕ) → fs ≡ five_of c → TakenApart c (verb_number (verb_of c)) fs
apart c fs e = rw e (five_apart c)
