-- The numbers of verbs, and which numbers are none's. Definitions only.
use Rattle.std.specs.Prelude.{◌≡◌, ℕ, ◌<◌, Result, MatchResult}
use Rattle.protocol.specs.declared.Call.{Call}
use Rattle.protocol.specs.declared.Call.TheVariants as call
use Rattle.protocol.specs.declared.verbs.NoVerb.{NoVerb}
use Rattle.protocol.specs.declared.verbs.Verb.{Verb}
use Rattle.protocol.specs.declared.verbs.Verb.TheVariants as verb

-- the number of a verb, which is that of its calls
abbrev pub verb_number : Verb → ℕ
verb_number verb.Open = 0
verb_number verb.File = 1
verb_number verb.Book = 2
verb_number verb.Pay = 3
verb_number verb.Cancel = 4
verb_number verb.Limits = 5
verb_number verb.Ticks = 6
verb_number verb.Free = 7
verb_number verb.Price = 8
verb_number verb.Booking = 9
verb_number verb.Leg = 10

-- the verb of a number, or that number back where it is none's, which each beyond 10 is
abbrev pub Named : ℕ → Result Verb NoVerb → Type 0
Named k r = MatchResult r (λ v. verb_number v ≡ k) (λ e. (e.0 ≡ k) × (10 < k))

-- what a call does
abbrev pub verb_of : Call → Verb
verb_of (call.Open a b c d) = verb.Open
verb_of (call.File a b c n p) = verb.File
verb_of (call.Book c n) = verb.Book
verb_of (call.Pay k) = verb.Pay
verb_of (call.Cancel k) = verb.Cancel
verb_of (call.Limits i) = verb.Limits
verb_of (call.Ticks n) = verb.Ticks
verb_of (call.Free i c) = verb.Free
verb_of (call.Price c) = verb.Price
verb_of (call.Booking k) = verb.Booking
verb_of (call.Leg i) = verb.Leg
