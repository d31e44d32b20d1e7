-- A call put together from the numbers that were read: only as many count as its number asks for.
use Rattle.std.proofs.Common.{◌≡◌, ℕ, ◌<◌, List, [], get_or, take, Err, ap, ◌∙◌, arith}
use Rattle.meaning.specs.Calls.{opens, files, books, pays, cancels, limits_to, ticks, free, price_of, booking, leg_is}
use Rattle.protocol.specs.Forms.{field_count, made}
use Rattle.protocol.specs.Verbs.{verb_number}
use Rattle.protocol.specs.declared.verbs.Verb.{Verb}
use Rattle.protocol.specs.declared.verbs.Verb.TheVariants as verb
use Rattle.scan.specs.Told.{ListTold}
use Rattle.scan.specs.Words.{got, bad, and_then, numbers_in}
use Rattle.scan.specs.declared.Unread.{Unread}
use Rattle.scan.specs.declared.Unread.TheVariants as unread
use Rattle.std.proofs.lemmas.List.{get_or-take}
use Rattle.text.specs.CallLines.{listing_in, rest_in}
use Rattle.text.specs.Told.{RestTold}

-- numbers that agree as far as they count make the same call
same_made : (fs gs list : List ℕ) (v : Verb) → ((i : ℕ) → i < field_count (verb_number v) → get_or fs i 0 ≡ get_or gs i 0) → made (verb_number v) fs list ≡ made (verb_number v) gs list
same_made fs gs list verb.Open h = λ d. opens (h 0 (omega arith) d) (h 1 (omega arith) d) (h 2 (omega arith) d) (h 3 (omega arith) d) list
same_made fs gs list verb.File h = λ d. files (h 0 (omega arith) d) (h 1 (omega arith) d) (h 2 (omega arith) d) (h 3 (omega arith) d) (h 4 (omega arith) d)
same_made fs gs list verb.Book h = λ d. books (h 0 (omega arith) d) (h 1 (omega arith) d) list
same_made fs gs list verb.Pay h = λ d. pays (h 0 (omega arith) d)
same_made fs gs list verb.Cancel h = λ d. cancels (h 0 (omega arith) d)
same_made fs gs list verb.Limits h = λ d. limits_to (h 0 (omega arith) d) list
same_made fs gs list verb.Ticks h = λ d. ticks (h 0 (omega arith) d)
same_made fs gs list verb.Free h = λ d. free (h 0 (omega arith) d) (h 1 (omega arith) d)
same_made fs gs list verb.Price h = λ d. price_of (h 0 (omega arith) d) list
same_made fs gs list verb.Booking h = λ d. booking (h 0 (omega arith) d)
same_made fs gs list verb.Leg h = λ d. leg_is (h 0 (omega arith) d)

pub made_take : (v : Verb) (fs list : List ℕ) → made (verb_number v) (take (field_count (verb_number v)) fs) list ≡ made (verb_number v) fs list
made_take v fs list = same_made (take (field_count (verb_number v)) fs) fs list v (λ i h. get_or-take (field_count (verb_number v)) fs i 0 h)

-- what is read behind the first word, where the numbers don't fit, where the list doesn't, and where both do
pub numbers_stop : (k left : ℕ) (bs : List ℕ) → numbers_in (field_count k) bs ≡ bad left → rest_in k bs ≡ bad left
unfolding rest_in
numbers_stop k left bs e = ap (λ r. and_then r (λ fs rest. and_then (listing_in k rest) (λ list end. got (made k fs list) end))) e

pub numbers_go : (k : ℕ) (bs fs rest : List ℕ) → numbers_in (field_count k) bs ≡ got fs rest → rest_in k bs ≡ and_then (listing_in k rest) (λ list end. got (made k fs list) end)
unfolding rest_in
numbers_go k bs fs rest e = ap (λ r. and_then r (λ fs rest. and_then (listing_in k rest) (λ list end. got (made k fs list) end))) e

pub list_stop : (k : ℕ) (bs fs rest : List ℕ) (x : Unread) → numbers_in (field_count k) bs ≡ got fs rest → ListTold (Err x) (listing_in k rest) → RestTold (Err x) (rest_in k bs)
list_stop k bs fs rest (unread.Unfit unfit) e f = numbers_go k bs fs rest e ∙ ap (λ r. and_then r (λ list end. got (made k fs list) end)) f
list_stop k bs fs rest unread.NoMemory e f = tt

pub list_go : (k : ℕ) (bs fs rest list : List ℕ) → numbers_in (field_count k) bs ≡ got fs rest → listing_in k rest ≡ got list [] → rest_in k bs ≡ got (made k fs list) []
list_go k bs fs rest list e f = numbers_go k bs fs rest e ∙ ap (λ r. and_then r (λ list end. got (made k fs list) end)) f
