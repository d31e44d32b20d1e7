-- Which call and answer of the meaning a value of the code is, with the list beside it; and the numbers of a call, in the order in which every form writes them. Definitions only.
use Rattle.std.specs.Prelude.{◌≡◌, ℕ, ◌≤◌, Bool, true, false, List, [], ◌∷◌, length, get_or, take, ◌==◌, slice_index, slice_index_or}
use Rattle.meaning.specs.Lines.{pick}
use Rattle.meaning.specs.Calls as meaning
use Rattle.meaning.specs.Calls.{opens, files, books, pays, cancels, limits_to, ticks, free, price_of, booking, leg_is, garbled, refused, number, two, stands_so, sold, call_number}
use Rattle.protocol.specs.Verbs.{verb_number}
use Rattle.protocol.specs.declared.Answer.{Answer}
use Rattle.protocol.specs.declared.Answer.TheVariants as answer
use Rattle.protocol.specs.declared.Call.{Call}
use Rattle.protocol.specs.declared.Call.TheVariants as call
use Rattle.protocol.specs.declared.verbs.Verb.{Verb}

-- the meaning's call, of the code's and the list beside it
abbrev pub call_of : Call → List ℕ → meaning.Call
call_of (call.Open a b c d) list = opens a b c d list
call_of (call.File a b c n p) list = files a b c n p
call_of (call.Book c n) list = books c n list
call_of (call.Pay k) list = pays k
call_of (call.Cancel k) list = cancels k
call_of (call.Limits i) list = limits_to i list
call_of (call.Ticks n) list = ticks n
call_of (call.Free i c) list = free i c
call_of (call.Price c) list = price_of c list
call_of (call.Booking k) list = booking k
call_of (call.Leg i) list = leg_is i

-- the meaning's answer, of the code's and the list beside it
abbrev pub answer_of : Answer → List ℕ → meaning.Answer
answer_of (answer.Refused n p) list = refused n p
answer_of (answer.Number n) list = number n
answer_of (answer.Booked k s) list = two k s
answer_of (answer.Stands s u p) list = stands_so s u p
answer_of answer.Sold list = sold list

-- the numbers of a call, in order, before its list
abbrev pub fields : meaning.Call → List ℕ
fields (opens a b c d ls) = a ∷ b ∷ c ∷ d ∷ []
fields (files a b c n p) = a ∷ b ∷ c ∷ n ∷ p ∷ []
fields (books c n is) = c ∷ n ∷ []
fields (pays k) = k ∷ []
fields (cancels k) = k ∷ []
fields (limits_to i ls) = i ∷ []
fields (ticks n) = n ∷ []
fields (free i c) = i ∷ c ∷ []
fields (price_of c is) = c ∷ []
fields (booking k) = k ∷ []
fields (leg_is i) = i ∷ []
fields (garbled n) = []

-- the list of a call, which comes last; empty where it has none
abbrev pub listing : meaning.Call → List ℕ
listing (opens a b c d ls) = ls
listing (files a b c n p) = []
listing (books c n is) = is
listing (pays k) = []
listing (cancels k) = []
listing (limits_to i ls) = ls
listing (ticks n) = []
listing (free i c) = []
listing (price_of c is) = is
listing (booking k) = []
listing (leg_is i) = []
listing (garbled n) = []

-- how many numbers the calls 0 to 10 have before their list
abbrev pub field_count : ℕ → ℕ
field_count k = slice_index (4 ∷ 5 ∷ 2 ∷ 1 ∷ 1 ∷ 1 ∷ 1 ∷ 2 ∷ 1 ∷ 1 ∷ 1 ∷ []) k

-- which calls end in a list: open, book, limits and price
abbrev pub has_list : ℕ → Bool
has_list k = slice_index_or (true ∷ false ∷ true ∷ false ∷ false ∷ true ∷ false ∷ false ∷ true ∷ []) k false

-- the call of a number, with these numbers and this list
abbrev pub made : ℕ → List ℕ → List ℕ → meaning.Call
made k fs list =
    let f : ℕ → ℕ = λ i. get_or fs i 0 in
    pick (k == 0) (opens (f 0) (f 1) (f 2) (f 3) list)
    (pick (k == 1) (files (f 0) (f 1) (f 2) (f 3) (f 4))
    (pick (k == 2) (books (f 0) (f 1) list)
    (pick (k == 3) (pays (f 0))
    (pick (k == 4) (cancels (f 0))
    (pick (k == 5) (limits_to (f 0) list)
    (pick (k == 6) (ticks (f 0))
    (pick (k == 7) (free (f 0) (f 1))
    (pick (k == 8) (price_of (f 0) list)
    (pick (k == 9) (booking (f 0))
    (leg_is (f 0)))))))))))

-- a call taken apart: its number and its numbers, whatever list stands beside it, and that this is its list where its number has one
pub record TakenApart (c : Call) (k : ℕ) (fs : List ℕ) : Type 0 where
  pub known : k ≤ 10
  pub number_is : (list : List ℕ) → k ≡ call_number (call_of c list)
  pub fields_are : (list : List ℕ) → take (field_count k) fs ≡ fields (call_of c list)
  pub list_is : (list : List ℕ) → has_list k ≡ true → listing (call_of c list) ≡ list

-- a call put together from its verb and its numbers, whatever list stands beside it
abbrev pub PutTogether : Verb → List ℕ → Call → Type 0
PutTogether v fs c = (list : List ℕ) → call_of c list ≡ made (verb_number v) fs list

-- nothing of a call is lost by taking it apart: its number, numbers and list give it back, it has as many numbers as its number says, and a list only where its number says so
pub record KeptWhole (c : meaning.Call) : Type 0 where
  pub back : made (call_number c) (fields c) (listing c) ≡ c
  pub counted : length (fields c) ≡ field_count (call_number c)
  pub unlisted : has_list (call_number c) ≡ false → listing c ≡ []

-- of every call; what can't be read is none
abbrev pub NothingLost : Type 0
NothingLost = (c : meaning.Call) → call_number c ≤ 10 → KeptWhole c
