-- Calls as lines: `book 1 2 on 0 1`. How a call is printed, and which call a line is, or where it ceases to be one. Definitions only.
use Rattle.std.specs.Prelude.{◌≡◌, ℕ, ◌-◌, ◌≤◌, true, List, [], ◌∷◌, ◌++◌, length, codes, ◌==◌, nat_lt, slice_index_or}
use Rattle.std.specs.List.{position_or_len}
use Rattle.std.specs.Str.{bytes_eq}
use Rattle.meaning.specs.Lines.{pick}
use Rattle.meaning.specs.Calls.{Call, garbled, call_number}
use Rattle.meaning.specs.Promise.{readable}
use Rattle.protocol.specs.Forms.{fields, listing, field_count, has_list, made}
use Rattle.scan.specs.Words.{Read, got, bad, and_then, next_word, word_in, past_word, numbers_in, list_in, spaced}

-- the words with which lines begin, in the order of the calls' numbers
abbrev pub verbs : List (List ℕ)
verbs =
    codes "open" ∷ codes "file" ∷ codes "book" ∷ codes "pay" ∷ codes "cancel" ∷ codes "limits"
    ∷ codes "ticks" ∷ codes "free" ∷ codes "price" ∷ codes "booking" ∷ codes "leg" ∷ []

-- the word before the list of a call
abbrev pub joint : ℕ → List ℕ
joint k = pick (k == 0) (codes "limits") (pick (k == 5) (codes "to") (codes "on"))

-- behind the numbers of a call of number k: where it has a list, the word before that and the list
abbrev pub tail_from : ℕ → List ℕ → List ℕ
tail_from k list = pick (has_list k) ((32 ∷ joint k) ++ spaced list) []

-- the line of a call of number k: its word, its numbers and its list
unfoldable pub line_from : ℕ → List ℕ → List ℕ → List ℕ
line_from k fs list = slice_index_or verbs k [] ++ (spaced fs ++ tail_from k list)

-- THE LINE of a call
abbrev pub call_line : Call → List ℕ
call_line c = line_from (call_number c) (fields c) (listing c)

-- the place of a word among others; their number where it is none of them
unfoldable pub place_among : List ℕ → List (List ℕ) → ℕ
place_among w vs = position_or_len (bytes_eq w) vs

-- the list of a call of number k, up to the end of the line: behind its word; nothing more may come where the call has none
unfoldable pub listing_in : ℕ → List ℕ → Read (List ℕ)
listing_in k bs = pick (has_list k) (pick (bytes_eq (word_in bs) (joint k)) (list_in 255 (past_word bs)) (bad (length (next_word bs)))) (list_in 0 bs)

-- the call of number k that a line is behind its first word
unfoldable pub rest_in : ℕ → List ℕ → Read Call
rest_in k bs = and_then (numbers_in (field_count k) bs) (λ fs rest. and_then (listing_in k rest) (λ list end. got (made k fs list) end))

-- the call that a line is. A word that is unknown does not fit from its first byte on
unfoldable pub call_in : List ℕ → Read Call
call_in bs = pick (nat_lt (place_among (word_in bs) verbs) 11) (rest_in (place_among (word_in bs) verbs) (past_word bs)) (bad (length (next_word bs)))

-- a call that was read, or the place in a line of n bytes from which on it is none
abbrev pub placed : ℕ → Read Call → Call
placed n (got c rest) = c
placed n (bad left) = garbled (n - left)

-- THE CALL that a line is
abbrev pub line_call : List ℕ → Call
line_call bs = placed (length bs) (call_in bs)

-- for every call that can be written in its fields, reading the line that is printed for it gives that call back
abbrev pub ReadsBack : Type 0
ReadsBack = (c : Call) → call_number c ≤ 10 → readable c ≡ true → line_call (call_line c) ≡ c
