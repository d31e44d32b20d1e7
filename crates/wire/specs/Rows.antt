-- Which bytes a call has, and which call a row of bytes is. Definitions only.
use Rattle.std.specs.Prelude.{◌≡◌, ℕ, ◌+◌, ◌*◌, ◌<◌, ◌≤◌, true, ◌⊎◌, List, [], ◌∷◌, ◌++◌, length, take, drop, Some, None, Ok, Err, Option, Result, nat_lt, slice_index, slice_index_or}
use Rattle.meaning.specs.Lines.{pick}
use Rattle.meaning.specs.Calls.{Call, garbled, call_number}
use Rattle.meaning.specs.Promise.{readable}
use Rattle.protocol.specs.Forms.{call_of, fields, listing, field_count, has_list, made}
use Rattle.wire.specs.Bytes.{row_of, numbers_in, in_front}
use Rattle.wire.specs.declared.Decoded.{Decoded}

-- a call's number in a byte, its numbers in four bytes each, and its list, if it has one, behind its count in a byte
unfoldable pub in_bytes : ℕ → List ℕ → List ℕ → List ℕ
in_bytes k fs list = k ∷ (row_of 4 fs ++ pick (has_list k) (length list ∷ row_of 4 list) [])

-- THE BYTES OF A CALL; what can't be read has a first byte that no call has
unfoldable pub encoded : Call → List ℕ
encoded c = in_bytes (call_number c) (fields c) (listing c)

-- where the numbers of call k end: there stands its count, or nothing
abbrev pub fields_end : ℕ → ℕ
fields_end k = 1 + 4 * field_count k

-- where its list begins
unfoldable pub list_at : ℕ → ℕ
list_at k = pick (has_list k) (fields_end k + 1) (fields_end k)

-- how many bytes a row of call k should have; a count that is missing counts as 0
unfoldable pub extent : ℕ → List ℕ → ℕ
extent k bs = pick (has_list k) (fields_end k + 1 + 4 * slice_index bs (fields_end k)) (fields_end k)

-- a row of bytes read as call k, or the place of the first byte that doesn't fit: 0 where no call has this number, the row's length where bytes are missing, and the place of the first byte too many
unfoldable pub read_as : ℕ → List ℕ → Call
read_as k bs =
    pick (nat_lt 10 k) (garbled 0)
    (pick (nat_lt (length bs) (extent k bs)) (garbled (length bs))
    (pick (nat_lt (extent k bs) (length bs)) (garbled (extent k bs))
    (made k (take (field_count k) (numbers_in (drop 1 bs))) (numbers_in (drop (list_at k) bs)))))

-- THE CALL OF A ROW OF BYTES: its first byte is the call's number; a row without one is no call from place 0 on
abbrev pub decoded : List ℕ → Call
decoded bs = read_as (slice_index_or bs 0 255) bs

-- a call that can be written in its fields; what can't be read is none
pub record CanBeWritten (c : Call) : Type 0 where
  pub fits : readable c ≡ true
  pub is_call : call_number c ≤ 10

-- what the decoder tells: a call with the part of the bytes that is its list, or the place
abbrev pub call_told : Result Decoded ℕ → Call
call_told (Ok d) = call_of d.call (numbers_in d.list.now)
call_told (Err n) = garbled n

-- the part of the bytes that the decoder hands on is all that stands behind the numbers and the count: the list, or nothing where the call has none
abbrev pub ListPart : List ℕ → Result Decoded ℕ → Type 0
ListPart bs (Ok d) = d.list.now ≡ drop (list_at (slice_index bs 0)) bs
ListPart bs (Err n) = Unit {0}

-- a call that was read can be written in its fields, and a place is within the row or right behind it
abbrev pub Readable : List ℕ → Result Decoded ℕ → Type 0
Readable bs (Ok d) = CanBeWritten (call_told (Ok d))
Readable bs (Err n) = n ≤ length bs

-- number i of a part that is a list, or none beyond the last
abbrev pub NumberAt : List ℕ → ℕ → Option ℕ → Type 0
NumberAt part i (Some n) = (i < length (numbers_in part)) × (n ≡ slice_index (numbers_in part) i)
NumberAt part i None = length (numbers_in part) ≤ i

-- a call written at the front of a row: its length and the row then; none where its list is longer than a byte can count or the row is too short, and then nothing is written
abbrev pub CallWritten : Call → List ℕ → List ℕ → Option ℕ → Type 0
CallWritten c old new (Some n) = (length (listing c) ≤ 255) × (length (encoded c) ≤ length old) × (n ≡ length (encoded c)) × (new ≡ in_front (encoded c) old)
CallWritten c old new None = ((255 < length (listing c)) ⊎ (length old < length (encoded c))) × (new ≡ old)
