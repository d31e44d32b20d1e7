-- What is promised of the bytes of calls. Statements only; each is asked for by the contract of a function.
use Rattle.std.specs.Prelude.{◌≡◌, ℕ, ◌+◌, ◌<◌, ◌≤◌, List, ◌++◌, length, take}
use Rattle.meaning.specs.Calls.{Call, garbled, call_number}
use Rattle.wire.specs.Bytes.{Bytes}
use Rattle.wire.specs.Rows.{CanBeWritten, encoded, decoded}

-- decoding what was encoded gives the call
abbrev pub CallsComeBack : Type 0
CallsComeBack = (c : Call) → CanBeWritten c → decoded (encoded c) ≡ c

-- encoding what was decoded gives the bytes, of every row that is a call
abbrev pub BytesComeBack : Type 0
BytesComeBack = (bs : List ℕ) → Bytes bs → call_number (decoded bs) ≤ 10 → encoded (decoded bs) ≡ bs

-- a row that is a call is one that can be written
abbrev pub CallsFit : Type 0
CallsFit = (bs : List ℕ) → Bytes bs → call_number (decoded bs) ≤ 10 → CanBeWritten (decoded bs)

-- no two calls have the same bytes
abbrev pub NoneAlike : Type 0
NoneAlike = (c d : Call) → CanBeWritten c → CanBeWritten d → encoded c ≡ encoded d → c ≡ d

-- every call that can be written has so many bytes at most
abbrev pub CallsWithin : ℕ → Type 0
CallsWithin n = (c : Call) → CanBeWritten c → length (encoded c) ≤ n

-- the most bytes that a call has
pub record MostBytes (n : ℕ) : Type 0 where
  pub enough : CallsWithin n
  pub least : (m : ℕ) → CallsWithin m → n ≤ m

-- place n of a row is that of the first byte that doesn't fit: the bytes before it begin some call, and with it they begin none; where every byte fits, and the row only ends too soon, it is the place right behind
pub record FirstMisfit (bs : List ℕ) (n : ℕ) : Type 0 where
  pub within : n ≤ length bs
  pub before : (rest : List ℕ) × Bytes rest × (call_number (decoded (take n bs ++ rest)) ≤ 10)
  pub with_it : n < length bs → (rest : List ℕ) → call_number (decoded (take (n + 1) bs ++ rest)) ≤ 10 → ⊥

-- of every row that is no call
abbrev pub Misfits : Type 0
Misfits = (bs : List ℕ) (n : ℕ) → decoded bs ≡ garbled n → FirstMisfit bs n
