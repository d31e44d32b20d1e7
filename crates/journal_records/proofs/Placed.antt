-- The numbers of a page that a record is read of.
use Rattle.std.proofs.Common.{◌≡◌, ℕ, ◌+◌, ◌*◌, List, take, drop, sym, ap, ◌∙◌, lit<, lit≤}
use Rattle.std.proofs.lemmas.List.{drop-drop, drop-take, get_or-take, take-take}
use Rattle.wire.specs.Bytes.{numbers_in}
use Rattle.records.specs.Words.{booking_read}
use Rattle.journal_rows.specs.Sorts.{record_of}

-- the numbers that a record is read of, as the page has them
pub placed : (w : ℕ) (bs : List ℕ) (k : ℕ) → take w (drop (2 + k * w) (numbers_in bs)) ≡ record_of w bs k
placed w bs k = ap (take w) (sym (drop-drop (k * w) 2 (numbers_in bs)))

-- a booking's first 13 numbers, of more
pub first_numbers : (ws : List ℕ) (p : ℕ) → booking_read (take 13 ws) p ≡ booking_read ws p
first_numbers ws p =
    let is : take 8 (drop 5 (take 13 ws)) ≡ take 8 (drop 5 ws) = ap (take 8) (drop-take 5 8 ws) ∙ take-take 8 8 (drop 5 ws) (lit≤ tt) in
    λ d. record {
      class = get_or-take 13 ws 0 0 (lit< tt) d;
      seats = get_or-take 13 ws 1 0 (lit< tt) d;
      stands = get_or-take 13 ws 2 0 (lit< tt) d;
      until = get_or-take 13 ws 3 0 (lit< tt) d;
      count = get_or-take 13 ws 4 0 (lit< tt) d;
      legs = is d;
      paid = p;
    }
