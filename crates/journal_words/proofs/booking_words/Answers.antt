-- The booking's numbers stand at the front, its legs behind them, and what was paid at the end.
use Rattle.std.proofs.Common.{length, ap, ◌∙◌, arith, rules}
use Rattle.std.proofs.lemmas.List.{places}
use Rattle.records.specs.declared.Booking.{Booking}
use Rattle.journal_words.proofs.Words.{booking_put, booking_long, whole_part}
use Rattle.journal_words.proofs.booking_words.Goals as goal

pub slice_bounds-words-end-3 : goal.slice_bounds-words-end-3
slice_bounds-words-end-3 c = search (rules, places)

pub returns : goal.returns
returns c =
    let b : Booking = c.args.b.now in
    let w = booking_put b _ c.copy_from_slice.new.self c.copy_from_slice-2.new.self c.copy_from_slice-3.new.self c.requires (search rules) (omega arith) c.copy_from_slice.ensures.after (c.copy_from_slice-2.ensures.after ∙ whole_part b.count b.legs) c.copy_from_slice-3.ensures.after in
    record { words = w; long = ap length w ∙ booking_long b c.requires }
