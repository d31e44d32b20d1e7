-- Out of range, or a booking of its numbers.
use Rattle.std.proofs.Common.{◌≡◌, ℕ, ◌+◌, ◌*◌, List, length, get_or, sym, ap, ◌∙◌, subst, arith}
use Rattle.records.specs.Words.{booking_read}
use Rattle.records.specs.Means.{booking_means}
use Rattle.records.specs.declared.Booking.{Booking}
use Rattle.store.specs.Range as memory
use Rattle.journal_rows.specs.Layout.{FineBooking}
use Rattle.journal_rows.specs.Sorts.{record_of}
use Rattle.journal_ranges.proofs.Fits.{for_memory}
use Rattle.journal_records.proofs.Placed.{placed, first_numbers}
use Rattle.journal_records.proofs.BookingRecord.read.Goals as goal

-- a booking of all its numbers
abbrev of_numbers : List ℕ → Booking
of_numbers w = booking_read w (get_or w 13 0 + 4294967296 * get_or w 14 0)

pub returns-then-not-booking_in_range : goal.returns-then-not-booking_in_range
returns-then-not-booking_in_range c =
    let out = c.words_at.new.out in
    let is = c.read_booking-booking.ensures ∙ first_numbers out (get_or out 13 0 + 4294967296 * get_or out 14 0) ∙ ap of_numbers (c.words_at.ensures ∙ placed 15 c.args.page.now c.args.k) in
    let n : c.read_booking-booking.result.count ≡ get_or (record_of 15 c.args.page.now c.args.k) 4 0 = ap (λ (b : Booking). b.count) is in
    λ f h. c.booking_in_range.ensures.no c.if-not-booking_in_range.true (omega (arith, n, h)) (subst (FineBooking c.leg_count.result) (sym (ap booking_means is)) (subst (λ (k : ℕ). FineBooking k (booking_means (of_numbers (record_of 15 c.args.page.now c.args.k)))) (sym c.leg_count.ensures) f))

pub returns : goal.returns
returns c =
    let out = c.words_at.new.out in
    let is = c.read_booking-booking.ensures ∙ first_numbers out (get_or out 13 0 + 4294967296 * get_or out 14 0) ∙ ap of_numbers (c.words_at.ensures ∙ placed 15 c.args.page.now c.args.k) in
    let whole : length c.read_booking-booking.result.legs ≡ 8 = omega arith in (
      ap booking_means is,
      subst (λ (k : ℕ). memory.FineBooking k c.read_booking-booking.result) c.leg_count.ensures
          (for_memory c.leg_count.result c.read_booking-booking.result whole (c.booking_in_range.ensures.few c.if-not-booking_in_range.false) (c.booking_in_range.ensures.yes c.if-not-booking_in_range.false)),
    )
