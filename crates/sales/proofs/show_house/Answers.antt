-- Memory that fits is opened as a new house, and the chip is large enough for it.
use Rattle.std.proofs.Common.{◌≡◌, ◌≤◌, length, sym, ap, ◌∙◌, subst, arith}
use Rattle.meaning.specs.Calls.{new_house}
use Rattle.meaning.specs.Promise.{room_for, whole}
use Rattle.limits.specs.Opening.{lengths, limits_mean}
use Rattle.limits.specs.declared.Limits.{Limits}
use Rattle.chips.specs.Recorded.{blocks_in}
use Rattle.journal_steps.specs.Steps.{chip_limits}
use Rattle.sales.proofs.Fits.{memory_fits}
use Rattle.sales.proofs.show_house.Goals as goal

pub open-m-requires : goal.open-m-requires
open-m-requires c =
    let legs : length c.as_mut_slice-legs.result.now ≡ 4096 = omega (arith, c.as_mut_slice-legs.ensures.len, c.in_ok-leg_words.ensures.len) in
    let fares : length c.as_mut_slice-fares.result.now ≡ 768 = omega (arith, c.as_mut_slice-fares.ensures.len, c.in_ok-fare_words.ensures.len) in
    let bookings : length c.as_mut_slice-bookings.result.now ≡ 2816 = omega (arith, c.as_mut_slice-bookings.ensures.len, c.in_ok-booking_words.ensures.len) in
    let sums : length c.as_mut_slice-sums.result.now ≡ 128 = omega (arith, c.as_mut_slice-sums.ensures.len, c.in_ok-all_sums.ensures.len) in
    memory_fits c.args.limits (lengths c.as_mut_slice-legs.result.now c.as_mut_slice-fares.result.now c.as_mut_slice-bookings.result.now c.as_mut_slice-sums.result.now) c.requires.served legs fares bookings sums

pub take_up-requires : goal.take_up-requires
take_up-requires c = record {
  sound = c.open-m.result.sound;
  fresh = c.open-m.ensures.house whole ∙ ap (λ (l : Limits). new_house (limits_mean whole l)) (sym c.open-m.ensures.limits);
  size = subst (λ (l : Limits). room_for (chip_limits l) ≤ blocks_in c.args.chip.now) (sym c.open-m.ensures.limits) c.requires.size;
}
