-- Memory that fits is opened as a new house, on a chip that is large enough.
use Rattle.std.proofs.Common.{◌≡◌, ◌≤◌, length, sym, ap, ◌∙◌, subst, arith}
use Rattle.meaning.specs.Calls.{new_house}
use Rattle.meaning.specs.Promise.{room_for, whole}
use Rattle.limits.specs.Opening.{lengths, limits_mean}
use Rattle.limits.specs.declared.Limits.{Limits}
use Rattle.journal_steps.specs.Steps.{chip_limits}
use Rattle.house_on_chip.proofs.Sizes.{memory_fits}
use Rattle.house_on_chip.proofs.play_house.Goals as goal

pub open-m-requires : goal.open-m-requires
open-m-requires g c =
    let legs : length c.as_mut_slice-legs.result.now ≡ 4096 = omega (arith, c.as_mut_slice-legs.ensures.len, c.in_ok-leg_words.ensures.len) in
    let fares : length c.as_mut_slice-fares.result.now ≡ 768 = omega (arith, c.as_mut_slice-fares.ensures.len, c.in_ok-fare_words.ensures.len) in
    let bookings : length c.as_mut_slice-bookings.result.now ≡ 2816 = omega (arith, c.as_mut_slice-bookings.ensures.len, c.in_ok-booking_words.ensures.len) in
    let sums : length c.as_mut_slice-sums.result.now ≡ 128 = omega (arith, c.as_mut_slice-sums.ensures.len, c.in_ok-all_sums.ensures.len) in
    let have = lengths c.as_mut_slice-legs.result.now c.as_mut_slice-fares.result.now c.as_mut_slice-bookings.result.now c.as_mut_slice-sums.result.now in
    memory_fits c.args.limits have c.requires.memory c.requires.times legs fares bookings sums

pub run-requires : goal.run-requires
run-requires g c = record {
  sound = c.open-m.result.sound;
  fresh = c.open-m.ensures.house whole ∙ ap (λ (l : Limits). new_house (limits_mean whole l)) (sym c.open-m.ensures.limits);
  size = subst (λ (l : Limits). room_for (chip_limits l) ≤ g.D.Device.blocks c.args.device.now) (sym c.open-m.ensures.limits) c.requires.size;
}
