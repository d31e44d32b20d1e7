-- Memory and the chip are as large as the limits ask for, where the house can be opened.
use Rattle.std.proofs.Common.{◌≡◌, ℕ, ◌/◌, ◌≤◌, true, None, arith}
use Rattle.std.proofs.lemmas.Bool.Decides.{nat_tests}
use Rattle.meaning.specs.Promise.{room_for}
use Rattle.limits.specs.Opening.{misfit_of}
use Rattle.limits.specs.declared.Limits.{Limits}
use Rattle.limits.specs.declared.Sizes.{Sizes}
use Rattle.journal_steps.specs.Steps.{chip_limits}
use Rattle.call_files.specs.Opening.{chip_bytes, chip_fits, memory_suffices, opening_refused, times_fit}

pub memory_fits : (h : Limits) (s : Sizes) → memory_suffices h ≡ true → times_fit h ≡ true → s.legs ≡ 4096 → s.fares ≡ 768 → s.bookings ≡ 2816 → s.sums ≡ 128 → misfit_of h s ≡ None
memory_fits h s m t a b c d = grind (arith, nat_tests)

pub opens : (h : Limits) (bytes : ℕ) → opening_refused h bytes ≡ 0 → (memory_suffices h ≡ true) × (chip_fits h bytes ≡ true) × (times_fit h ≡ true)
opens h bytes e = (grind (arith, nat_tests), grind (arith, nat_tests), grind (arith, nat_tests))

pub chip_suffices : (h : Limits) (n : ℕ) → n ≡ chip_bytes h → room_for (chip_limits h) ≤ n / 8208
chip_suffices h n e = omega arith
