-- Each turn puts one booking more behind the list.
use Rattle.std.proofs.Common.{◌≡◌, ◌-◌, ◌++◌, string_bytes, ap, ◌∙◌, refl, arith}
use Rattle.power_lists.specs.Lists.{booking_lines}
use Rattle.power_lists.proofs.Lines.{no_bookings, more_bookings}
use Rattle.power_lists.proofs.with_bookings.Goals as goal

pub loop-k-init : goal.loop-k-init
loop-k-init c =
    (c.in_ok-push_str.ensures.bytes ∙ ap (λ t. t ++ c.args.list.now) c.new-text.ensures.bytes ∙ no_bookings c.args.list.now c.args.from c.args.from refl, omega arith)

pub loop-k-preserved : goal.loop-k-preserved
loop-k-preserved c = (
  more_bookings c.args.list.now (string_bytes c.loop-k.text) _ c.args.from c.loop-k.k c.loop-k.auto.k c.loop-k.invariant.0
      (c.in_ok-push_str-2.ensures.bytes ∙ ap (λ t. string_bytes c.loop-k.text ++ t) c.booking_line.ensures),
  omega arith,
)

pub returns : goal.returns
returns c =
    let n : c.loop-k.k - c.args.from ≡ c.args.to - c.args.from = omega arith in
    c.loop-k.invariant.0 ∙ ap (λ m. c.args.list.now ++ booking_lines c.args.from m) n
