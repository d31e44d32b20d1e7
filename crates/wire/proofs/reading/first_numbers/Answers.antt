-- Each number is read at its own place.
use Rattle.std.proofs.Common.{get_or, ap, arith}
use Rattle.wire.specs.Bytes.{numbers_in}
use Rattle.wire.proofs.Places.{each_place}
use Rattle.wire.proofs.reading.first_numbers.Goals as goal

pub returns : goal.returns
returns g c i h =
    each_place _ (λ f k. get_or (numbers_in f.0.now) k 0) (λ p q k y called. (ap (λ x. record { 0 = x }) called.met.0, called.met.1)) _ c.from_fn.result 0 g.row.N c.from_fn.ensures.items.each i (omega arith) (omega arith)
