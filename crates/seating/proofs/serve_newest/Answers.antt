-- the last booking is the only one that can be served
use Rattle.std.proofs.Common.{◌≡◌, ℕ, ◌-◌, ◌<◌, Bool, length, take, sym, ap, ◌∙◌, arith}
use Rattle.std.proofs.lemmas.List.{length-take-le, get_or-take}
use Rattle.meaning.specs.House.{House, stand}
use Rattle.meaning.specs.Calls.{the_booking}
use Rattle.store.specs.Whole.{house, set_booking}
use Rattle.store.proofs.Lents.{lent_none}
use Rattle.seating.specs.Serving.{could, last, newest_held}
use Rattle.seating.proofs.Newest.{newest_alone, newest_fits}
use Rattle.seating.proofs.Turns.{served_idle}
use Rattle.seating.proofs.serve_newest.Goals as goal

pub has_room-fits-requires : goal.has_room-fits-requires
has_room-fits-requires c =
    let n : ℕ = c.booking-b.result.count - 0 in
    let e : n ≡ c.booking-b.result.count = omega arith in
    let l : length (take n c.booking-b.result.legs) ≡ n = length-take-le n c.booking-b.result.legs (omega (arith, c.booking-b.ensures.fine.few, c.booking-b.ensures.whole)) in
    record {
      there = λ x h. let q : x < n = omega arith in omega (arith, get_or-take n c.booking-b.result.legs x 0 q, c.booking-b.ensures.fine.there x (omega arith));
    }

pub returns-then-fits : goal.returns-then-fits
returns-then-fits c =
    let h : House = house c.args.memory.now in
    let k : c.booking_count-k.result - 1 ≡ last h = ap (λ (v : ℕ). v - 1) c.booking_count-k.ensures in
    let fits : c.has_room-fits.result ≡ could h (last h) = newest_fits h c.requires.newest c.booking-b.result (c.booking_count-k.result - 1) _ c.has_room-fits.result k c.booking-b.ensures.means c.has_room-fits.ensures (omega arith) in
    let then : house c.set_stand.new.self ≡ set_booking h (last h) (stand (the_booking h (last h)) 1 c.args.until) =
    c.set_stand.ensures.house ∙ ap (λ (v : ℕ). set_booking h v (stand (the_booking h v) 1 c.args.until)) k in
    let only : house c.set_stand.new.self ≡ newest_held h c.args.until c.has_room-fits.result =
    then ∙ ap (λ (t : Bool). newest_held h c.args.until t) (sym c.if-fits.true) in
    let all = newest_alone h c.requires.newest c.args.until (house c.set_stand.new.self) c.has_room-fits.result (sym fits) only in
    record { house = all.0; idle = served_idle h (house c.set_stand.new.self) c.args.until all.0; room = fits; stands = all.1; only = only; lent = c.set_stand.ensures.lent }

pub returns-else-fits : goal.returns-else-fits
returns-else-fits c =
    let h : House = house c.args.memory.now in
    let k : c.booking_count-k.result - 1 ≡ last h = ap (λ (v : ℕ). v - 1) c.booking_count-k.ensures in
    let fits : c.has_room-fits.result ≡ could h (last h) = newest_fits h c.requires.newest c.booking-b.result (c.booking_count-k.result - 1) _ c.has_room-fits.result k c.booking-b.ensures.means c.has_room-fits.ensures (omega arith) in
    let only : h ≡ newest_held h c.args.until c.has_room-fits.result =
    ap (λ (t : Bool). newest_held h c.args.until t) (sym c.if-fits.false) in
    let all = newest_alone h c.requires.newest c.args.until h c.has_room-fits.result (sym fits) only in
    record { house = all.0; idle = served_idle h h c.args.until all.0; room = fits; stands = all.1; only = only; lent = lent_none c.args.memory.now }
