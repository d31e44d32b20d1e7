-- What a payment is answered, and what it leaves.
use Rattle.std.proofs.Common.{◌≡◌, ℕ, ◌-◌, ◌*◌, ◌<◌, Bool, length, Some, None, Option, unwrap_or, sym, refl, ap, ◌∙◌, ap₂, arith}
use Rattle.std.proofs.lemmas.List.{get_or-set_same}
use Rattle.std.proofs.lemmas.Bool.{lt-ltb, eq-eqb}
use Rattle.meaning.specs.Lines.{pick, cost}
use Rattle.meaning.specs.House.{Booking, House}
use Rattle.meaning.specs.Calls.{pays, number, good_fields, turned_by, changed, told, the_booking}
use Rattle.meaning.proofs.Serve.{none}
use Rattle.limits.specs.declared.Limits.{Limits}
use Rattle.pricing.specs.Prices.{coded}
use Rattle.store.specs.Whole.{set_booking, settled}
use Rattle.checks.specs.Meant.{Meant}
use Rattle.checks.proofs.Verdicts.{takes}

-- a price that is not there counts as 0, as the meaning has it
pub cents : (r : Option ℕ) → unwrap_or r 0 ≡ coded r - 1
cents (Some p) = omega arith
cents None = omega arith

module _ (l : Limits) (h : House) (k : ℕ) where
  -- the checks of a payment in their order
  abbrev order : Bool → Bool → ℕ
  order a b = pick a (pick b 0 8) 7

  -- the booking that is paid
  abbrev b : Booking
  b = the_booking h k

  module _ (q : k < length h.bookings) where
    pub paid : (n : ℕ) (x : House) → b.stands ≡ 1 → n ≡ b.seats * (cost h.fares h.legs b.class b.legs - 1) → x ≡ set_booking h k (settled b 2 0 n) → Meant l h (pays k) (number n) x
    unfolding good_fields turned_by told changed
    paid n x s en ex =
        let same : x ≡ changed h (pays k) = ex ∙ ap (λ (v : ℕ). set_booking h k (settled b 2 0 v)) en in
        let sum : (the_booking x k).paid ≡ n = ap (λ (v : House). (the_booking v k).paid) ex ∙ ap (λ (v : Booking). v.paid) (get_or-set_same h.bookings k (settled b 2 0 n) none q) in
        takes l h (pays k) (number n) x refl (λ can. ap₂ order (lt-ltb k (length h.bookings) q) (eq-eqb b.stands 1 s)) (ap number (sym sum ∙ ap (λ (v : House). (the_booking v k).paid) same)) same
