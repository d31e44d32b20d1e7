-- The words of a leg and of a booking, put together of parts in an array of zeros.
use Rattle.std.proofs.Common.{◌≡◌, ℕ, suc, ◌-◌, ◌/◌, ◌%◌, ◌≤◌, List, [], ◌∷◌, ◌++◌, length, take, drop, replicate, sym, ap, ◌∙◌, append_assoc, arith, length-append}
use borrow.Rule.Slice.PartMut.{put_mid}
use Rattle.std.proofs.lemmas.List.{take_at, drop_at, append-nil, drop-append-le, drop-replicate, length-replicate, length-take, length-take-le}
use Rattle.records.specs.declared.Leg.{Leg}
use Rattle.records.specs.declared.Booking.{Booking}
use Rattle.records.specs.Means.{leg_means, booking_means}
use Rattle.records.specs.Words.{padded}
use Rattle.journal_rows.specs.Bytes.{leg_row, booking_row}
use Rattle.journal_rows.proofs.ReadBack.{length_padded}

-- a part right behind a front
behind : (a k : ℕ) (h r ys : List ℕ) → length h ≡ a → put_mid a k (h ++ r) ys ≡ h ++ (ys ++ drop k r)
behind a k h r ys e = λ d. take_at h r a e d ++ (ys ++ drop k (drop_at h r a e d))

-- among m zeros
among : (a m k : ℕ) (h t ys : List ℕ) → length h ≡ a → k ≡ length ys → k ≤ m → put_mid a k (h ++ (replicate m 0 ++ t)) ys ≡ (h ++ padded m ys) ++ t
among a m k h t ys e n l =
    let zeros : drop k (replicate m 0 ++ t) ≡ replicate (m - length ys) 0 ++ t =
    drop-append-le k (replicate m 0) t (omega (arith, length-replicate {A = ℕ} m 0)) ∙ ap (λ x. x ++ t) (drop-replicate k m 0 ∙ ap (λ x. replicate (m - x) 0) n) in
    behind a k h (replicate m 0 ++ t) ys e ∙ (ap (λ x. h ++ (ys ++ x)) zeros ∙ (ap (λ x. h ++ x) (sym (append_assoc ys (replicate (m - length ys) 0) t)) ∙ sym (append_assoc h (padded m ys) t)))

-- a leg's: five numbers, then its limits
pub leg_put : (g : Leg) (k : ℕ) (h ys : List ℕ) → g.classes ≤ 26 → length g.limits ≡ 26 → k ≡ g.classes → h ≡ g.from ∷ (g.to ∷ (g.leaves ∷ (g.arrives ∷ (g.classes ∷ [])))) → ys ≡ take g.classes g.limits →
    put_mid 5 k (h ++ (replicate 26 0 ++ [])) ys ≡ leg_row (leg_means g)
leg_put g k h ys l w n e f =
    let c : length (take g.classes g.limits) ≡ g.classes = length-take-le g.classes g.limits (omega arith) in
    among 5 26 k h [] ys (ap length e) (omega (arith, ap length f)) (omega arith)
    ∙ (append-nil (h ++ padded 26 ys)
    ∙ ((λ d. e d ++ padded 26 (f d)) ∙ ap (λ z. g.from ∷ (g.to ∷ (g.leaves ∷ (g.arrives ∷ (z ∷ padded 26 (take g.classes g.limits)))))) (sym c)))

-- a booking's: five numbers, then its legs, and behind all places for these what was paid
pub booking_put : (b : Booking) (k : ℕ) (h ys ts : List ℕ) → b.count ≤ 8 → length b.legs ≡ 8 → k ≡ b.count → h ≡ b.class ∷ (b.seats ∷ (b.stands ∷ (b.until ∷ (b.count ∷ [])))) → ys ≡ take b.count b.legs →
    ts ≡ b.paid % 4294967296 ∷ (b.paid / 4294967296 ∷ []) → put_mid 13 2 (put_mid 5 k (h ++ (replicate 8 0 ++ (0 ∷ (0 ∷ [])))) ys) ts ≡ booking_row (booking_means b)
booking_put b k h ys ts l w n e f t =
    let c : length (take b.count b.legs) ≡ b.count = length-take-le b.count b.legs (omega arith) in
    let m : length ys ≡ b.count = ap length f ∙ c in
    let five : length h ≡ 5 = ap length e in
    let long : length (h ++ padded 8 ys) ≡ 13 = length-append h (padded 8 ys) ∙ omega (arith, length_padded 8 ys (omega arith)) in
    ap (λ z. put_mid 13 2 z ts) (among 5 8 k h (0 ∷ (0 ∷ [])) ys (ap length e) (omega arith) (omega arith))
    ∙ (behind 13 2 (h ++ padded 8 ys) (0 ∷ (0 ∷ [])) ts long
    ∙ (ap (λ z. (h ++ padded 8 ys) ++ z) (append-nil ts)
    ∙ ((λ d. (e d ++ padded 8 (f d)) ++ t d)
    ∙ ap (λ z. b.class ∷ (b.seats ∷ (b.stands ∷ (b.until ∷ (z ∷ (padded 8 (take b.count b.legs) ++ (b.paid % 4294967296 ∷ (b.paid / 4294967296 ∷ [])))))))) (sym c))))

-- how many there are
pub leg_long : (g : Leg) → g.classes ≤ 26 → length (leg_row (leg_means g)) ≡ 31
leg_long g l = ap (λ z. suc (suc (suc (suc (suc z))))) (length_padded 26 (take g.classes g.limits) (omega (arith, length-take g.classes g.limits)))

pub booking_long : (b : Booking) → b.count ≤ 8 → length (booking_row (booking_means b)) ≡ 15
booking_long b l =
    let n : length (padded 8 (take b.count b.legs)) ≡ 8 = length_padded 8 (take b.count b.legs) (omega (arith, length-take b.count b.legs)) in
    ap (λ z. suc (suc (suc (suc (suc z))))) (length-append (padded 8 (take b.count b.legs)) (b.paid % 4294967296 ∷ (b.paid / 4294967296 ∷ [])) ∙ omega arith)

-- all of a list that is taken from its start
pub whole_part : (n : ℕ) (xs : List ℕ) → take (n - 0) xs ≡ take n xs
whole_part n xs = ap (λ (k : ℕ). take k xs) (omega arith)
