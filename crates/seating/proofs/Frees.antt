-- What the limits leave on a leg is the most for which there is room.
use Rattle.std.proofs.Common.{◌≡◌, ℕ, zero, suc, ◌+◌, ◌-◌, ◌<◌, ◌≤◌, min, Bool, true, false, ◌≢◌, List, [], ◌∷◌, length, get_or, inl, inr, arith, below_more}
use Rattle.std.proofs.lemmas.Bool.{cases_eq}
use Rattle.meaning.specs.Lines as lines
use Rattle.meaning.specs.Lines.{pick, leg}
use Rattle.meaning.specs.House.{Booking, taken, room}
use Rattle.meaning.specs.Calls.{most}
use Rattle.meaning.proofs.Free.{most_tells, most_from}
use Rattle.records.specs.declared.Leg.{Leg}
use Rattle.records.specs.Means.{leg_means}
use Rattle.seating.proofs.Rooms.{has_classes, limit_is, leg_fits, fits_under}

-- r is the least of m and of what the first n limits of a leg leave
pub record Least (bs : List Booking) (i : ℕ) (g : Leg) (m n r : ℕ) : Type 0 where
  pub few : r ≤ m
  pub low : (j : ℕ) → j < n → r ≤ get_or g.limits j 0 - taken bs i j
  pub high : (s : ℕ) → s ≤ m → ((j : ℕ) → j < n → s ≤ get_or g.limits j 0 - taken bs i j) → s ≤ r

pub least_none : (bs : List Booking) (i : ℕ) (g : Leg) (m : ℕ) → Least bs i g m 0 m
least_none bs i g m = record { few = omega arith; low = λ j h. absurd (omega arith); high = λ s h f. h }

pub least_more : (bs : List Booking) (i : ℕ) (g : Leg) (m n r : ℕ) → Least bs i g m n r → Least bs i g m (n + 1) (min r (get_or g.limits n 0 - taken bs i n))
least_more bs i g m n r l =
    record {
      few = omega (arith, l.few);
      low = below_more (λ j. min r (get_or g.limits n 0 - taken bs i n) ≤ get_or g.limits j 0 - taken bs i j) n (λ j h. omega (arith, l.low j h)) (omega arith);
      high = λ s h f. omega (arith, l.high s h (λ j k. f j (omega arith)), f n (omega arith));
    }

module _ (ls : List lines.Leg) (bs : List Booking) (i c : ℕ) where
  most_le : (m : ℕ) → most m ls bs i c ≤ m
  unfolding most
  most_le zero = omega arith
  most_le (suc m) = go (room ls bs (i ∷ []) c (suc m)) (most_le m)
    where
      go : (t : Bool) → most m ls bs i c ≤ m → pick t (suc m) (most m ls bs i c) ≤ suc m
      go true h = omega arith
      go false h = omega arith

  -- the largest number up to m for which there is room
  most_is : (m r : ℕ) → r ≤ m → (1 ≤ r → room ls bs (i ∷ []) c r ≡ true) → ((n : ℕ) → n ≤ m → room ls bs (i ∷ []) c n ≡ true → n ≤ r) → r ≡ most m ls bs i c
  most_is m r h can top =
      let x : ℕ = most m ls bs i c in
      let low : r ≤ x = elim (cases_eq r 0) [ inl e ↦ omega arith | inr e ↦ (let w : r ≢ 0 = e in most_from m r ls bs i c h (can (omega arith))) ] in
      let high : x ≤ r = elim (cases_eq x 0) [ inl e ↦ omega arith | inr e ↦ (let w : x ≢ 0 = e in top x (most_le m) (most_tells m x ls bs i c (omega arith) (omega arith))) ] in
      omega arith

  module _ (g : Leg) (means : leg_means g ≡ leg ls i) (whole : g.classes ≤ length g.limits) where
    pub least_is : (m r : ℕ) → Least bs i g m (min (c + 1) g.classes) r → r ≡ most m ls bs i c
    least_is m r l =
        most_is m r l.few (λ p. leg_fits ls bs c r i g means whole (λ j h. omega (arith, l.low j h)))
        (λ s k e. l.high s k (λ j h. let q : j < g.classes = omega arith in
        omega (arith, fits_under ls bs c s i e j (omega arith) (omega (arith, has_classes ls i g means whole)), limit_is ls i g means whole j q)))
