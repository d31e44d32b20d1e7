-- The legs, fares and bookings that words mean: how many, each by its number, one more, one changed.
use Rattle.std.proofs.Common.{◌≡◌, ℕ, ◌+◌, ◌*◌, ◌<◌, ◌≤◌, List, [], ◌∷◌, ◌++◌, length, get_or, take, drop, set, ap, ◌∙◌, arith}
use Rattle.std.proofs.lemmas.List.{length-take-le, length-drop, get_or-set_same, get_or-set_other}
use Rattle.meaning.specs.Lines as lines
use Rattle.meaning.specs.House as houses
use Rattle.records.specs.declared.Booking.{Booking}
use Rattle.records.specs.declared.Leg.{Leg}
use Rattle.records.specs.declared.Fare.{Fare}
use Rattle.records.specs.Means.{leg_means, fare_means, booking_means}
use Rattle.records.specs.Words.{part, booking_read, leg_in, fare_in, booking_in}
use Rattle.store.specs.Words.{table, legs_of, fares_of, bookings_of}
use Rattle.store.proofs.Tables.{length_table, at_table, same_table, push_table, set_table}

pub length_legs : (w : List ℕ) (n : ℕ) → length (legs_of w n) ≡ n
unfolding legs_of
length_legs w n = length_table _ n

pub length_fares : (w : List ℕ) (n : ℕ) → length (fares_of w n) ≡ n
unfolding fares_of
length_fares w n = length_table _ n

pub length_bookings : (w s : List ℕ) (n : ℕ) → length (bookings_of w s n) ≡ n
unfolding bookings_of
length_bookings w s n = length_table _ n

pub at_legs : (w : List ℕ) (n i : ℕ) (d : lines.Leg) → i < n → get_or (legs_of w n) i d ≡ leg_means (leg_in w i)
unfolding legs_of
at_legs w n i d h = at_table _ n i d h

pub at_fares : (w : List ℕ) (n k : ℕ) (d : lines.Fare) → k < n → get_or (fares_of w n) k d ≡ fare_means (fare_in w k)
unfolding fares_of
at_fares w n k d h = at_table _ n k d h

pub at_bookings : (w s : List ℕ) (n k : ℕ) (d : houses.Booking) → k < n → get_or (bookings_of w s n) k d ≡ booking_means (booking_in w s k)
unfolding bookings_of
at_bookings w s n k d h = at_table _ n k d h

pub legs_same : (v w : List ℕ) (n : ℕ) → ((j : ℕ) → leg_in w j ≡ leg_in v j) → legs_of w n ≡ legs_of v n
unfolding legs_of
legs_same v w n f = same_table _ _ n (λ j h. ap leg_means (f j))

pub legs_push : (v w : List ℕ) (n : ℕ) (g : Leg) → leg_in w n ≡ g → ((j : ℕ) → (j ≡ n → ⊥) → leg_in w j ≡ leg_in v j) → legs_of w (n + 1) ≡ legs_of v n ++ (leg_means g ∷ [])
unfolding legs_of
legs_push v w n g e f = push_table _ _ n (λ j h. ap leg_means (f j (omega arith))) ∙ ap (λ z. table (λ i. leg_means (leg_in v i)) n ++ (leg_means z ∷ [])) e

pub legs_set : (v w : List ℕ) (n i : ℕ) (g : Leg) → i < n → leg_in w i ≡ g → ((j : ℕ) → (j ≡ i → ⊥) → leg_in w j ≡ leg_in v j) → legs_of w n ≡ set (legs_of v n) i (leg_means g)
unfolding legs_of
legs_set v w n i g h e f = set_table _ _ n i h (λ j ne. ap leg_means (f j ne)) ∙ ap (λ z. set (table (λ k. leg_means (leg_in v k)) n) i (leg_means z)) e

pub fares_push : (v w : List ℕ) (n : ℕ) (g : Fare) → fare_in w n ≡ g → ((j : ℕ) → (j ≡ n → ⊥) → fare_in w j ≡ fare_in v j) → fares_of w (n + 1) ≡ fares_of v n ++ (fare_means g ∷ [])
unfolding fares_of
fares_push v w n g e f = push_table _ _ n (λ j h. ap fare_means (f j (omega arith))) ∙ ap (λ z. table (λ i. fare_means (fare_in v i)) n ++ (fare_means z ∷ [])) e

pub bookings_push : (v w s t : List ℕ) (n : ℕ) (b : Booking) → booking_in w t n ≡ b → ((j : ℕ) → (j ≡ n → ⊥) → booking_in w t j ≡ booking_in v s j) →
    bookings_of w t (n + 1) ≡ bookings_of v s n ++ (booking_means b ∷ [])
unfolding bookings_of
bookings_push v w s t n b e f =
    push_table _ _ n (λ j h. ap booking_means (f j (omega arith))) ∙ ap (λ z. table (λ k. booking_means (booking_in v s k)) n ++ (booking_means z ∷ [])) e

pub bookings_set : (v w s t : List ℕ) (n k : ℕ) (b : Booking) → k < n → booking_in w t k ≡ b → ((j : ℕ) → (j ≡ k → ⊥) → booking_in w t j ≡ booking_in v s j) →
    bookings_of w t n ≡ set (bookings_of v s n) k (booking_means b)
unfolding bookings_of
bookings_set v w s t n k b h e f =
    set_table _ _ n k h (λ j ne. ap booking_means (f j ne)) ∙ ap (λ z. set (table (λ i. booking_means (booking_in v s i)) n) k (booking_means z)) e

-- a booking whose words and sum are stored one after the other: it is there, and the others are as they were
module _ (v w s : List ℕ) (k p : ℕ) where
  pub summed : (b : Booking) → k < length s → booking_read (part 22 13 w k) p ≡ b → booking_in w (set s k p) k ≡ b
  summed b h e = ap (λ z. booking_read (part 22 13 w k) z) (get_or-set_same s k p 0 h) ∙ e

  pub unsummed : ((j : ℕ) → (j ≡ k → ⊥) → part 22 13 w j ≡ part 22 13 v j) → (j : ℕ) → (j ≡ k → ⊥) → booking_in w (set s k p) j ≡ booking_in v s j
  unsummed f j ne d = booking_read (f j ne d) (get_or-set_other s k j p 0 ne d)

-- an array that is read out of words is full
full : (a m b n : ℕ) (w : List ℕ) → a + m ≤ length w → b + n ≤ m → length (take n (drop b (take m (drop a w)))) ≡ n
full a m b n w h l =
    let p : length (take m (drop a w)) ≡ m = length-take-le m (drop a w) (omega (arith, length-drop a w)) in
    length-take-le n (drop b (take m (drop a w))) (omega (arith, length-drop b (take m (drop a w))))

pub limits_full : (w : List ℕ) (i : ℕ) → i * 128 + 128 ≤ length w → length (leg_in w i).limits ≡ 26
limits_full w i h = full (i * 128) 31 5 26 w (omega arith) (omega arith)

pub journey_full : (w s : List ℕ) (k : ℕ) → k * 22 + 22 ≤ length w → length (booking_in w s k).legs ≡ 8
journey_full w s k h = full (k * 22) 13 5 8 w (omega arith) (omega arith)
