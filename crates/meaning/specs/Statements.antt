-- What is promised of the house itself: statements as types, each the contract of a function of this crate, so that it is proved.
use Rattle.std.specs.Prelude.{◌≡◌, ℕ, suc, ◌+◌, ◌<◌, ◌≤◌, Bool, true, false, not, ◌&&◌, ◌||◌, ◌≢◌, ◌⊎◌, List, [], ◌∷◌, ◌++◌, length, ◌==◌, nat_lt, slice_index}
use Rattle.meaning.specs.Lines.{Leg, Fare, leg, last_of, cost}
use Rattle.meaning.specs.House.{Booking, House, goes, taken, room, first_leg}
use Rattle.meaning.specs.Calls.{Call, books, cancels, Limits, the_booking, most, turned, after, answers, ran, new_house}
use Rattle.meaning.specs.Promise.{GoodLimits}

-- a house to which some calls lead from its first day
abbrev pub Reached : Limits → House → Type 0
Reached l h = (cs : List Call) × (ran l (new_house l) cs ≡ h)

-- 1. a seat is sold once: after each call, on each leg, for each class, what is held and paid in it and the cheaper ones is at most the limit, or no more than it was before
unfoldable pub SoldOnce : Type 0
SoldOnce =
    (l : Limits) (h : House) (x : Call) (i c : ℕ) → Reached l h → i < length (after l h x).legs → c < length (leg (after l h x).legs i).limits →
    (taken (after l h x).bookings i c ≤ slice_index (leg (after l h x).legs i).limits c) ⊎ (taken (after l h x).bookings i c ≤ taken h.bookings i c)

-- could one that waits be held
unfoldable pub some_could : House → List Booking → Bool
some_could h [] = false
some_could h (b ∷ bs) = (b.stands == 0 && room h.legs h.bookings b.legs b.class b.seats) || some_could h bs

-- 2. nobody waits for what is free: after every call there is room for none that waits
unfoldable pub NobodyWaits : Type 0
NobodyWaits = (l : Limits) (h : House) → Reached l h → some_could h h.bookings ≡ false

-- is no hold's time over at tick t
unfoldable pub none_over : List Booking → ℕ → Bool
none_over [] t = true
none_over (b ∷ bs) t = (not (b.stands == 1) || nat_lt t b.until) && none_over bs t

-- has no journey begun at tick t that a booking waits or is held for
unfoldable pub none_left : List Leg → List Booking → ℕ → Bool
none_left ls [] t = true
none_left ls (b ∷ bs) t = (not (nat_lt b.stands 2) || nat_lt t (leg ls (first_leg b.legs)).leaves) && none_left ls bs t

-- 3a. no hold outlives its time or the beginning of its journey
unfoldable pub InTime : Type 0
InTime = (l : Limits) (h : House) → GoodLimits l → Reached l h → (none_over h.bookings h.now ≡ true) × (none_left h.legs h.bookings h.now ≡ true)

-- 3b. what was paid stays paid until it is cancelled
unfoldable pub PaidStays : Type 0
PaidStays =
    (l : Limits) (h : House) (x : Call) (k : ℕ) → Reached l h → (the_booking h k).stands ≡ 2 → x ≢ cancels k → the_booking (after l h x) k ≡ the_booking h k

-- 4. first come, first served: of two that wait for the same legs in the same class, the later one with no fewer seats, the later one is not held while the earlier one waits
unfoldable pub FirstServed : Type 0
FirstServed =
    (l : Limits) (h : House) (x : Call) (j k : ℕ) → Reached l h → j < k → (the_booking h j).stands ≡ 0 → (the_booking h k).stands ≡ 0 →
    (the_booking h j).legs ≡ (the_booking h k).legs → (the_booking h j).class ≡ (the_booking h k).class → (the_booking h j).seats ≤ (the_booking h k).seats →
    (the_booking (after l h x) k).stands ≡ 1 → (the_booking (after l h x) j).stands ≢ 0

-- some fare has this price for these legs as one piece
unfoldable pub one_piece : List Fare → List Leg → ℕ → List ℕ → ℕ → Type 0
one_piece [] ls c is p = ⊥
one_piece (f ∷ fs) ls c is p =
    ((f.price ≡ p) × (f.class ≡ c) × (f.origin ≡ (leg ls (slice_index is 0)).from) × (f.goal ≡ (leg ls (last_of 0 is)).to) × (length is ≤ f.most_legs)) ⊎ one_piece fs ls c is p

-- a way to cut a journey into pieces that each have a fare, and what it costs
pub data Way (fs : List Fare) (ls : List Leg) (c : ℕ) : List ℕ → ℕ → Type 0 where
  nothing : Way fs ls c [] 0
  then : (is js : List ℕ) (p q : ℕ) → 0 < length is → one_piece fs ls c is p → Way fs ls c js q → Way fs ls c (is ++ js) (p + q)

-- 5. the price is the cheapest over all ways to cut a journey, and where there is none, no way has fares
unfoldable pub Cheapest : Type 0
Cheapest =
    (fs : List Fare) (ls : List Leg) (c : ℕ) (is : List ℕ) →
    ((p : ℕ) → cost fs ls c is ≡ suc p → Way fs ls c is p × ((q : ℕ) → Way fs ls c is q → p ≤ q)) × (cost fs ls c is ≡ 0 → (q : ℕ) → Way fs ls c is q → ⊥)

-- 6. what is said to be free can be had: so many seats are held at once, and one more would wait
unfoldable pub FreeIsFree : Type 0
FreeIsFree =
    (l : Limits) (h : House) (i c n : ℕ) → Reached l h → n ≤ 9 → turned l h (books c n (i ∷ [])) ≡ 0 →
    (n ≤ most 1000 h.legs h.bookings i c → (the_booking (after l h (books c n (i ∷ []))) (length h.bookings)).stands ≡ 1)
    × (most 1000 h.legs h.bookings i c < n → (the_booking (after l h (books c n (i ∷ []))) (length h.bookings)).stands ≡ 0)

-- 7. what is taken on a leg changes only by bookings of that leg: if none of them changes how it stands, the count stays
unfoldable pub Untouched : Type 0
Untouched =
    (l : Limits) (h : House) (x : Call) (i c : ℕ) → Reached l h →
    ((k : ℕ) → goes (the_booking (after l h x) k).legs i ≡ true → (the_booking (after l h x) k).stands ≡ (the_booking h k).stands) →
    taken (after l h x).bookings i c ≡ taken h.bookings i c

-- 8. a call that is turned away changes nothing that can be told afterwards
unfoldable pub TurnedAway : Type 0
TurnedAway = (l : Limits) (h : House) (x : Call) (cs : List Call) → 0 < turned l h x → answers l (after l h x) cs ≡ answers l h cs

-- 9. a newcomer does not overtake: it is not held while one waits for the same legs in the same class with no more seats. (FirstServed is silent on it: a newcomer has no number before its call)
unfoldable pub NewcomerWaits : Type 0
NewcomerWaits =
    (l : Limits) (h : House) (c n j : ℕ) (is : List ℕ) → Reached l h → turned l h (books c n is) ≡ 0 → (the_booking h j).stands ≡ 0 →
    (the_booking h j).legs ≡ is → (the_booking h j).class ≡ c → (the_booking h j).seats ≤ n →
    (the_booking (after l h (books c n is)) (length h.bookings)).stands ≡ 0
