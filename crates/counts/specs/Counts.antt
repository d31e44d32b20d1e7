-- What is taken on each leg, kept in the words behind the leg's own, and what a booking's share in it is. Definitions only: nothing is assumed or proved here.
use Rattle.std.specs.Prelude.{◌≡◌, ℕ, ◌+◌, ◌*◌, ◌^◌, ◌<◌, ◌≤◌, Bool, true, ◌&&◌, ◌||◌, List, length, take, ◌==◌, nat_le, nat_lt, slice_index}
use Rattle.meaning.specs.Lines.{pick}
use Rattle.meaning.specs.House.{goes}
use Rattle.meaning.specs.Calls.{no_twice}
use Rattle.records.specs.declared.Booking.{Booking}
use Rattle.records.specs.Words.{leg_in}

-- what is kept as taken on leg i in class c and the cheaper ones, for c below 26; the words from there to 97 are spare
abbrev pub count_in : List ℕ → ℕ → ℕ → ℕ
count_in w i c = slice_index w (i * 128 + 31 + c)

-- in the second words so many more seats are taken on leg i, in each of the first m classes, than in the first; nothing else differs
pub record Shared (v w : List ℕ) (i m seats : ℕ) : Type 0 where
  pub counts : (j c : ℕ) → c < 97 → count_in w j c ≡ count_in v j c + pick (i == j && nat_lt c m) seats 0
  pub legs : (j : ℕ) → leg_in w j ≡ leg_in v j

-- is a booking that stands so counted as taken: it is held or paid
abbrev pub counted : ℕ → Bool
counted s = s == 1 || s == 2

-- how many seats a booking takes on leg j in class c and the cheaper ones, if it is counted
abbrev pub share : Booking → Bool → ℕ → ℕ → ℕ
share b t j c = pick (t && (goes (take b.count b.legs) j && nat_le c b.class)) b.seats 0

-- a booking whose legs and class have their words, and no leg twice
pub record Ready (w : List ℕ) (b : Booking) : Type 0 where
  pub class : b.class < 26
  pub few : b.count ≤ 8
  pub there : (x : ℕ) → x < b.count → slice_index b.legs x * 128 + 128 ≤ length w
  pub apart : no_twice (take b.count b.legs) ≡ true

-- its seats can be counted in addition, with no count running over
abbrev pub CanTake : List ℕ → Booking → Type 0
CanTake w b = (x c : ℕ) → x < b.count → c ≤ b.class → count_in w (slice_index b.legs x) c + b.seats < 2 ^ 32

-- its seats are among those that are counted
abbrev pub CanGive : List ℕ → Booking → Type 0
CanGive w b = (x c : ℕ) → x < b.count → c ≤ b.class → b.seats ≤ count_in w (slice_index b.legs x) c

-- the second words count the booking if `is`, where the first do if `was`: on each of its legs, in its class and each dearer one; nothing else differs
pub record Recounted (v w : List ℕ) (b : Booking) (was is : Bool) : Type 0 where
  pub counts : (j c : ℕ) → c < 97 → count_in w j c + share b was j c ≡ count_in v j c + share b is j c
  pub legs : (j : ℕ) → leg_in w j ≡ leg_in v j
