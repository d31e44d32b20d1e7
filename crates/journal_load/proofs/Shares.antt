-- What each page of a checkpoint says, by its number, and that it is in range where a journal can keep the house; so what no such page says is no page of it.
use Rattle.std.proofs.Common.{◌≡◌, ℕ, ◌+◌, ◌-◌, ◌*◌, ◌<◌, ◌≤◌, min, Bool, ltb, List, length, take, drop, sym, ap, ◌∙◌, subst, arith}
use Rattle.std.proofs.lemmas.Bool.{lt-ltb, le-ltb}
use Rattle.std.proofs.lemmas.List.{length-take, length-drop}
use Rattle.meaning.specs.Lines.{pick}
use Rattle.meaning.specs.House.{Booking, House}
use Rattle.meaning.specs.Calls.{Limits}
use Rattle.journal.specs.Slots.{AllOf}
use Rattle.journal_rows.specs.Layout.{Op, Head, some_legs, some_fares, some_bookings, leg_pages, fare_pages, checkpoint_page, head, pages, FineLeg, FineFare, FineBooking, Good, IsReadBack}
use Rattle.journal_rows.specs.Bytes.{row, page_bytes}
use Rattle.journal_load.specs.Pages.{head_of, Loaded}
use Rattle.journal_load.specs.declared.CommitRecord.{CommitRecord}
use Rattle.journal_rows.specs.Sorts.{leg_sort, fare_sort, booking_sort, NoneSo}
use Rattle.journal_rows.proofs.Every.{all_from, all_take, all_drop}
use Rattle.journal_load.proofs.Sorts.{Grown}

-- how many a handful from a place on has
pub handful : {X : Type 0} (w j : ℕ) (xs : List X) → length (take w (drop j xs)) ≡ min w (length xs - j)
handful w j xs = length-take w (drop j xs) ∙ ap (min w) (length-drop j xs)

-- a booking in range among fewer legs is in range among more
booking_among : (n m : ℕ) → n ≤ m → (b : Booking) → FineBooking n b → FineBooking m b
booking_among n m h b f = record {
  fields = f.fields;
  there = all_from (λ (i : ℕ). i < n) (λ (i : ℕ). i < m) (λ i l. omega arith) b.legs f.there;
  apart = f.apart;
  stands = f.stands;
  until = f.until;
  paid = f.paid;
}

module _ (h : House) (j : ℕ) where
  abbrev its_legs : Op
  its_legs = some_legs (take 4 (drop (j * 4) h.legs))

  -- how many pages its legs take
  abbrev a : ℕ
  a = leg_pages (length h.legs)

  abbrev its_fares : Op
  its_fares = some_fares (take 25 (drop ((j - a) * 25) h.fares))

  abbrev b : ℕ
  b = fare_pages (length h.fares)

  abbrev its_bookings : Op
  its_bookings = some_bookings (take 8 (drop (((j - a) - b) * 8) h.bookings))

  abbrev by_tests : Bool → Bool → Op
  by_tests s t = pick s its_legs (pick t its_fares its_bookings)

  pub page_of_legs : j < a → checkpoint_page h j ≡ its_legs
  page_of_legs p = ap (λ (t : Bool). by_tests t (ltb (j - a) b)) (lt-ltb j a p)

  pub page_of_fares : a ≤ j → j - a < b → checkpoint_page h j ≡ its_fares
  page_of_fares p q = λ d. by_tests (le-ltb j a p d) (lt-ltb (j - a) b q d)

  pub page_of_bookings : a ≤ j → b ≤ j - a → checkpoint_page h j ≡ its_bookings
  page_of_bookings p q = λ d. by_tests (le-ltb j a p d) (le-ltb (j - a) b q d)

module _ (c : CommitRecord) (l : Limits) (h : House) (good : Good l h) (e : head h ≡ head_of c) (j : ℕ) (bs : List ℕ) (is : bs ≡ row (checkpoint_page h j)) (r : IsReadBack page_bytes) where
  legs_so : length h.legs ≡ c.legs
  legs_so = ap (λ (s : Head). s.legs) e

  fares_so : length h.fares ≡ c.fares
  fares_so = ap (λ (s : Head). s.fares) e

  bookings_so : length h.bookings ≡ c.bookings
  bookings_so = ap (λ (s : Head). s.bookings) e

  pub refused_legs : j < leg_pages c.legs → (n : ℕ) → n ≡ min 4 (c.legs - j * 4) → (g : House) → NoneSo leg_sort bs g n → ⊥
  refused_legs p n m g none =
      let k = handful 4 (j * 4) h.legs in
      let all : AllOf FineLeg (take 4 (drop (j * 4) h.legs)) = all_take FineLeg 4 (drop (j * 4) h.legs) (all_drop FineLeg (j * 4) h.legs good.fine_legs) in
      none (take 4 (drop (j * 4) h.legs))
      (omega (arith, k), all) all
      (omega (arith, k, m, legs_so))
      (is ∙ ap row (page_of_legs h j (omega (arith, legs_so)))) r

  pub refused_fares : leg_pages c.legs ≤ j → j - leg_pages c.legs < fare_pages c.fares → (n : ℕ) → n ≡ min 25 (c.fares - (j - leg_pages c.legs) * 25) → (g : House) → NoneSo fare_sort bs g n → ⊥
  refused_fares p q n m g none =
      let i : ℕ = (j - leg_pages (length h.legs)) * 25 in
      let k = handful 25 i h.fares in
      let all : AllOf FineFare (take 25 (drop i h.fares)) = all_take FineFare 25 (drop i h.fares) (all_drop FineFare i h.fares good.fine_fares) in
      none (take 25 (drop i h.fares))
      (omega (arith, k), all) all
      (omega (arith, k, m, legs_so, fares_so))
      (is ∙ ap row (page_of_fares h j (omega (arith, legs_so)) (omega (arith, legs_so, fares_so)))) r

  pub refused_bookings : leg_pages c.legs ≤ j → fare_pages c.fares ≤ j - leg_pages c.legs → (n : ℕ) → n ≡ min 8 (c.bookings - (j - leg_pages c.legs - fare_pages c.fares) * 8) → (g : House) → length g.legs ≡ c.legs → NoneSo booking_sort bs g n → ⊥
  refused_bookings p q n m g so none =
      let i : ℕ = ((j - leg_pages (length h.legs)) - fare_pages (length h.fares)) * 8 in
      let k = handful 8 i h.bookings in
      let xs : List Booking = take 8 (drop i h.bookings) in
      let all : AllOf (FineBooking (length h.legs)) xs = all_take (FineBooking (length h.legs)) 8 (drop i h.bookings) (all_drop (FineBooking (length h.legs)) i h.bookings good.fine_bookings) in
      none xs
      (omega (arith, k), all_from (FineBooking (length h.legs)) (FineBooking 65536) (booking_among (length h.legs) 65536 (omega (arith, good.few_legs, good.sizes.3))) xs all)
      (subst (λ (v : ℕ). AllOf (FineBooking v) xs) (legs_so ∙ sym so) all)
      (omega (arith, k, m, legs_so, fares_so, bookings_so))
      (is ∙ ap row (page_of_bookings h j (omega (arith, legs_so)) (omega (arith, legs_so, fares_so)))) r

-- one page more is read
module _ (s : Head) (n k : ℕ) (h g : House) (before : Loaded s n h) where
  pub one_of_legs : n < leg_pages s.legs → k ≡ min 4 (s.legs - n * 4) → Grown h g k 0 0 → Loaded s (n + 1) g
  one_of_legs p m w = record {
    legs = omega (arith, before.legs, w.legs);
    fares = omega (arith, before.fares, w.fares);
    bookings = omega (arith, before.bookings, w.bookings);
  }

  pub one_of_fares : leg_pages s.legs ≤ n → n - leg_pages s.legs < fare_pages s.fares → k ≡ min 25 (s.fares - (n - leg_pages s.legs) * 25) → Grown h g 0 k 0 → Loaded s (n + 1) g
  one_of_fares p q m w = record {
    legs = omega (arith, before.legs, w.legs);
    fares = omega (arith, before.fares, w.fares);
    bookings = omega (arith, before.bookings, w.bookings);
  }

  pub one_of_bookings : leg_pages s.legs ≤ n → fare_pages s.fares ≤ n - leg_pages s.legs → k ≡ min 8 (s.bookings - (n - leg_pages s.legs - fare_pages s.fares) * 8) → Grown h g 0 0 k → Loaded s (n + 1) g
  one_of_bookings p q m w = record {
    legs = omega (arith, before.legs, w.legs);
    fares = omega (arith, before.fares, w.fares);
    bookings = omega (arith, before.bookings, w.bookings);
  }

-- before the first page there is nothing, and after the last page there is all that the head says
pub none_read : (s : Head) (h : House) → length h.legs ≡ 0 → length h.fares ≡ 0 → length h.bookings ≡ 0 → Loaded s 0 h
none_read s h a b c = record { legs = omega (arith, a); fares = omega (arith, b); bookings = omega (arith, c) }

pub all_read : (s : Head) (h : House) → Loaded s (pages s) h → (length h.legs ≡ s.legs) × (length h.fares ≡ s.fares) × (length h.bookings ≡ s.bookings)
all_read s h w = (omega (arith, w.legs), omega (arith, w.fares), omega (arith, w.bookings))
