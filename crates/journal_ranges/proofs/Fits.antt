-- A leg, a fare or a booking is in range if each of its tests holds.
use Rattle.std.proofs.Common.{◌≡◌, ℕ, ◌+◌, ◌-◌, ◌*◌, ◌<◌, ◌≤◌, Bool, true, false, ◌&&◌, ltb, leb, List, [], ◌∷◌, length, get_or, suc, EachIndex, take, drop, sym, refl, ap, ◌∙◌, subst, arith, lit<, lit≤}
use Rattle.std.proofs.lemmas.List.{drop-drop, drop-take, get_or-take, length-take-le, take-take}
use Rattle.std.proofs.lemmas.Bool.{and_left, and_right, and_from, and_parts, le-leb, lt-leb, lt-ltb, leb-true, ltb-true}
use Rattle.meaning.specs.Calls.{opens, books, good_fields, good_limits, falling, all_to, no_twice}
use Rattle.records.specs.Means.{booking_means}
use Rattle.records.specs.declared.Leg.{Leg}
use Rattle.records.specs.declared.Booking.{Booking}
use Rattle.store.specs.Range as memory
use Rattle.store.proofs.Ranges.{booking_fine}
use Rattle.journal.specs.Slots.{AllOf}
use Rattle.journal_rows.specs.Layout.{FineBooking}
use Rattle.checks.specs.Ranges.{schedule_fits, schedule_of}
use Rattle.journal_ranges.specs.Asked.{asks_fit, stands_fit}
use Rattle.journal_rows.proofs.Cuts.{all_at}

-- all these legs are among the first n
abbrev pub AllBelow : ℕ → List ℕ → Type 0
AllBelow n = AllOf (λ i. i < n)

-- by their numbers
pub index_all : (n : ℕ) (xs : List ℕ) → EachIndex xs (λ k. get_or xs k 0 < n) → AllBelow n xs
unfolding AllOf
index_all n [] f = tt
index_all n (x ∷ xs) f = (f 0 (omega arith), index_all n xs (λ k h. f (suc k) (omega arith)))

pub all_index : (n : ℕ) (xs : List ℕ) → AllBelow n xs → EachIndex xs (λ k. get_or xs k 0 < n)
all_index n xs a k h = all_at (λ (i : ℕ). i < n) xs a k 0 h

-- a test has one end
pub never : {A : Type 0} → false ≡ true → A
never e = let z : ◌≡◌ {A = ℕ} 0 1 = cc in absurd (omega arith)

module _ (g : Leg) where
  abbrev its : List ℕ
  its = take g.classes g.limits

  abbrev pub range : Bool
  range = good_fields (opens g.from g.to g.leaves g.arrives its)

  -- the range of a leg is that of its numbers and that of its limits
  grouped : range ≡ (schedule_fits (schedule_of g) && good_limits its)
  unfolding good_fields
  grouped = regroup (ltb g.from 65536 && ltb g.to 65536) (ltb g.leaves g.arrives && ltb g.arrives 16777216) (good_limits its)
    where
      regroup : (p q r : Bool) → (p && (q && r)) ≡ ((p && q) && r)
      regroup true q r = refl
      regroup false q r = refl

  pub not_times : schedule_fits (schedule_of g) ≡ false → false ≡ range
  not_times e = sym (grouped ∙ and_left (schedule_fits (schedule_of g)) (good_limits its) e)

  pub no_limits : length its < 1 → false ≡ range
  no_limits h =
      let e : good_limits its ≡ false = and_left (leb 1 (length its) && leb (length its) 26) (falling its && all_to 1000 its) (and_left (leb 1 (length its)) (leb (length its) 26) (lt-leb 1 (length its) h)) in
      sym (grouped ∙ and_right (schedule_fits (schedule_of g)) (good_limits its) e)

  pub not_falling : falling its ≡ false → false ≡ range
  not_falling f =
      let e : good_limits its ≡ false = and_right (leb 1 (length its) && leb (length its) 26) (falling its && all_to 1000 its) (and_left (falling its) (all_to 1000 its) f) in
      sym (grouped ∙ and_right (schedule_fits (schedule_of g)) (good_limits its) e)

  pub by_small : schedule_fits (schedule_of g) ≡ true → 1 ≤ length its → length its ≤ 26 → falling its ≡ true → all_to 1000 its ≡ range
  by_small t a b f = sym (grouped ∙ (λ d. t d && ((le-leb 1 (length its) a d && le-leb (length its) 26 b d) && (f d && all_to 1000 its))))

module _ (n : ℕ) (b : Booking) (whole : length b.legs ≡ 8) where
  abbrev journey : List ℕ
  journey = take b.count b.legs

  -- with few enough legs, what a booking asks for is as the call that books it has to be
  asked : b.count ≤ 8 → good_fields (books b.class b.seats journey) ≡ asks_fit b
  unfolding good_fields
  asked h = ap (λ (k : ℕ). (ltb b.class 26 && (leb 1 b.seats && leb b.seats 9)) && (leb 1 k && leb k 8)) (length-take-le b.count b.legs (omega arith))

  pub asks_few : asks_fit b ≡ true → b.count ≤ 8
  asks_few e = leb-true _ _ (and_parts (leb 1 b.count) (leb b.count 8) (and_parts (ltb b.class 26 && (leb 1 b.seats && leb b.seats 9)) _ e).1).1

  pub booking_fits : asks_fit b ≡ true → stands_fit b ≡ true → AllBelow n journey → no_twice journey ≡ true → FineBooking n (booking_means b)
  booking_fits a s t o =
      let p = and_parts (leb b.stands 3) (ltb b.until 16842752 && leb b.paid 7200000000) s in
      let q = and_parts (ltb b.until 16842752) (leb b.paid 7200000000) p.1 in
      record {
        fields = asked (asks_few a) ∙ a;
        there = t;
        apart = o;
        stands = leb-true _ _ p.0;
        until = ltb-true _ _ q.0;
        paid = leb-true _ _ q.1;
      }

  -- and a booking in range passes each test
  pub asks_pass : b.count ≤ 8 → FineBooking n (booking_means b) → asks_fit b ≡ true
  asks_pass h f = sym (asked h) ∙ f.fields

  pub stands_pass : FineBooking n (booking_means b) → stands_fit b ≡ true
  stands_pass f = and_from _ _ (le-leb _ _ f.stands) (and_from _ _ (lt-ltb _ _ f.until) (le-leb _ _ f.paid))

  -- what is in range for the journal is in range for memory
  pub for_memory : b.count ≤ 8 → FineBooking n (booking_means b) → memory.FineBooking n b
  for_memory h f =
      let long : length journey ≡ b.count = length-take-le b.count b.legs (omega arith) in
      booking_fine n b (omega arith) f.fields
      (λ x l. subst (λ (i : ℕ). i < n) (get_or-take b.count b.legs x 0 l) (all_at (λ (i : ℕ). i < n) journey f.there x 0 (omega arith))) f.apart f.stands
