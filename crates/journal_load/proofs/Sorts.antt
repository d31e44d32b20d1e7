-- Records of a page, once for all sorts: they come into the house one by one, all of them are what the page says, and a page that says records in range passes each check.
use Rattle.std.proofs.Common.{◌≡◌, ℕ, ◌+◌, ◌<◌, Bool, true, false, ◌&&◌, eqb, List, [], ◌∷◌, ◌++◌, length, drop, sym, ap, ◌∙◌, subst, append-nil, arith}
use mathlib.Core.Option.{some}
use Rattle.std.proofs.lemmas.List.{length-append}
use Rattle.std.proofs.lemmas.Bool.{and_from, and_parts, eq-eqb, eqb-true}
use Rattle.meaning.specs.House.{House}
use Rattle.wire.specs.Bytes.{numbers_in}
use Rattle.journal.specs.Slots.{AllOf}
use Rattle.journal_rows.specs.Bytes.{unrow}
use Rattle.journal_rows.specs.Sorts.{Sort, IsSort, leg_sort, fare_sort, booking_sort, record_of, kind_in, count_in, records_in, with_first, NoneSo}
use Rattle.journal_rows.proofs.Laws.{leg_laws, fare_laws, booking_laws}
use Rattle.journal_rows.proofs.Cuts.{cut_none, cut_push, cut_length, cut_at}
use Rattle.journal_ranges.proofs.Fits.{never}
use Rattle.journal_load.specs.Pages.{Loads}

module _ {X : Type 0} (s : Sort X) (w : IsSort s) (bs : List ℕ) where
  -- the first k records of the page
  abbrev first : ℕ → List X
  first = records_in s bs

  -- is it a page of n of these
  abbrev pub test : ℕ → Bool
  test n = eqb (kind_in bs) s.kind && eqb (count_in bs) n

  -- a house with the first k of them
  abbrev came : House → ℕ → House
  came = with_first s bs

  pub none_came : (h : House) → h ≡ came h 0
  none_came h = w.same h ∙ ap (s.put h) (sym (ap (λ (v : List X). s.its h ++ v) (cut_none s.read s.width (drop 2 (numbers_in bs))) ∙ append-nil (s.its h)))

  pub more_came : (h g e : House) (x : X) (k : ℕ) → g ≡ came h k → e ≡ s.put g (s.its g ++ (x ∷ [])) → x ≡ s.read (record_of s.width bs k) → e ≡ came h (k + 1)
  more_came h g e x k p q r =
      let xs : List X = s.its h ++ first k in
      let y : X = s.read (record_of s.width bs k) in
      q ∙ (λ d. s.put (p d) (s.its (p d) ++ (r d ∷ []))) ∙ w.over h xs (s.its (s.put h xs) ++ (y ∷ [])) ∙ ap (λ (v : List X). s.put h (v ++ (y ∷ []))) (w.gets h xs)
      ∙ ap (s.put h) (cut_push s.read s.width (s.its h) k (drop 2 (numbers_in bs)))

  pub so_many_came : (h g : House) (k : ℕ) → g ≡ came h k → length (s.its g) ≡ length (s.its h) + k
  so_many_came h g k p =
      ap (λ (v : House). length (s.its v)) p ∙ ap length (w.gets h (s.its h ++ first k)) ∙ length-append (s.its h) (first k)
      ∙ ap (λ (n : ℕ). length (s.its h) + n) (cut_length s.read s.width k (drop 2 (numbers_in bs)))

  pub all_came : (h g : House) (n k : ℕ) → test n ≡ true → k ≡ n → g ≡ came h k → Loads bs h g
  all_came h g n k t e p =
      let q = and_parts (eqb (kind_in bs) s.kind) (eqb (count_in bs) n) t in
      record {
        op = s.op (first (count_in bs));
        says = w.says bs (eqb-true (kind_in bs) s.kind q.0);
        done = λ l. p ∙ ap (came h) (e ∙ sym (eqb-true (count_in bs) n q.1)) ∙ w.done l h (first (count_in bs));
      }

  -- a page that says these records passes the check of its kind and count
  so_many : (xs : List X) → unrow bs ≡ some (s.op xs) → count_in bs ≡ length xs
  so_many xs e = sym (cut_length s.read s.width (count_in bs) (drop 2 (numbers_in bs))) ∙ ap length (w.are bs xs e).1

  pub page_passes : (xs : List X) → unrow bs ≡ some (s.op xs) → (n : ℕ) → length xs ≡ n → test n ≡ true
  page_passes xs e n h = and_from _ _ (eq-eqb _ _ (w.are bs xs e).0) (eq-eqb _ _ (so_many xs e ∙ h))

  -- and what holds of all of them holds of what each record's numbers say
  pub each_passes : (P : X → Type 0) (xs : List X) → unrow bs ≡ some (s.op xs) → AllOf P xs → (k : ℕ) → k < length xs → P (s.read (record_of s.width bs k))
  each_passes P xs e a k h = cut_at s.read s.width P (count_in bs) (drop 2 (numbers_in bs)) (subst (AllOf P) (sym (w.are bs xs e).1) a) k (omega (arith, so_many xs e))

  -- so a page of another kind, or of another count, is none of n records in range
  pub its_page : (v n : ℕ) → v ≡ s.kind → true ≡ (eqb (kind_in bs) v && eqb (count_in bs) n) → test n ≡ true
  its_page v n e z = sym (z ∙ ap (λ (u : ℕ). eqb (kind_in bs) u && eqb (count_in bs) n) e)

  pub not_page : (h : House) (v n : ℕ) → v ≡ s.kind → false ≡ (eqb (kind_in bs) v && eqb (count_in bs) n) → NoneSo s bs h n
  not_page h v n e z xs f a m q r = never (z ∙ ap (λ (u : ℕ). eqb (kind_in bs) u && eqb (count_in bs) n) e ∙ page_passes xs (ap unrow q ∙ r.unrow_row (s.op xs) f) n m)

  -- nor is one with a record that can't be one, where those before it came
  pub not_record : (h g : House) (k v n : ℕ) → g ≡ came h k → v ≡ s.width → k < n → (s.FineIn g (s.read (record_of v bs k)) → s.Counted (record_of v bs k) → ⊥) → NoneSo s bs h n
  not_record h g k v n p e lt none xs f a m q r =
      let here : k < length xs = omega (arith, m, lt) in
      let x : X = s.read (record_of s.width bs k) in
      let fine : s.FineIn h x = each_passes (s.FineIn h) xs (ap unrow q ∙ r.unrow_row (s.op xs) f) a k here in
      subst (λ (u : ℕ). s.FineIn g (s.read (record_of u bs k)) → s.Counted (record_of u bs k) → ⊥) e none
      (subst (λ (u : House). s.FineIn u x) (sym p) (w.fine h (s.its h ++ first k) x fine)) (w.counted h bs xs a q k here)

-- house g has so many legs, fares and bookings more than house h
pub record Grown (h g : House) (a b c : ℕ) : Type 0 where
  pub legs : length g.legs ≡ length h.legs + a
  pub fares : length g.fares ≡ length h.fares + b
  pub bookings : length g.bookings ≡ length h.bookings + c

-- how many there are then
pub grown_legs : (bs : List ℕ) (h g : House) (k : ℕ) → g ≡ with_first leg_sort bs h k → Grown h g k 0 0
grown_legs bs h g k p = record {
  legs = so_many_came leg_sort leg_laws bs h g k p;
  fares = ap (λ (v : House). length v.fares) p ∙ omega arith;
  bookings = ap (λ (v : House). length v.bookings) p ∙ omega arith;
}

pub grown_fares : (bs : List ℕ) (h g : House) (k : ℕ) → g ≡ with_first fare_sort bs h k → Grown h g 0 k 0
grown_fares bs h g k p = record {
  legs = ap (λ (v : House). length v.legs) p ∙ omega arith;
  fares = so_many_came fare_sort fare_laws bs h g k p;
  bookings = ap (λ (v : House). length v.bookings) p ∙ omega arith;
}

pub grown_bookings : (bs : List ℕ) (h g : House) (k : ℕ) → g ≡ with_first booking_sort bs h k → Grown h g 0 0 k
grown_bookings bs h g k p = record {
  legs = ap (λ (v : House). length v.legs) p ∙ omega arith;
  fares = ap (λ (v : House). length v.fares) p ∙ omega arith;
  bookings = so_many_came booking_sort booking_laws bs h g k p;
}
