-- What is written into a page is read back from it, and fills it.
use Rattle.std.proofs.Common.{◌≡◌, ℕ, zero, suc, ◌+◌, ◌-◌, ◌*◌, ◌/◌, ◌%◌, ◌<◌, ◌≤◌, Bool, true, false, eqb, ltb, List, [], ◌∷◌, ◌++◌, length, get_or, take, drop, replicate, sym, refl, ap, ◌∙◌, append_assoc, append-nil, suc-mul, arith, length-append}
use mathlib.Core.Option.{Option, none, some}
use lib.ListN.{length-replicate}
use Rattle.std.proofs.lemmas.List.{take_at, drop_at, get_or_at}
use Rattle.std.proofs.lemmas.Bool.{and_parts, and_from, lt-ltb, le-leb, eq-eqb}
use Rattle.meaning.specs.Lines.{pick, Leg, Fare}
use Rattle.meaning.specs.House.{Booking, House}
use Rattle.meaning.specs.Calls.{Call, Limits, call_number, good_fields}
use Rattle.meaning.specs.Chip.{all_bytes}
use Rattle.meaning.specs.Promise.{GoodLimits}
use Rattle.protocol.specs.Forms.{fields, listing, has_list}
use Rattle.wire.specs.Bytes.{bytes_of, number_of, row_of, numbers_in}
use Rattle.wire.specs.Rows.{in_bytes, encoded, decoded}
use Rattle.wire.proofs.Fields.{row_length, number_back}
use Rattle.wire.proofs.Back.{calls_come_back}
use Rattle.records.specs.Words.{padded}
use Rattle.records.proofs.News.{unpadded}
use Rattle.journal.specs.Slots.{Turn, one, two, three, whole_row, AllOf}
use Rattle.journal_rows.specs.Layout.{Op, taken_call, some_legs, some_fares, some_bookings, Head, head, is_change, ring_blocks, FineLeg, FineFare, FineBooking, Fine, Good, IsReadBack}
use Rattle.journal.specs.Codes.{turn_number, number_turn}
use Rattle.journal_rows.specs.Bytes.{page, leg_row, row_leg, fare_row, row_fare, booking_row, row_booking, all_rows, cut, call_page, row, unrow, commit_numbers, numbers_commit, page_bytes}
use Rattle.journal_rows.proofs.Every.{all_join, all_from}
use Rattle.journal_rows.proofs.Ranges.{Small, leg_range, fare_range, booked_range, call_range}

-- numbers that fit four bytes are read back, whatever stands behind them
pub numbers_front : (ns rest : List ℕ) → AllOf Small ns → numbers_in (row_of 4 ns ++ rest) ≡ ns ++ numbers_in rest
unfolding row_of bytes_of numbers_in AllOf
numbers_front [] rest a = refl
numbers_front (n ∷ ns) rest a =
    let e : number_of (bytes_of 4 n) ≡ n = number_back 4 n a.0 in
    ap (λ m. m ∷ numbers_in (row_of 4 ns ++ rest)) e ∙ ap (λ l. n ∷ l) (numbers_front ns rest a.1)

numbers_back : (ns : List ℕ) → AllOf Small ns → numbers_in (row_of 4 ns) ≡ ns
unfolding numbers_in
numbers_back ns a = ap numbers_in (sym (append-nil (row_of 4 ns))) ∙ (numbers_front ns [] a ∙ append-nil ns)

small_zeros : (n : ℕ) → AllOf Small (replicate n 0)
unfolding AllOf
small_zeros zero = tt
small_zeros (suc n) = (omega arith, small_zeros n)

small_padded : (n : ℕ) (xs : List ℕ) → AllOf Small xs → AllOf Small (padded n xs)
small_padded n xs f = all_join Small xs _ f (small_zeros (n - length xs))

-- numbers with zeros behind them fill their places
pub length_padded : (n : ℕ) (ns : List ℕ) → length ns ≤ n → length (padded n ns) ≡ n
length_padded n ns h = simp (length-append, length-replicate) (omega arith)

-- the numbers of a page are those that were written, and zeros
pub page_back : (ns : List ℕ) → AllOf Small ns → numbers_in (page ns) ≡ padded 128 ns
unfolding page
page_back ns a = numbers_back (padded 128 ns) (small_padded 128 ns a)

-- bytes joined are bytes
bytes_join : (xs ys : List ℕ) → all_bytes xs ≡ true → all_bytes ys ≡ true → all_bytes (xs ++ ys) ≡ true
unfolding all_bytes
bytes_join [] ys a b = b
bytes_join (x ∷ xs) ys a b = let p = and_parts (ltb x 256) (all_bytes xs) a in and_from _ _ p.0 (bytes_join xs ys p.1 b)

bytes_number : (w n : ℕ) → all_bytes (bytes_of w n) ≡ true
unfolding all_bytes bytes_of
bytes_number zero n = refl
bytes_number (suc w) n = and_from _ _ (lt-ltb (n % 256) 256 (omega arith)) (bytes_number w (n / 256))

bytes_row : (w : ℕ) (ns : List ℕ) → all_bytes (row_of w ns) ≡ true
unfolding all_bytes row_of
bytes_row w [] = refl
bytes_row w (n ∷ ns) = bytes_join (bytes_of w n) (row_of w ns) (bytes_number w n) (bytes_row w ns)

bytes_zeros : (n : ℕ) → all_bytes (replicate n 0) ≡ true
unfolding all_bytes
bytes_zeros zero = refl
bytes_zeros (suc n) = bytes_zeros n

-- a page of at most 128 numbers is whole
pub page_whole : (ns : List ℕ) → length ns ≤ 128 → whole_row (page ns) ≡ true
unfolding page
page_whole ns h = let e = length_padded 128 ns h in and_from _ _ (eq-eqb _ 512 (row_length 4 (padded 128 ns) ∙ omega arith)) (bytes_row 4 (padded 128 ns))

-- rows of one length, one after the other: how long they are, that they fit, and that they can be cut again
length_rows : {X : Type 0} (P : X → Type 0) (f : X → List ℕ) (w : ℕ) → ((x : X) → P x → length (f x) ≡ w) → (xs : List X) → AllOf P xs → length (all_rows f xs) ≡ length xs * w
unfolding all_rows AllOf
length_rows P f w q [] a = omega arith
length_rows P f w q (x ∷ xs) a = let e = length_rows P f w q xs a.1 in let v = q x a.0 in length-append (f x) (all_rows f xs) ∙ (let z : suc (length xs) * w ≡ length xs * w + w = suc-mul (length xs) w in omega arith)

small_rows : {X : Type 0} (P : X → Type 0) (f : X → List ℕ) → ((x : X) → P x → AllOf Small (f x)) → (xs : List X) → AllOf P xs → AllOf Small (all_rows f xs)
unfolding all_rows AllOf
small_rows P f q [] a = tt
small_rows P f q (x ∷ xs) a = all_join Small (f x) _ (q x a.0) (small_rows P f q xs a.1)

cut_back : {X : Type 0} (P : X → Type 0) (f : X → List ℕ) (u : List ℕ → X) (w : ℕ) → ((x : X) → P x → length (f x) ≡ w) → ((x : X) → P x → u (f x) ≡ x) →
    (xs : List X) (pad : List ℕ) → AllOf P xs → cut u w (length xs) (all_rows f xs ++ pad) ≡ xs
unfolding all_rows AllOf cut
cut_back P f u w q b [] pad a = refl
cut_back P f u w q b (x ∷ xs) pad a =
    rw (append_assoc (f x) (all_rows f xs) pad, take_at (f x) (all_rows f xs ++ pad) w (q x a.0), drop_at (f x) (all_rows f xs ++ pad) w (q x a.0), b x a.0, cut_back P f u w q b xs pad a.1)

-- a list in an array of n, read by its length
take_padded : (n : ℕ) (xs rest : List ℕ) → length xs ≤ n → take (length xs) (take n (padded n xs ++ rest)) ≡ xs
take_padded n xs rest h = ap (take (length xs)) (take_at (padded n xs) rest n (length_padded n xs h)) ∙ unpadded n xs

-- a leg's row
pub leg_length : (g : Leg) → FineLeg g → length (leg_row g) ≡ 31
leg_length g f = let e = length_padded 26 g.limits (leg_range g f).limits.few in omega arith

leg_back : (g : Leg) → FineLeg g → row_leg (leg_row g) ≡ g
leg_back g f =
    let e : take (length g.limits) (take 26 (padded 26 g.limits)) ≡ g.limits =
    ap (λ l. take (length g.limits) (take 26 l)) (sym (append-nil (padded 26 g.limits))) ∙ take_padded 26 g.limits [] (leg_range g f).limits.few in
    λ i. record { from = g.from; to = g.to; leaves = g.leaves; arrives = g.arrives; limits = e i }

leg_small : (g : Leg) → FineLeg g → AllOf Small (leg_row g)
unfolding AllOf
leg_small g f =
    let r = leg_range g f in
    let p = r.from in let q = r.to in let s = r.leaves in let t = r.arrives in let v = r.limits.few in
    (omega arith, (omega arith, (omega arith, (omega arith, (omega arith, small_padded 26 g.limits r.limits.small)))))

-- a fare's row
fare_small : (g : Fare) → FineFare g → AllOf Small (fare_row g)
unfolding AllOf
fare_small g f =
    let r = fare_range g f in
    let p = r.origin in let q = r.goal in let s = r.class in let t = r.most_legs in let v = r.price in
    (omega arith, (omega arith, (omega arith, (omega arith, (omega arith, tt)))))

-- a booking's row
abbrev Booked : Booking → Type 0
Booked = FineBooking 65536

booking_length : (b : Booking) → Booked b → length (booking_row b) ≡ 15
booking_length b f = let e = length_padded 8 b.legs (booked_range b.class b.seats b.legs f.fields).few in let v = length-append (padded 8 b.legs) (b.paid % 4294967296 ∷ (b.paid / 4294967296 ∷ [])) in omega arith

booking_back : (b : Booking) → Booked b → row_booking (booking_row b) ≡ b
booking_back b f =
    let few : length b.legs ≤ 8 = (booked_range b.class b.seats b.legs f.fields).few in
    let lo : ℕ = b.paid % 4294967296 in
    let hi : ℕ = b.paid / 4294967296 in
    let l : List ℕ = padded 8 b.legs in
    let n : length l ≡ 8 = length_padded 8 b.legs few in
    let e : take (length b.legs) (take 8 (l ++ (lo ∷ (hi ∷ [])))) ≡ b.legs = take_padded 8 b.legs (lo ∷ (hi ∷ [])) few in
    let x : get_or (l ++ (lo ∷ (hi ∷ []))) 8 0 ≡ lo = get_or_at l lo (hi ∷ []) 0 8 n in
    let m : length (l ++ (lo ∷ [])) ≡ 9 = length-append l (lo ∷ []) ∙ omega arith in
    let y : get_or (l ++ (lo ∷ (hi ∷ []))) 9 0 ≡ hi = ap (λ w. get_or w 9 0) (sym (append_assoc l (lo ∷ []) (hi ∷ []))) ∙ get_or_at (l ++ (lo ∷ [])) hi [] 0 9 m in
    let s : get_or (l ++ (lo ∷ (hi ∷ []))) 8 0 + 4294967296 * get_or (l ++ (lo ∷ (hi ∷ []))) 9 0 ≡ b.paid = omega arith in
    λ i. record { legs = e i; class = b.class; seats = b.seats; stands = b.stands; until = b.until; paid = s i }

booking_small : (b : Booking) → Booked b → AllOf Small (booking_row b)
unfolding AllOf
booking_small b f =
    let r = booked_range b.class b.seats b.legs f.fields in
    let p = r.class in let q = r.seats in let v = r.few in
    let legs : AllOf Small (padded 8 b.legs) = small_padded 8 b.legs (all_from (λ i. i < 65536) Small (λ i h. omega arith) b.legs f.there) in
    (omega arith, (omega arith, (omega arith, (omega arith, (omega arith, all_join Small (padded 8 b.legs) _ legs (omega arith, (omega arith, tt)))))))

-- the numbers of a checkpoint's page fit, and are no more than 128
pub record Fits (ns : List ℕ) : Type 0 where
  pub small : AllOf Small ns
  pub few : length ns ≤ 128

legs_fit : (gs : List Leg) → Fine (some_legs gs) → Fits (2 ∷ (length gs ∷ all_rows leg_row gs))
unfolding AllOf
legs_fit gs f =
    let e = length_rows FineLeg leg_row 31 leg_length gs f.1 in let v = f.0 in
    record { small = (omega arith, (omega arith, small_rows FineLeg leg_row leg_small gs f.1)); few = omega arith }

fares_fit : (fs : List Fare) → Fine (some_fares fs) → Fits (3 ∷ (length fs ∷ all_rows fare_row fs))
unfolding AllOf
fares_fit fs f =
    let e = length_rows FineFare fare_row 5 (λ x p. refl) fs f.1 in let v = f.0 in
    record { small = (omega arith, (omega arith, small_rows FineFare fare_row fare_small fs f.1)); few = omega arith }

bookings_fit : (bs : List Booking) → Fine (some_bookings bs) → Fits (4 ∷ (length bs ∷ all_rows booking_row bs))
unfolding AllOf
bookings_fit bs f =
    let e = length_rows Booked booking_row 15 booking_length bs f.1 in let v = f.0 in
    record { small = (omega arith, (omega arith, small_rows Booked booking_row booking_small bs f.1)); few = omega arith }

-- what a page says, by its numbers and the bytes behind the first two
numbers_op : List ℕ → List ℕ → Option Op
numbers_op ns bs =
    pick (eqb (get_or ns 0 0) 2) (some (some_legs (cut row_leg 31 (get_or ns 1 0) (drop 2 ns))))
    (pick (eqb (get_or ns 0 0) 3) (some (some_fares (cut row_fare 5 (get_or ns 1 0) (drop 2 ns))))
    (pick (eqb (get_or ns 0 0) 4) (some (some_bookings (cut row_booking 15 (get_or ns 1 0) (drop 2 ns))))
    (pick (eqb (get_or ns 0 0) 5) (some (taken_call (decoded (take (get_or ns 1 0) bs)))) none)))

unrow_is : (bs : List ℕ) → unrow bs ≡ numbers_op (numbers_in bs) (drop 8 bs)
unfolding numbers_op
unrow_is bs = refl

legs_back : (gs : List Leg) → Fine (some_legs gs) → unrow (row (some_legs gs)) ≡ some (some_legs gs)
unfolding numbers_op
legs_back gs f =
    let ns : List ℕ = 2 ∷ (length gs ∷ all_rows leg_row gs) in
    unrow_is (page ns)
    ∙ (ap (λ w. numbers_op w (drop 8 (page ns))) (page_back ns (legs_fit gs f).small)
    ∙ ap (λ w. some (some_legs w)) (cut_back FineLeg leg_row row_leg 31 leg_length leg_back gs (replicate (128 - length ns) 0) f.1))

fares_back : (fs : List Fare) → Fine (some_fares fs) → unrow (row (some_fares fs)) ≡ some (some_fares fs)
unfolding numbers_op
fares_back fs f =
    let ns : List ℕ = 3 ∷ (length fs ∷ all_rows fare_row fs) in
    unrow_is (page ns)
    ∙ (ap (λ w. numbers_op w (drop 8 (page ns))) (page_back ns (fares_fit fs f).small)
    ∙ ap (λ w. some (some_fares w)) (cut_back FineFare fare_row row_fare 5 (λ x p. refl) (λ x p. refl) fs (replicate (128 - length ns) 0) f.1))

bookings_back : (bs : List Booking) → Fine (some_bookings bs) → unrow (row (some_bookings bs)) ≡ some (some_bookings bs)
unfolding numbers_op
bookings_back bs f =
    let ns : List ℕ = 4 ∷ (length bs ∷ all_rows booking_row bs) in
    unrow_is (page ns)
    ∙ (ap (λ w. numbers_op w (drop 8 (page ns))) (page_back ns (bookings_fit bs f).small)
    ∙ ap (λ w. some (some_bookings w)) (cut_back Booked booking_row row_booking 15 booking_length booking_back bs (replicate (128 - length ns) 0) f.1))

-- the bytes of a call that can change the house and is in range: at most 126, and bytes
in_bytes_short : (k : ℕ) (fs list : List ℕ) → length (in_bytes k fs list) ≤ 2 + 4 * length fs + 4 * length list
unfolding in_bytes
in_bytes_short k fs list = go (has_list k)
  where
    go : (t : Bool) → length (k ∷ (row_of 4 fs ++ pick t (length list ∷ row_of 4 list) [])) ≤ 2 + 4 * length fs + 4 * length list
    go true = let a = length-append (row_of 4 fs) (length list ∷ row_of 4 list) in let p = row_length 4 fs in let q = row_length 4 list in omega arith
    go false = let a = length-append (row_of 4 fs) [] in let p = row_length 4 fs in omega arith

in_bytes_bytes : (k : ℕ) (fs list : List ℕ) → k < 256 → length list < 256 → all_bytes (in_bytes k fs list) ≡ true
unfolding in_bytes all_bytes
in_bytes_bytes k fs list a b = and_from _ _ (lt-ltb k 256 a) (bytes_join (row_of 4 fs) _ (bytes_row 4 fs) (go (has_list k)))
  where
    go : (t : Bool) → all_bytes (pick t (length list ∷ row_of 4 list) []) ≡ true
    go true = and_from _ _ (lt-ltb (length list) 256 b) (bytes_row 4 list)
    go false = refl

-- a taken call's bytes
pub call_short : (c : Call) → good_fields c ≡ true → is_change c ≡ true → length (encoded c) ≤ 126
unfolding encoded
call_short c g i = let r = call_range c g i in let p = r.numbers in let q = r.list in let s = in_bytes_short (call_number c) (fields c) (listing c) in omega arith

call_bytes : (c : Call) → good_fields c ≡ true → is_change c ≡ true → all_bytes (encoded c) ≡ true
unfolding encoded
call_bytes c g i = let r = call_range c g i in let p = r.number in let q = r.list in in_bytes_bytes (call_number c) (fields c) (listing c) (omega arith) (omega arith)

-- bytes of a call on a page: they are behind the first two numbers
call_page_back : (bs : List ℕ) → length bs ≤ 126 → unrow (call_page bs) ≡ some (taken_call (decoded bs))
unfolding numbers_op AllOf
call_page_back bs h =
    let two : List ℕ = 5 ∷ (length bs ∷ []) in
    let zs : List ℕ = replicate (512 - length (row_of 4 two ++ bs)) 0 in
    let n : length (row_of 4 two) ≡ 8 = row_length 4 two in
    let a : call_page bs ≡ row_of 4 two ++ (bs ++ zs) = append_assoc (row_of 4 two) bs zs in
    let b : numbers_in (call_page bs) ≡ two ++ numbers_in (bs ++ zs) = ap numbers_in a ∙ numbers_front two (bs ++ zs) (omega arith, (omega arith, tt)) in
    let c : drop 8 (call_page bs) ≡ bs ++ zs = ap (drop 8) a ∙ drop_at (row_of 4 two) (bs ++ zs) 8 n in
    unrow_is (call_page bs)
    ∙ (ap (λ w. numbers_op w (drop 8 (call_page bs))) b
    ∙ (ap (λ w. some (taken_call (decoded (take (length bs) w)))) c
    ∙ ap (λ w. some (taken_call (decoded w))) (take_at bs zs (length bs) refl)))

call_page_whole : (bs : List ℕ) → length bs ≤ 126 → all_bytes bs ≡ true → whole_row (call_page bs) ≡ true
call_page_whole bs h b =
    let two : List ℕ = 5 ∷ (length bs ∷ []) in
    let zs : List ℕ = replicate (512 - length (row_of 4 two ++ bs)) 0 in
    let n : length (row_of 4 two) ≡ 8 = row_length 4 two in
    let m : length (row_of 4 two ++ bs) ≡ length (row_of 4 two) + length bs = length-append (row_of 4 two) bs in
    let z : length zs ≡ 512 - length (row_of 4 two ++ bs) = length-replicate (512 - length (row_of 4 two ++ bs)) 0 in
    let l : length (call_page bs) ≡ 512 = length-append (row_of 4 two ++ bs) zs ∙ omega arith in
    and_from _ _ (eq-eqb (length (call_page bs)) 512 l) (bytes_join (row_of 4 two ++ bs) zs (bytes_join (row_of 4 two) bs (bytes_row 4 two) b) (bytes_zeros _))

-- what a page says is read back
op_back : (o : Op) → Fine o → unrow (row o) ≡ some o
op_back (taken_call c) f =
    let r = call_range c f.1 f.2 in let p = r.number in
    call_page_back (encoded c) (call_short c f.1 f.2) ∙ ap (λ x. some (taken_call x)) (calls_come_back c (record { fits = f.0; is_call = omega arith }))
op_back (some_legs gs) f = legs_back gs f
op_back (some_fares fs) f = fares_back fs f
op_back (some_bookings bs) f = bookings_back bs f

op_whole : (o : Op) → Fine o → whole_row (row o) ≡ true
op_whole (taken_call c) f = call_page_whole (encoded c) (call_short c f.1 f.2) (call_bytes c f.1 f.2)
op_whole (some_legs gs) f = page_whole _ (legs_fit gs f).few
op_whole (some_fares fs) f = page_whole _ (fares_fit fs f).few
op_whole (some_bookings bs) f = page_whole _ (bookings_fit bs f).few

-- the commit record
turn_small : (g : Turn) → turn_number g ≤ 3
turn_small one = omega arith
turn_small two = omega arith
turn_small three = omega arith

turn_back : (g : Turn) → number_turn (turn_number g) ≡ some g
turn_back one = refl
turn_back two = refl
turn_back three = refl

-- the ring is not large
ring_small : (l : Limits) → GoodLimits l → 16 * ring_blocks l < 4294967296
unfolding ring_blocks
ring_small l (a, b, c, d, e, f) = omega arith

commit_small : (l : Limits) (g : Turn) (h : House) (p : ℕ) → Good l h → p < 16 * ring_blocks l → AllOf Small (commit_numbers l g (head h) p)
unfolding AllOf
commit_small l g h p k lt =
    let t = turn_small g in let s = ring_small l k.sizes in let (a, b, c, d, e, f) = k.sizes in
    (omega arith, (omega arith, (omega arith, (omega arith, (omega arith, (omega arith, (omega arith, (omega arith, (omega arith, (omega arith, (omega arith, (omega arith, tt))))))))))))

commit_back : (l : Limits) (g : Turn) (s : Head) (p : ℕ) (pad : List ℕ) → s.now < 16777216 → s.legs ≤ l.legs → s.fares ≤ l.fares → s.bookings ≤ l.bookings → p < 16 * ring_blocks l →
    numbers_commit l (commit_numbers l g s p ++ pad) ≡ some (record { turn = g; head = s; begins = p })
commit_back l g s p pad t a b c d =
    rw (
      eq-eqb l.gap l.gap refl,
      eq-eqb l.hold_for l.hold_for refl,
      eq-eqb l.legs l.legs refl,
      eq-eqb l.fares l.fares refl,
      eq-eqb l.bookings l.bookings refl,
      turn_back g,
      lt-ltb s.now 16777216 t,
      le-leb s.legs l.legs a,
      le-leb s.fares l.fares b,
      le-leb s.bookings l.bookings c,
      lt-ltb p (16 * ring_blocks l) d,
    )

-- WHAT WAS WRITTEN READS BACK, and fills a page
pub reads_back : IsReadBack page_bytes
reads_back = record {
  unrow_row = op_back;
  row_whole = op_whole;
  uncommit_commit = λ l g h p k lt.
      ap (numbers_commit l) (page_back (commit_numbers l g (head h) p) (commit_small l g h p k lt)) ∙ commit_back l g (head h) p (replicate 116 0) k.early k.few_legs k.few_fares k.few_bookings lt;
  commit_whole = λ l g h p k. page_whole (commit_numbers l g (head h) p) (omega arith);
}
