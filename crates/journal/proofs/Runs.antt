-- Runs of acts: pages put one after the other, each block erased before; done, and torn. And places in a ring.
use Rattle.std.proofs.Common.{◌≡◌, ℕ, zero, suc, ◌+◌, ◌-◌, ◌*◌, ◌/◌, ◌%◌, ◌<◌, ◌≤◌, Bool, true, false, eqb, ltb, ◌⊎◌, List, [], ◌∷◌, ◌++◌, length, sym, refl, ap, ◌∙◌, subst, inl, inr, append_assoc, arith}
use Rattle.std.proofs.lemmas.Bool.{and_from, eqb-true, eqb-false, eq-eqb, cases_eq, lt-ltb, ltb-true, ltb-false}
use Rattle.meaning.specs.Lines.{pick}
use Rattle.meaning.specs.Chip.{blank, has, spoilt, Chip, is_blank}
use Rattle.journal.specs.Acts.{Act, write, wipe, done, all_done, Torn, LeftAfter, said, careful}
use Rattle.journal.specs.Costs.{Rising, writes, wipes}
use Rattle.journal.specs.Slots.{whole_row, AllOf, RowsAt, scan, scanned, pages_from, around, ring_page, ring, next_block, ahead, put, puts}
use Rattle.journal.proofs.Log.{written_but, written_at, wiped_in, wiped_off}
use Rattle.journal.proofs.Machine.{careful-++, said-++, rising-++}

-- power fails in the first or in the second part
pub left-++ : {A : Type 0} (d e : Chip) (xs ys : List (Act A)) (k : ℕ) → LeftAfter d (xs ++ ys) k e → LeftAfter d xs k e ⊎ ((i : ℕ) × LeftAfter (all_done d xs) ys i e)
unfolding LeftAfter all_done
left-++ d e [] ys k l = inr (k, l)
left-++ d e (x ∷ xs) ys zero l = inl l
left-++ d e (x ∷ xs) ys (suc k) l = left-++ (done d x) e xs ys k l

pub all-done-++ : {A : Type 0} (d : Chip) (xs ys : List (Act A)) → all_done d (xs ++ ys) ≡ all_done (all_done d xs) ys
unfolding all_done
all-done-++ d [] ys = refl
all-done-++ d (x ∷ xs) ys = all-done-++ (done d x) xs ys

-- a torn erase
pub wipe_torn : (A : Type 0) (d e : Chip) (b k : ℕ) → LeftAfter {A = A} d (wipe b ∷ []) k e → (j : ℕ) → (e j ≡ d j) ⊎ ((j / 16 ≡ b) × ((e j ≡ blank) ⊎ (e j ≡ spoilt)))
unfolding LeftAfter Torn
wipe_torn A d e b zero l j = l j
wipe_torn A d e b (suc k) l j = elim (cases_eq (j / 16) b) [ inl s ↦ inr (s, inl (l j ∙ wiped_in A d b j s)) | inr s ↦ inl (l j ∙ wiped_off A d b j s) ]

-- rows that stand one after the other
pub rows_same : (d e : Chip) (b : ℕ) (rs : List (List ℕ)) → ((j : ℕ) → b ≤ j → j < b + length rs → e j ≡ d j) → RowsAt d b rs → RowsAt e b rs
unfolding RowsAt
rows_same d e b [] s h = tt
rows_same d e b (r ∷ rs) s h = (s b (omega arith) (omega arith) ∙ h.0, rows_same d e (suc b) rs (λ j p q. s j (omega arith) (omega arith)) h.1)

-- of the block in which n pages end, the rest is blank, in the slot whose first block is f; and the same when the block of the next page is there
abbrev pub Rest : ℕ → Chip → ℕ → Type 0
Rest f d n = (k : ℕ) → n ≤ k → k < 16 * ((n + 15) / 16) → d (16 * suc f + k) ≡ blank

abbrev pub Room : ℕ → Chip → ℕ → Type 0
Room f d n = (k : ℕ) → n ≤ k → k < 16 * (n / 16 + 1) → d (16 * suc f + k) ≡ blank

module _ (A : Type 0) where
  abbrev by : Bool → ℕ → List (Act A)
  by t b = pick t (wipe b ∷ []) []

  -- a page that the erase before another does not touch
  abbrev pub Away : ℕ → ℕ → ℕ → Type 0
  Away i b j = i % 16 ≡ 0 → j / 16 ≡ b → ⊥

  pub ahead_off : (d : Chip) (i b j : ℕ) → Away i b j → all_done d (ahead A i b) j ≡ d j
  unfolding all_done
  ahead_off d i b j o = go (eqb (i % 16) 0) refl
    where
      go : (t : Bool) → eqb (i % 16) 0 ≡ t → all_done d (by t b) j ≡ d j
      go false q = refl
      go true q = wiped_off A d b j (o (eqb-true (i % 16) 0 q))

  pub ahead_in : (d : Chip) (i b j : ℕ) → i % 16 ≡ 0 → j / 16 ≡ b → all_done d (ahead A i b) j ≡ blank
  unfolding all_done
  ahead_in d i b j z q = rw (eq-eqb (i % 16) 0 z) (wiped_in A d b j q)

  pub ahead_torn : (d e : Chip) (i b k : ℕ) → LeftAfter d (ahead A i b) k e → (j : ℕ) → Away i b j → e j ≡ d j
  unfolding LeftAfter
  ahead_torn d e i b k l j o = go (eqb (i % 16) 0) refl l
    where
      go : (t : Bool) → eqb (i % 16) 0 ≡ t → LeftAfter d (by t b) k e → e j ≡ d j
      go false q v = v j
      go true q v = elim (wipe_torn A d e b k v j) [ inl y ↦ y | inr (y, z) ↦ absurd (o (eqb-true (i % 16) 0 q) y) ]

  pub ahead_careful : (d : Chip) (i b nb : ℕ) → b < nb → careful nb d (ahead A i b) ≡ true
  unfolding careful
  ahead_careful d i b nb h = go (eqb (i % 16) 0)
    where
      go : (t : Bool) → careful nb d (by t b) ≡ true
      go false = refl
      go true = and_from _ _ (lt-ltb b nb h) refl

  pub ahead_rises : (d : Chip) (i b : ℕ) → Rising d (ahead A i b)
  unfolding Rising
  ahead_rises d i b = go (eqb (i % 16) 0)
    where
      go : (t : Bool) → Rising d (by t b)
      go false = tt
      go true = tt

  -- one page
  pub put_is : (d : Chip) (i b j : ℕ) (bs : List ℕ) → all_done d (put A i b j bs) ≡ done {A = A} (all_done d (ahead A i b)) (write j bs)
  unfolding all_done
  put_is d i b j bs = all-done-++ d (ahead A i b) _

  pub put_off : (d : Chip) (i b j : ℕ) (bs : List ℕ) (k : ℕ) → Away i b k → (k ≡ j → ⊥) → all_done d (put A i b j bs) k ≡ d k
  put_off d i b j bs k o ne = rw (put_is d i b j bs) (written_but A (all_done d (ahead A i b)) j bs k ne ∙ ahead_off d i b k o)

  pub put_torn : (d e : Chip) (i b j : ℕ) (bs : List ℕ) (n : ℕ) → LeftAfter d (put A i b j bs) n e → (k : ℕ) → Away i b k → (k ≡ j → ⊥) → e k ≡ d k
  unfolding LeftAfter Torn
  put_torn d e i b j bs n l k o ne = go (left-++ d e (ahead A i b) _ n l)
    where
      last : (i2 : ℕ) → LeftAfter {A = A} (all_done d (ahead A i b)) (write j bs ∷ []) i2 e → e k ≡ all_done d (ahead A i b) k
      last zero v = elim (v k) [ inl q ↦ q | inr (q, z) ↦ absurd (ne q) ]
      last (suc i2) v = v k ∙ written_but A (all_done d (ahead A i b)) j bs k ne

      go : LeftAfter d (ahead A i b) n e ⊎ ((i2 : ℕ) × LeftAfter {A = A} (all_done d (ahead A i b)) (write j bs ∷ []) i2 e) → e k ≡ d k
      go (inl v) = ahead_torn d e i b n v k o
      go (inr (i2, v)) = last i2 v ∙ ahead_off d i b k o

  pub put_careful : (d : Chip) (i b j nb : ℕ) (bs : List ℕ) → b < nb → j < 16 * nb → all_done d (ahead A i b) j ≡ blank → whole_row bs ≡ true → careful nb d (put A i b j bs) ≡ true
  unfolding careful is_blank
  put_careful d i b j nb bs h lt z w = careful-++ nb d (ahead A i b) _ (ahead_careful d i b nb h) (rw (lt-ltb j (16 * nb) lt, z, w))

  pub put_rises : (d : Chip) (i b j : ℕ) (bs : List ℕ) → ((k : ℕ) → j < k → k / 16 ≡ j / 16 → all_done d (ahead A i b) k ≡ blank) → Rising d (put A i b j bs)
  unfolding Rising
  put_rises d i b j bs h = rising-++ d (ahead A i b) _ (ahead_rises d i b) (h, tt)

  pub put_silent : (i b j : ℕ) (bs : List ℕ) → said (put A i b j bs) ≡ []
  unfolding said
  put_silent i b j bs = go (eqb (i % 16) 0)
    where
      go : (t : Bool) → said (by t b ++ (write j bs ∷ [])) ≡ []
      go false = refl
      go true = refl

  -- how much it does, before other acts
  pub put_writes : (i b j : ℕ) (bs : List ℕ) (xs : List (Act A)) → writes (put A i b j bs ++ xs) ≡ suc (writes xs)
  unfolding writes
  put_writes i b j bs xs = go (eqb (i % 16) 0)
    where
      go : (t : Bool) → writes ((by t b ++ (write j bs ∷ [])) ++ xs) ≡ suc (writes xs)
      go false = refl
      go true = refl

  pub put_wipes : (i b j : ℕ) (bs : List ℕ) (xs : List (Act A)) → wipes (put A i b j bs ++ xs) + (i + 15) / 16 ≡ wipes xs + (suc i + 15) / 16
  unfolding wipes
  put_wipes i b j bs xs = go (eqb (i % 16) 0) refl
    where
      go : (t : Bool) → eqb (i % 16) 0 ≡ t → wipes ((by t b ++ (write j bs ∷ [])) ++ xs) + (i + 15) / 16 ≡ wipes xs + (suc i + 15) / 16
      go false q = let z = eqb-false (i % 16) 0 q in omega arith
      go true q = let z = eqb-true (i % 16) 0 q in omega arith

  -- pages of a checkpoint, in the slot of S blocks whose first is f
  module _ (S f : ℕ) where
    room_in : (d : Chip) (n : ℕ) → Rest f d n → Room f (all_done d (ahead A n (suc f + n / 16))) n
    room_in d n c k a b =
        elim (cases_eq (n % 16) 0) [
          | inl y ↦ ahead_in d n (suc f + n / 16) (16 * suc f + k) y (omega arith)
          | inr y ↦ (ahead_off d n (suc f + n / 16) (16 * suc f + k) (λ z v. y z) ∙ c k a (omega arith))
        ]

    abbrev one : ℕ → List ℕ → List (Act A)
    one n bs = put A n (suc f + n / 16) (16 * suc f + n) bs

    one_in : (d : Chip) (n : ℕ) (bs : List ℕ) → Rest f d n → all_done d (one n bs) (16 * suc f + n) ≡ has bs
    one_in d n bs c =
        rw (put_is d n (suc f + n / 16) (16 * suc f + n) bs) (written_at A (all_done d (ahead A n (suc f + n / 16))) (16 * suc f + n) bs (room_in d n c n (omega arith) (omega arith)))

    one_rest : (d : Chip) (n : ℕ) (bs : List ℕ) → Rest f d n → Rest f (all_done d (one n bs)) (suc n)
    one_rest d n bs c k a b =
        rw (put_is d n (suc f + n / 16) (16 * suc f + n) bs) (written_but A (all_done d (ahead A n (suc f + n / 16))) (16 * suc f + n) bs (16 * suc f + k) (omega arith) ∙ room_in d n c k (omega arith) (omega arith))

    pub puts_off : (d : Chip) (n : ℕ) (rs : List (List ℕ)) (j : ℕ) → 16 + n + length rs ≤ 16 * S → (16 * suc f + n ≤ j → j < 16 * f + 16 * S → ⊥) → all_done d (puts A f n rs) j ≡ d j
    unfolding puts all_done
    puts_off d n [] j lt o = refl
    puts_off d n (r ∷ rs) j lt o =
        rw (all-done-++ d (one n r) (puts A f (suc n) rs))
        (puts_off (all_done d (one n r)) (suc n) rs j (omega arith) (λ p q. o (omega arith) (omega arith)) ∙ put_off d n (suc f + n / 16) (16 * suc f + n) r j (λ p q. o (omega arith) (omega arith)) (λ q. o (omega arith) (omega arith)))

    pub puts_torn : (d e : Chip) (n : ℕ) (rs : List (List ℕ)) (k : ℕ) → LeftAfter d (puts A f n rs) k e → (j : ℕ) → 16 + n + length rs ≤ 16 * S → (16 * suc f + n ≤ j → j < 16 * f + 16 * S → ⊥) → e j ≡ d j
    unfolding puts LeftAfter
    puts_torn d e n [] k l j lt o = l j
    puts_torn d e n (r ∷ rs) k l j lt o = go (left-++ d e (one n r) _ k l) (λ i v. puts_torn (all_done d (one n r)) e (suc n) rs i v j (omega arith) (λ p q. o (omega arith) (omega arith)))
      where
        go : LeftAfter d (one n r) k e ⊎ ((i : ℕ) × LeftAfter (all_done d (one n r)) (puts A f (suc n) rs) i e) →
            ((i : ℕ) → LeftAfter (all_done d (one n r)) (puts A f (suc n) rs) i e → e j ≡ all_done d (one n r) j) → e j ≡ d j
        go (inl v) ih = put_torn d e n (suc f + n / 16) (16 * suc f + n) r k v j (λ p q. o (omega arith) (omega arith)) (λ q. o (omega arith) (omega arith))
        go (inr (i, v)) ih = ih i v ∙ put_off d n (suc f + n / 16) (16 * suc f + n) r j (λ p q. o (omega arith) (omega arith)) (λ q. o (omega arith) (omega arith))

    pub puts_rest : (d : Chip) (n : ℕ) (rs : List (List ℕ)) → Rest f d n → Rest f (all_done d (puts A f n rs)) (n + length rs)
    unfolding puts all_done
    puts_rest d n [] c = let q : n + 0 ≡ n = omega arith in rw q c
    puts_rest d n (r ∷ rs) c =
        let q : n + suc (length rs) ≡ suc n + length rs = omega arith in
        rw (all-done-++ d (one n r) (puts A f (suc n) rs), q) (puts_rest (all_done d (one n r)) (suc n) rs (one_rest d n r c))

    pub puts_in : (d : Chip) (n : ℕ) (rs : List (List ℕ)) → 16 + n + length rs ≤ 16 * S → Rest f d n → RowsAt (all_done d (puts A f n rs)) (16 * suc f + n) rs
    unfolding puts all_done RowsAt
    puts_in d n [] lt c = tt
    puts_in d n (r ∷ rs) lt c =
        let q : suc (16 * suc f + n) ≡ 16 * suc f + suc n = omega arith in
        subst (λ e. RowsAt e (16 * suc f + n) (r ∷ rs)) (sym (all-done-++ d (one n r) (puts A f (suc n) rs))) (
          puts_off (all_done d (one n r)) (suc n) rs (16 * suc f + n) (omega arith) (omega arith) ∙ one_in d n r c,
          rw q (puts_in (all_done d (one n r)) (suc n) rs (omega arith) (one_rest d n r c)),
        )

    pub puts_careful : (d : Chip) (n nb : ℕ) (rs : List (List ℕ)) → f + S ≤ nb → 16 + n + length rs ≤ 16 * S → Rest f d n → AllOf (λ r. whole_row r ≡ true) rs → careful nb d (puts A f n rs) ≡ true
    unfolding puts careful AllOf
    puts_careful d n nb [] h lt c w = refl
    puts_careful d n nb (r ∷ rs) h lt c w =
        careful-++ nb d (one n r) _ (put_careful d n (suc f + n / 16) (16 * suc f + n) nb r (omega arith) (omega arith) (room_in d n c n (omega arith) (omega arith)) w.0)
        (puts_careful (all_done d (one n r)) (suc n) nb rs h (omega arith) (one_rest d n r c) w.1)

    one_rises : (d : Chip) (n : ℕ) (bs : List ℕ) → Rest f d n → Rising d (one n bs)
    one_rises d n bs c =
        put_rises d n (suc f + n / 16) (16 * suc f + n) bs
        (λ k a b. (let z : k ≡ 16 * suc f + (k - 16 * suc f) = omega arith in rw z (room_in d n c (k - 16 * suc f) (omega arith) (omega arith))))

    pub puts_rise : (d : Chip) (n : ℕ) (rs : List (List ℕ)) → Rest f d n → Rising d (puts A f n rs)
    unfolding puts Rising
    puts_rise d n [] c = tt
    puts_rise d n (r ∷ rs) c = rising-++ d (one n r) _ (one_rises d n r c) (puts_rise (all_done d (one n r)) (suc n) rs (one_rest d n r c))

    pub puts_silent : (n : ℕ) (rs : List (List ℕ)) → said (puts A f n rs) ≡ []
    unfolding puts said
    puts_silent n [] = refl
    puts_silent n (r ∷ rs) = said-++ (one n r) _ ∙ rw (put_silent n (suc f + n / 16) (16 * suc f + n) r) (puts_silent (suc n) rs)

    pub puts_writes : (n : ℕ) (rs : List (List ℕ)) (xs : List (Act A)) → writes (puts A f n rs ++ xs) ≡ length rs + writes xs
    unfolding puts
    puts_writes n [] xs = omega arith
    puts_writes n (r ∷ rs) xs =
        let v = put_writes n (suc f + n / 16) (16 * suc f + n) r (puts A f (suc n) rs ++ xs) in
        let u = puts_writes (suc n) rs xs in
        rw (append_assoc (one n r) (puts A f (suc n) rs) xs) (omega arith)

    pub puts_wipes : (n : ℕ) (rs : List (List ℕ)) (xs : List (Act A)) → wipes (puts A f n rs ++ xs) + (n + 15) / 16 ≡ wipes xs + (n + length rs + 15) / 16
    unfolding puts
    puts_wipes n [] xs = let z : n + 0 ≡ n = omega arith in rw z
    puts_wipes n (r ∷ rs) xs =
        let v = put_wipes n (suc f + n / 16) (16 * suc f + n) r (puts A f (suc n) rs ++ xs) in
        let u = puts_wipes (suc n) rs xs in
        rw (append_assoc (one n r) (puts A f (suc n) rs) xs) (omega arith)

-- places in a ring, which may have gone round once
pub around_is : (n k : ℕ) → ((k < n) × (around n k ≡ k)) ⊎ ((n ≤ k) × (around n k ≡ k - n))
unfolding around
around_is n k = go (ltb k n) refl
  where
    go : (t : Bool) → ltb k n ≡ t → ((k < n) × (pick t k (k - n) ≡ k)) ⊎ ((n ≤ k) × (pick t k (k - n) ≡ k - n))
    go true e = inl (ltb-true k n e, refl)
    go false e = inr (ltb-false k n e, refl)

module _ (S R : ℕ) where
  pub ring_is : (d : Chip) (k : ℕ) → ring S R d k ≡ d (16 * (S + S) + around (16 * R) k)
  unfolding ring ring_page
  ring_is d k = refl

  -- a log begins at place p of the ring, and its page i is written, or the block after that page's is erased: which pages of the ring are concerned
  module _ (p i : ℕ) (begun : p < 16 * R) (few : i + 32 ≤ 16 * R) where
    abbrev c : ℕ
    c = around (16 * R) (p + i)

    pub place_in : c < 16 * R
    place_in = let v = around_is (16 * R) (p + i) in omega arith

    pub block_in : next_block S R c < (S + S) + R
    block_in = let v = around_is (16 * R) (p + i) in let u = around_is R (suc (c / 16)) in omega arith

    pub place_mod : c % 16 ≡ (p + i) % 16
    place_mod = let v = around_is (16 * R) (p + i) in omega arith

    pub apart_in : (k : ℕ) → p ≤ k → k < p + 16 * R → (k ≡ p + i → ⊥) → 16 * (S + S) + around (16 * R) k ≡ 16 * (S + S) + c → ⊥
    apart_in k a b ne q = let v = around_is (16 * R) (p + i) in let u = around_is (16 * R) k in ne (omega arith)

    pub hit : (k : ℕ) → (p + i) % 16 ≡ 0 → k / 16 ≡ suc ((p + i) / 16) → (16 * (S + S) + around (16 * R) k) / 16 ≡ next_block S R c
    hit k z q = let v = around_is (16 * R) (p + i) in let u = around_is (16 * R) k in let t = around_is R (suc (c / 16)) in omega arith

    pub miss : (k : ℕ) → p ≤ k → k < p + 16 * R → (p + i) % 16 ≡ 0 → (16 * (S + S) + around (16 * R) k) / 16 ≡ next_block S R c → k / 16 ≡ suc ((p + i) / 16)
    miss k a b z q = let v = around_is (16 * R) (p + i) in let u = around_is (16 * R) k in let t = around_is R (suc (c / 16)) in omega arith

-- where a log ends
pub scan_log : (cap : ℕ) (d : Chip) (b n : ℕ) → n ≤ cap → ((k : ℕ) → k < n → is_blank (d (b + k)) ≡ false) → (n < cap → d (b + n) ≡ blank) → scan d b cap ≡ n
unfolding scan is_blank
scan_log zero d b n h l z = omega arith
scan_log (suc cap) d b zero h l z = let q : b + 0 ≡ b = omega arith in rw (rw q at (z (omega arith)))
scan_log (suc cap) d b (suc n) h l z =
    let q : b + 0 ≡ b = omega arith in
    let q2 : b + suc n ≡ suc b + n = omega arith in
    rw (rw q at (l 0 (omega arith)), scan_log cap d (suc b) n (omega arith) (λ k a. (let p : suc b + k ≡ b + suc k = omega arith in rw p (l (suc k) (omega arith)))) (λ a. rw (← q2) (z (omega arith))))

-- what a scan looks at is what it counts, and one page more at most; and what it comes to hangs on nothing else
pub scanned_few : (cap : ℕ) (d : Chip) (b : ℕ) → length (scanned d b cap) ≤ suc (scan d b cap)
unfolding scan scanned
scanned_few zero d b = omega arith
scanned_few (suc cap) d b = go (is_blank (d b)) (scanned_few cap d (suc b))
  where
    go : (t : Bool) → length (scanned d (suc b) cap) ≤ suc (scan d (suc b) cap) → suc (length (pick t [] (scanned d (suc b) cap))) ≤ suc (pick t 0 (suc (scan d (suc b) cap)))
    go true h = omega arith
    go false h = omega arith

pub scanned_same : (cap : ℕ) (d e : Chip) (b : ℕ) → AllOf (λ j. e j ≡ d j) (scanned d b cap) → (scan e b cap ≡ scan d b cap) × ((k : ℕ) → k < scan d b cap → e (b + k) ≡ d (b + k))
unfolding scan scanned AllOf
scanned_same zero d e b a = (refl, λ k l. absurd (omega arith))
scanned_same (suc cap) d e b a = rw a.0 (go (is_blank (d b)) a.1 (scanned_same cap d e (suc b)))
  where
    go : (t : Bool) → AllOf (λ j. e j ≡ d j) (pick t [] (scanned d (suc b) cap)) →
        (AllOf (λ j. e j ≡ d j) (scanned d (suc b) cap) → (scan e (suc b) cap ≡ scan d (suc b) cap) × ((k : ℕ) → k < scan d (suc b) cap → e (suc b + k) ≡ d (suc b + k))) →
        (pick t 0 (suc (scan e (suc b) cap)) ≡ pick t 0 (suc (scan d (suc b) cap))) × ((k : ℕ) → k < pick t 0 (suc (scan d (suc b) cap)) → e (b + k) ≡ d (b + k))
    go true v ih = (refl, λ k l. absurd (omega arith))
    go false v ih = let w = ih v in (ap suc w.0, at w.1)
      where
        at : ((k : ℕ) → k < scan d (suc b) cap → e (suc b + k) ≡ d (suc b + k)) → (k : ℕ) → k < suc (scan d (suc b) cap) → e (b + k) ≡ d (b + k)
        at w zero l = let q : b + 0 ≡ b = omega arith in rw q a.0
        at w (suc k) l = let q : b + suc k ≡ suc b + k = omega arith in rw q (w k (omega arith))

-- pages in a row: how many, and each
pub pages_many : (b n : ℕ) → length (pages_from b n) ≡ n
unfolding pages_from
pages_many b zero = refl
pages_many b (suc n) = ap suc (pages_many (suc b) n)

pub pages_each : (P : ℕ → Type 0) (b n : ℕ) → AllOf P (pages_from b n) → (k : ℕ) → k < n → P (b + k)
unfolding pages_from AllOf
pages_each P b zero a k l = absurd (omega arith)
pages_each P b (suc n) a zero l = let q : b + 0 ≡ b = omega arith in rw q a.0
pages_each P b (suc n) a (suc k) l = let q : b + suc k ≡ suc b + k = omega arith in rw q (pages_each P (suc b) n a.1 k (omega arith))
