-- Counts of what is taken: one of them set, on one leg in one class more.
use Rattle.std.proofs.Common.{◌≡◌, ℕ, ◌+◌, ◌*◌, ◌<◌, ◌≤◌, Bool, ◌&&◌, eqb, ltb, ◌⊎◌, List, length, get_or, take, drop, set, sym, ap, ◌∙◌, inl, inr, arith, rules}
use Rattle.std.proofs.lemmas.Bool.{cases_lt, cases_eq, cases_order}
use Rattle.std.proofs.lemmas.Bool.Decides.{nat_tests}
use Rattle.std.proofs.lemmas.List.{same_lists, places, get_or-set_same, get_or-set_other, get_or-take, get_or-drop}
use Rattle.meaning.specs.Lines.{pick}
use Rattle.records.specs.Words.{leg_read, leg_in}
use Rattle.records.proofs.Parts.{behind}
use Rattle.counts.specs.Counts.{count_in, Shared}

-- one word set beside a part of the words
part_set : (a n p x : ℕ) (w : List ℕ) → (p < a) ⊎ (a + n ≤ p) → take n (drop a (set w p x)) ≡ take n (drop a w)
part_set a n p x w o = same_lists _ _ (search (rules, places)) (λ k d lt. go k d (search (rules, places)) o)
  where
    go : (k d : ℕ) → k < n → (p < a) ⊎ (a + n ≤ p) → get_or (take n (drop a (set w p x))) k d ≡ get_or (take n (drop a w)) k d
    go k d h (inl l) = get_or-take n (drop a (set w p x)) k d h ∙ get_or-drop a (set w p x) k d ∙ get_or-set_other w p (a + k) x d (omega arith) ∙ sym (get_or-drop a w k d) ∙ sym (get_or-take n (drop a w) k d h)
    go k d h (inr l) = get_or-take n (drop a (set w p x)) k d h ∙ get_or-drop a (set w p x) k d ∙ get_or-set_other w p (a + k) x d (omega arith) ∙ sym (get_or-drop a w k d) ∙ sym (get_or-take n (drop a w) k d h)

-- a count that is set leaves every leg as it was
leg_set : (i c x j : ℕ) (w : List ℕ) → c < 97 → leg_in (set w (i * 128 + 31 + c) x) j ≡ leg_in w j
leg_set i c x j w h = ap leg_read (part_set (j * 128) 31 (i * 128 + 31 + c) x w (behind 128 31 i j c (omega arith)))

-- each leg and class has a word of its own
other_place : (i m j c : ℕ) → m < 26 → c < 97 → ((i ≡ j → ⊥) ⊎ (c ≡ m → ⊥)) → j * 128 + 31 + c ≡ i * 128 + 31 + m → ⊥
other_place i m j c h k (inl n) e = elim (cases_order i j) [ inl q ↦ n q | inr (inl l) ↦ omega arith | inr (inr l) ↦ omega arith ]
other_place i m j c h k (inr n) e = elim (cases_order i j) [ inl q ↦ n (omega arith) | inr (inl l) ↦ omega arith | inr (inr l) ↦ omega arith ]

-- one class more in which seats are taken
pub shared_more : (v w : List ℕ) (i m seats x : ℕ) → m < 26 → i * 128 + 128 ≤ length w → Shared v w i m seats → x ≡ count_in w i m + seats → Shared v (set w (i * 128 + 31 + m) x) i (m + 1) seats
shared_more v w i m seats x h l s e = record { counts = cnt; legs = λ j. leg_set i m x j w (omega arith) ∙ s.legs j }
  where
    at_it : (j c : ℕ) → i ≡ j → c ≡ m → count_in (set w (i * 128 + 31 + m) x) j c ≡ count_in v j c + pick (eqb i j && ltb c (m + 1)) seats 0
    at_it j c p q =
        let o : j * 128 + 31 + c ≡ i * 128 + 31 + m = omega arith in
        let a : count_in (set w (i * 128 + 31 + m) x) j c ≡ x = ap (λ (z : ℕ). get_or (set w (i * 128 + 31 + m) x) z 0) o ∙ get_or-set_same w (i * 128 + 31 + m) x 0 (omega arith) in
        let b : count_in v j c ≡ count_in v i m = ap (λ (z : ℕ). get_or v z 0) o in
        let d : count_in w i m ≡ count_in v i m + pick (eqb i i && ltb m m) seats 0 = s.counts i m (omega arith) in
        grind (arith, nat_tests)

    beside_it : (j c : ℕ) → c < 97 → ((i ≡ j → ⊥) ⊎ (c ≡ m → ⊥)) → (eqb i j && ltb c (m + 1)) ≡ (eqb i j && ltb c m) → count_in (set w (i * 128 + 31 + m) x) j c ≡ count_in v j c + pick (eqb i j && ltb c (m + 1)) seats 0
    beside_it j c k n q =
        get_or-set_other w (i * 128 + 31 + m) (j * 128 + 31 + c) x 0 (other_place i m j c h k n) ∙ s.counts j c k ∙ ap (λ (t : Bool). count_in v j c + pick t seats 0) (sym q)

    cnt : (j c : ℕ) → c < 97 → count_in (set w (i * 128 + 31 + m) x) j c ≡ count_in v j c + pick (eqb i j && ltb c (m + 1)) seats 0
    cnt j c k = elim (cases_eq i j) [ inl p ↦ elim (cases_eq c m) [ inl q ↦ at_it j c p q | inr q ↦ beside_it j c k (inr q) (grind (arith, nat_tests)) ] | inr p ↦ beside_it j c k (inl p) (grind (arith, nat_tests)) ]

-- one class more in which they are given back
pub shared_less : (v w : List ℕ) (i m seats x : ℕ) → m < 26 → i * 128 + 128 ≤ length w → Shared w v i m seats → x + seats ≡ count_in w i m → Shared (set w (i * 128 + 31 + m) x) v i (m + 1) seats
shared_less v w i m seats x h l s e = record { counts = cnt; legs = λ j. s.legs j ∙ sym (leg_set i m x j w (omega arith)) }
  where
    at_it : (j c : ℕ) → i ≡ j → c ≡ m → count_in v j c ≡ count_in (set w (i * 128 + 31 + m) x) j c + pick (eqb i j && ltb c (m + 1)) seats 0
    at_it j c p q =
        let o : j * 128 + 31 + c ≡ i * 128 + 31 + m = omega arith in
        let a : count_in (set w (i * 128 + 31 + m) x) j c ≡ x = ap (λ (z : ℕ). get_or (set w (i * 128 + 31 + m) x) z 0) o ∙ get_or-set_same w (i * 128 + 31 + m) x 0 (omega arith) in
        let b : count_in v j c ≡ count_in v i m = ap (λ (z : ℕ). get_or v z 0) o in
        let d : count_in v i m ≡ count_in w i m + pick (eqb i i && ltb m m) seats 0 = s.counts i m (omega arith) in
        grind (arith, nat_tests)

    beside_it : (j c : ℕ) → c < 97 → ((i ≡ j → ⊥) ⊎ (c ≡ m → ⊥)) → (eqb i j && ltb c (m + 1)) ≡ (eqb i j && ltb c m) → count_in v j c ≡ count_in (set w (i * 128 + 31 + m) x) j c + pick (eqb i j && ltb c (m + 1)) seats 0
    beside_it j c k n q =
        let a : count_in (set w (i * 128 + 31 + m) x) j c ≡ count_in w j c = get_or-set_other w (i * 128 + 31 + m) (j * 128 + 31 + c) x 0 (other_place i m j c h k n) in
        let b : pick (eqb i j && ltb c (m + 1)) seats 0 ≡ pick (eqb i j && ltb c m) seats 0 = ap (λ (t : Bool). pick t seats 0) q in
        omega (arith, a, b, s.counts j c k)

    cnt : (j c : ℕ) → c < 97 → count_in v j c ≡ count_in (set w (i * 128 + 31 + m) x) j c + pick (eqb i j && ltb c (m + 1)) seats 0
    cnt j c k = elim (cases_eq i j) [ inl p ↦ elim (cases_eq c m) [ inl q ↦ at_it j c p q | inr q ↦ beside_it j c k (inr q) (grind (arith, nat_tests)) ] | inr p ↦ beside_it j c k (inl p) (grind (arith, nat_tests)) ]

-- the next class is as it was
pub same_here : (v w : List ℕ) (i m seats : ℕ) → m < 26 → Shared v w i m seats → count_in w i m ≡ count_in v i m
same_here v w i m seats h s = let d : count_in w i m ≡ count_in v i m + pick (eqb i i && ltb m m) seats 0 = s.counts i m (omega arith) in grind (arith, nat_tests)

-- the counts of leg k lie beside each leg's own words
pub off_counts : (j k : ℕ) → (j * 128 + 31 ≤ k * 128 + 31) ⊎ (k * 128 + 31 + 26 ≤ j * 128)
off_counts j k = elim (cases_lt k j) [ inl l ↦ inr (omega arith) | inr g ↦ inl (omega arith) ]

-- and beside all other words that are behind a leg's own
pub off_others : (j k c : ℕ) → c < 97 → (j ≡ k → 26 ≤ c) → (j * 128 + 31 + c < k * 128 + 31) ⊎ (k * 128 + 31 + 26 ≤ j * 128 + 31 + c)
off_others j k c h f = elim (cases_order j k) [ inl e ↦ (let g : 26 ≤ c = f e in inr (omega arith)) | inr (inl l) ↦ inl (omega arith) | inr (inr g) ↦ inr (omega arith) ]
