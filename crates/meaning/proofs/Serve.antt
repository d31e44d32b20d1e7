-- Whoever waits is served: what one serving does, what holds over all of them, and that at the end there is room for none that waits.
use Rattle.std.proofs.Common.{◌≡◌, ℕ, zero, suc, ◌+◌, ◌<◌, ◌≤◌, Bool, true, false, ◌&&◌, eqb, List, [], ◌∷◌, ◌++◌, length, get_or, set, sym, refl, ap, ◌∙◌, subst, arith}
use Rattle.std.proofs.lemmas.Bool.{eqb-true, eq-eqb, and_parts, and_from, both_ways}
use Rattle.std.proofs.lemmas.List.{append_assoc}
use Rattle.meaning.specs.Lines.{pick, Leg}
use Rattle.meaning.specs.House.{Booking, room, stand, Served, nobody, served, serve_one, serve_on, serve}

abbrev pub none : Booking
none = record { legs = []; class = 0; seats = 0; stands = 3; until = 0; paid = 0 }

abbrev pub at : List Booking → ℕ → Booking
at bs k = get_or bs k none

abbrev pub fits : List Leg → List Booking → Booking → Bool
fits ls all b = room ls all b.legs b.class b.seats

-- there is room for none of the first m that wait; of all that wait
abbrev pub Passed : List Leg → List Booking → List Booking → ℕ → Type 0
Passed ls all bs m = (j : ℕ) → j < m → (at bs j).stands ≡ 0 → fits ls all (at bs j) ≡ false

abbrev pub Idle : List Leg → List Booking → List Booking → Type 0
Idle ls all bs = (j : ℕ) → (at bs j).stands ≡ 0 → fits ls all (at bs j) ≡ false

-- the one that is served next
abbrev pub Next : List Leg → List Booking → List Booking → ℕ → Type 0
Next ls all bs m = (m < length bs) × ((at bs m).stands ≡ 0) × (fits ls all (at bs m) ≡ true) × Passed ls all bs m

test_false : (b : Booking) (r : Bool) → (eqb b.stands 0 && r) ≡ false → b.stands ≡ 0 → r ≡ false
test_false b true e z = absurd (both_ways _ e (and_from _ _ (eq-eqb _ _ z) refl))
test_false b false e z = refl

waits : Booking → ℕ
waits b = pick (eqb b.stands 0) 1 0

-- how many wait
pub waiting : List Booking → ℕ
waiting [] = 0
waiting (b ∷ bs) = waits b + waiting bs

waits_one : (b : Booking) → b.stands ≡ 0 → waits b ≡ 1
unfolding waits
waits_one b z = ap (λ (t : Bool). pick t 1 0) (eq-eqb _ _ z)

waits_le : (b : Booking) → waits b ≤ 1
unfolding waits
waits_le b = go (eqb b.stands 0)
  where
    go : (t : Bool) → pick t 1 0 ≤ 1
    go true = omega arith
    go false = omega arith

pub waiting_le : (bs : List Booking) → waiting bs ≤ length bs
unfolding waiting
waiting_le [] = omega arith
waiting_le (b ∷ bs) = omega (arith, waits_le b, waiting_le bs)

waiting_none : (bs : List Booking) (j : ℕ) → waiting bs ≤ 0 → (at bs j).stands ≡ 0 → ⊥
unfolding waiting
waiting_none [] j h z = omega arith
waiting_none (b ∷ bs) zero h z = omega (arith, waits_one b z)
waiting_none (b ∷ bs) (suc j) h z = waiting_none bs j (omega arith) z

module _ (ls : List Leg) (u : ℕ) where
  abbrev pub held : List Booking → ℕ → List Booking
  held bs m = set bs m (stand (at bs m) 1 u)

  -- each serving leaves one fewer
  pub waiting_held : (bs : List Booking) (m : ℕ) → m < length bs → (at bs m).stands ≡ 0 → suc (waiting (held bs m)) ≡ waiting bs
  unfolding waiting waits
  waiting_held [] m h z = absurd (omega arith)
  waiting_held (b ∷ bs) zero h z = omega (arith, waits_one b z)
  waiting_held (b ∷ bs) (suc m) h z = omega (arith, waiting_held bs m (omega arith) z)

  one_nobody : (all bs don : List Booking) → serve_one ls all bs don u ≡ nobody → Idle ls all bs
  unfolding serve_one
  one_nobody all [] don e = λ j z. absurd (omega arith)
  one_nobody all (b ∷ bs) don e = go (eqb b.stands 0 && fits ls all b) refl e (one_nobody all bs (don ++ (b ∷ [])))
    where
      go : (t : Bool) → (eqb b.stands 0 && fits ls all b) ≡ t → pick t (served (don ++ (stand b 1 u ∷ bs))) (serve_one ls all bs (don ++ (b ∷ [])) u) ≡ nobody →
          (serve_one ls all bs (don ++ (b ∷ [])) u ≡ nobody → Idle ls all bs) → Idle ls all (b ∷ bs)
      go true f e r = let z : ◌≡◌ {A = ℕ} 0 1 = cc in absurd (omega arith)
      go false f e r = elim [ zero ↦ (λ z. test_false b (fits ls all b) f z) | suc j ↦ (λ z. r e j z) ]

  one_served : (all bs don cs : List Booking) → serve_one ls all bs don u ≡ served cs → (m : ℕ) × Next ls all bs m × (cs ≡ don ++ held bs m)
  unfolding serve_one
  one_served all [] don cs e = let z : ◌≡◌ {A = ℕ} 0 1 = cc in absurd (omega arith)
  one_served all (b ∷ bs) don cs e = go (eqb b.stands 0 && fits ls all b) refl e (one_served all bs (don ++ (b ∷ [])) cs)
    where
      go : (t : Bool) → (eqb b.stands 0 && fits ls all b) ≡ t → pick t (served (don ++ (stand b 1 u ∷ bs))) (serve_one ls all bs (don ++ (b ∷ [])) u) ≡ served cs →
          (serve_one ls all bs (don ++ (b ∷ [])) u ≡ served cs → (m : ℕ) × Next ls all bs m × (cs ≡ (don ++ (b ∷ [])) ++ held bs m)) →
          (m : ℕ) × Next ls all (b ∷ bs) m × (cs ≡ don ++ held (b ∷ bs) m)
      go true f e r =
          let p = and_parts _ _ f in
          (0, (omega arith, eqb-true _ _ p.0, p.1, λ j h z. absurd (omega arith)), (cc))
      go false f e r =
          let n = r e in (
            suc n.0,
            (omega (arith, n.1.0), n.1.1, n.1.2, elim [ zero ↦ (λ h z. test_false b (fits ls all b) f z) | suc j ↦ (λ h z. n.1.3 j (omega arith) z) ]),
            n.2 ∙ append_assoc don (b ∷ []) (held bs n.0),
          )

  -- what each serving keeps, all keep
  pub serve_keeps : (P : List Booking → Type 0) → ((bs : List Booking) (m : ℕ) → Next ls bs bs m → P bs → P (held bs m)) → (n : ℕ) (bs : List Booking) → P bs → P (serve n ls bs u)
  unfolding serve serve_on
  serve_keeps P step zero bs p = p
  serve_keeps P step (suc n) bs p = go (serve_one ls bs bs [] u) refl (λ cs q. serve_keeps P step n cs q)
    where
      go : (s : Served) → serve_one ls bs bs [] u ≡ s → ((cs : List Booking) → P cs → P (serve n ls cs u)) → P (serve_on s bs (λ cs. serve n ls cs u))
      go nobody e r = p
      go (served cs) e r = let o = one_served bs bs [] cs e in r cs (subst P (sym o.2) (step bs o.0 o.1 p))

  serve_idle : (n : ℕ) (bs : List Booking) → waiting bs ≤ n → Idle ls (serve n ls bs u) (serve n ls bs u)
  unfolding serve serve_on
  serve_idle zero bs h = λ j z. absurd (waiting_none bs j h z)
  serve_idle (suc n) bs h = go (serve_one ls bs bs [] u) refl (λ cs k. serve_idle n cs k)
    where
      go : (s : Served) → serve_one ls bs bs [] u ≡ s → ((cs : List Booking) → waiting cs ≤ n → Idle ls (serve n ls cs u) (serve n ls cs u)) →
          Idle ls (serve_on s bs (λ cs. serve n ls cs u)) (serve_on s bs (λ cs. serve n ls cs u))
      go nobody e r = one_nobody bs bs [] e
      go (served cs) e r =
          let o = one_served bs bs [] cs e in
          r cs (omega (arith, ap waiting o.2, waiting_held bs o.0 o.1.0 o.1.1))

  pub all_served : (bs : List Booking) → Idle ls (serve (length bs) ls bs u) (serve (length bs) ls bs u)
  all_served bs = serve_idle (length bs) bs (waiting_le bs)

  -- where there is room for none that waits, nothing changes; else the first for whom there is room is held
  pub serve_stays : (n : ℕ) (bs : List Booking) → Idle ls bs bs → serve n ls bs u ≡ bs
  unfolding serve serve_on
  serve_stays zero bs f = refl
  serve_stays (suc n) bs f = go (serve_one ls bs bs [] u) refl
    where
      go : (s : Served) → serve_one ls bs bs [] u ≡ s → serve_on s bs (λ cs. serve n ls cs u) ≡ bs
      go nobody e = refl
      go (served cs) e = let o = one_served bs bs [] cs e in absurd (both_ways _ (f o.0 o.1.1) o.1.2)

  pub serve_next : (n : ℕ) (bs : List Booking) (k : ℕ) → (at bs k).stands ≡ 0 → fits ls bs (at bs k) ≡ true → (m : ℕ) × Next ls bs bs m × (serve (suc n) ls bs u ≡ serve n ls (held bs m) u)
  unfolding serve serve_on
  serve_next n bs k z f = go (serve_one ls bs bs [] u) refl
    where
      go : (s : Served) → serve_one ls bs bs [] u ≡ s → (m : ℕ) × Next ls bs bs m × (serve_on s bs (λ cs. serve n ls cs u) ≡ serve n ls (held bs m) u)
      go nobody e = absurd (both_ways _ (one_nobody bs bs [] e k z) f)
      go (served cs) e = let o = one_served bs bs [] cs e in (o.0, o.1, ap (λ v. serve n ls v u) o.2)
