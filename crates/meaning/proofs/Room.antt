-- What is taken on a leg after a change of one booking, and what it means that there is room.
use Rattle.std.proofs.Common.{◌≡◌, ℕ, zero, suc, ◌+◌, ◌<◌, ◌≤◌, Bool, true, false, ◌&&◌, ◌||◌, eqb, leb, List, [], ◌∷◌, ◌++◌, length, get_or, set, refl, ap, subst, inl, inr, arith}
use Rattle.std.proofs.lemmas.Bool.{eqb-true, eq-eqb, leb-true, ltb-true, and_parts, and_from, or_cases, or_left, or_right, cases_lt, both_ways}
use Rattle.std.proofs.lemmas.Bool.Decides.{nat_tests}
use Rattle.meaning.specs.Lines.{pick, Leg, leg}
use Rattle.meaning.specs.House.{Booking, goes, taken, room_on, room, stand, run_out, over}
use Rattle.meaning.proofs.Serve.{at}

abbrev pub counts : Booking → ℕ → ℕ → ℕ
counts b i c = pick ((eqb b.stands 1 || eqb b.stands 2) && (goes b.legs i && leb c b.class)) b.seats 0

pub taken_set : (bs : List Booking) (m : ℕ) (b : Booking) (i c : ℕ) → m < length bs → taken (set bs m b) i c + counts (at bs m) i c ≡ taken bs i c + counts b i c
unfolding taken
taken_set [] m b i c h = absurd (omega arith)
taken_set (a ∷ bs) zero b i c h = omega arith
taken_set (a ∷ bs) (suc m) b i c h = omega (arith, taken_set bs m b i c (omega arith))

pub taken_push : (bs : List Booking) (b : Booking) (i c : ℕ) → taken (bs ++ (b ∷ [])) i c ≡ taken bs i c + counts b i c
unfolding taken
taken_push [] b i c = omega arith
taken_push (a ∷ bs) b i c = omega (arith, taken_push bs b i c)

-- what stands 0 or 3 takes nothing
pub counts_waits : (b : Booking) (i c : ℕ) → b.stands ≡ 0 → counts b i c ≡ 0
counts_waits b i c e = ap (λ (s : ℕ). pick ((eqb s 1 || eqb s 2) && (goes b.legs i && leb c b.class)) b.seats 0) e

pub counts_held : (b : Booking) (i c : ℕ) → b.stands ≡ 1 → counts b i c ≡ pick (goes b.legs i && leb c b.class) b.seats 0
counts_held b i c e = ap (λ (s : ℕ). pick ((eqb s 1 || eqb s 2) && (goes b.legs i && leb c b.class)) b.seats 0) e

-- the limits that hold where n more are sold on a leg
abbrev pub Under : List Leg → List Booking → ℕ → ℕ → ℕ → Type 0
Under ls bs i c n = (j : ℕ) → j ≤ c → j < length (leg ls i).limits → taken bs i j + n ≤ get_or (leg ls i).limits j 0

on_tells : (l : List ℕ) (bs : List Booking) (i c n j : ℕ) → room_on l bs i c n j ≡ true → (k m : ℕ) → j + k ≡ m → k < length l → m ≤ c → taken bs i m + n ≤ get_or l k 0
unfolding room_on
on_tells [] bs i c n j e k m f h g = absurd (omega arith)
on_tells (x ∷ l) bs i c n j e zero m f h g =
    elim (or_cases _ _ (and_parts _ _ e).0) [ inl u ↦ absurd (let w : c < j = ltb-true c j u in omega arith) | inr v ↦ (let w : j ≡ m = omega arith in omega (arith, leb-true, ltb-true, v, ap (λ q. taken bs i q) w)) ]
on_tells (x ∷ l) bs i c n j e (suc k) m f h g = on_tells l bs i c n (suc j) (and_parts _ _ e).1 k m (omega arith) (omega arith) g

on_from : (l : List ℕ) (bs : List Booking) (i c n j : ℕ) → ((k m : ℕ) → j + k ≡ m → k < length l → m ≤ c → taken bs i m + n ≤ get_or l k 0) → room_on l bs i c n j ≡ true
unfolding room_on
on_from [] bs i c n j f = refl
on_from (x ∷ l) bs i c n j f =
    let rest : room_on l bs i c n (suc j) ≡ true = on_from l bs i c n (suc j) (λ k m e h g. f (suc k) m (omega arith) (omega arith) g) in
    elim (cases_lt c j) [
      | inl u ↦ rw rest (grind (arith, nat_tests))
      | inr v ↦ (let w : taken bs i j + n ≤ x = f 0 j (omega arith) (omega arith) v in rw rest (grind (arith, nat_tests)))
    ]

pub room_tells : (ls : List Leg) (bs : List Booking) (is : List ℕ) (c n : ℕ) → room ls bs is c n ≡ true → (i : ℕ) → goes is i ≡ true → Under ls bs i c n
unfolding room goes
room_tells ls bs [] c n e i g = absurd (both_ways false refl g)
room_tells ls bs (x ∷ is) c n e i g =
    elim (or_cases _ _ g) [
      | inl u ↦ subst (λ v. Under ls bs v c n) (eqb-true _ _ u) (λ j h k. on_tells (leg ls x).limits bs x c n 0 (and_parts _ _ e).0 j j (omega arith) k h)
      | inr v ↦ room_tells ls bs is c n (and_parts _ _ e).1 i v
    ]

pub room_from : (ls : List Leg) (bs : List Booking) (is : List ℕ) (c n : ℕ) → ((i : ℕ) → goes is i ≡ true → Under ls bs i c n) → room ls bs is c n ≡ true
unfolding room goes
room_from ls bs [] c n f = refl
room_from ls bs (x ∷ is) c n f =
    and_from _ _ (on_from (leg ls x).limits bs x c n 0 (λ k m e h g. let w : k ≡ m = omega arith in subst (λ v. taken bs x v + n ≤ get_or (leg ls x).limits k 0) w (f x (or_left _ _ (eq-eqb x x refl)) k (omega arith) h)))
    (room_from ls bs is c n (λ i g. f i (or_right _ _ g)))

-- room for more seats, beside more that are taken, is room for fewer
pub room_less : (ls : List Leg) (ds bs : List Booking) (is : List ℕ) (c m n : ℕ) → m ≤ n → ((i j : ℕ) → taken bs i j ≤ taken ds i j) → room ls ds is c n ≡ true → room ls bs is c m ≡ true
room_less ls ds bs is c m n h t e = room_from ls bs is c m (λ i g j k q. omega (arith, room_tells ls ds is c n e i g j k q, t i j))

-- what runs out takes nothing more
pub taken_run_out : (t : ℕ) (ls : List Leg) (bs : List Booking) (i c : ℕ) → taken (run_out t ls bs) i c ≤ taken bs i c
unfolding taken run_out
taken_run_out t ls [] i c = omega arith
taken_run_out t ls (b ∷ bs) i c = go (over t ls b) (taken_run_out t ls bs i c)
  where
    go : (v : Bool) → taken (run_out t ls bs) i c ≤ taken bs i c → taken (pick v (stand b 3 0 ∷ run_out t ls bs) (b ∷ run_out t ls bs)) i c ≤ counts b i c + taken bs i c
    go true h = omega arith
    go false h = omega arith
