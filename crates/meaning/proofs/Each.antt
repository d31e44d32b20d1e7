-- What a change does to each booking by itself.
use Rattle.std.proofs.Common.{◌≡◌, ℕ, zero, suc, ◌<◌, Bool, true, false, ◌≢◌, List, [], ◌∷◌, ◌++◌, length, set, sym, refl, ap, ◌∙◌, inl, inr}
use Rattle.std.proofs.lemmas.Bool.{cases_lt}
use Rattle.std.proofs.lemmas.List.{get_or_past}
use Rattle.meaning.specs.Lines.{pick, Leg}
use Rattle.meaning.specs.House.{Booking, stand, serve, over, run_out}
use Rattle.meaning.proofs.Serve.{none, at, serve_keeps}

-- what holds of each booking
pub set_all : (Q : Booking → Type 0) (bs : List Booking) (m : ℕ) (b : Booking) → Q none → ((k : ℕ) → Q (at bs k)) → Q b → (k : ℕ) → Q (at (set bs m b) k)
set_all Q [] m b d q p k = d
set_all Q (a ∷ bs) zero b d q p zero = p
set_all Q (a ∷ bs) zero b d q p (suc k) = q (suc k)
set_all Q (a ∷ bs) (suc m) b d q p zero = q 0
set_all Q (a ∷ bs) (suc m) b d q p (suc k) = set_all Q bs m b d (λ j. q (suc j)) p k

pub push_all : (Q : Booking → Type 0) (bs : List Booking) (b : Booking) → Q none → ((k : ℕ) → Q (at bs k)) → Q b → (k : ℕ) → Q (at (bs ++ (b ∷ [])) k)
push_all Q [] b d q p zero = p
push_all Q [] b d q p (suc k) = d
push_all Q (a ∷ bs) b d q p zero = q 0
push_all Q (a ∷ bs) b d q p (suc k) = push_all Q bs b d (λ j. q (suc j)) p k

-- how each booking is to what it was
pub set_each : (R : Booking → Booking → Type 0) → ((b : Booking) → R b b) → (bs : List Booking) (m : ℕ) (b : Booking) → R b (at bs m) → (k : ℕ) → R (at (set bs m b) k) (at bs k)
set_each R r [] m b p k = r none
set_each R r (a ∷ bs) zero b p zero = p
set_each R r (a ∷ bs) zero b p (suc k) = r (at bs k)
set_each R r (a ∷ bs) (suc m) b p zero = r a
set_each R r (a ∷ bs) (suc m) b p (suc k) = set_each R r bs m b p k

pub push_each : (R : Booking → Booking → Type 0) → ((b : Booking) → R b b) → (bs : List Booking) (b : Booking) → R b none → (k : ℕ) → R (at (bs ++ (b ∷ [])) k) (at bs k)
push_each R r [] b p zero = p
push_each R r [] b p (suc k) = r none
push_each R r (a ∷ bs) b p zero = r a
push_each R r (a ∷ bs) b p (suc k) = push_each R r bs b p k

pub at_run_out : (t : ℕ) (ls : List Leg) (bs : List Booking) (k : ℕ) → at (run_out t ls bs) k ≡ pick (over t ls (at bs k)) (stand (at bs k) 3 0) (at bs k)
unfolding run_out
at_run_out t ls [] k = refl
at_run_out t ls (b ∷ bs) k = go (over t ls b) refl (at_run_out t ls bs) k
  where
    go : (v : Bool) → over t ls b ≡ v → ((j : ℕ) → at (run_out t ls bs) j ≡ pick (over t ls (at bs j)) (stand (at bs j) 3 0) (at bs j)) →
        (k : ℕ) → at (pick v (stand b 3 0 ∷ run_out t ls bs) (b ∷ run_out t ls bs)) k ≡ pick (over t ls (at (b ∷ bs) k)) (stand (at (b ∷ bs) k) 3 0) (at (b ∷ bs) k)
    go true e r zero = ap (λ (w : Bool). pick w (stand b 3 0) b) (sym e)
    go true e r (suc k) = r k
    go false e r zero = ap (λ (w : Bool). pick w (stand b 3 0) b) (sym e)
    go false e r (suc k) = r k

pub serve_each : (R : Booking → Booking → Type 0) → ((b : Booking) → R b b) → ((a b c : Booking) → R a b → R b c → R a c) → (ls : List Leg) (u : ℕ) → ((b : Booking) → b.stands ≡ 0 → R (stand b 1 u) b) →
    (n : ℕ) (bs : List Booking) (k : ℕ) → R (at (serve n ls bs u) k) (at bs k)
serve_each R r t ls u s n bs k =
    serve_keeps ls u (λ cs. R (at cs k) (at bs k)) (λ cs m x p. t _ _ _ (set_each R r cs m (stand (at cs m) 1 u) (s (at cs m) x.1) k) p) n bs (r (at bs k))

-- a booking that is there
pub there : (bs : List Booking) (k : ℕ) → (at bs k).stands ≢ 3 → k < length bs
there bs k h = elim (cases_lt k (length bs)) [ inl p ↦ p | inr p ↦ absurd (h (ap (λ (b : Booking). b.stands) (get_or_past bs k none p))) ]

pub record Same (a b : Booking) : Type 0 where
  pub same_legs : a.legs ≡ b.legs
  pub same_class : a.class ≡ b.class
  pub same_seats : a.seats ≡ b.seats

pub same_refl : (b : Booking) → Same b b
same_refl b = record { same_legs = refl; same_class = refl; same_seats = refl }

pub same_trans : (a b c : Booking) → Same a b → Same b c → Same a c
same_trans a b c p q = record { same_legs = p.same_legs ∙ q.same_legs; same_class = p.same_class ∙ q.same_class; same_seats = p.same_seats ∙ q.same_seats }

pub same_stand : (b : Booking) (s u : ℕ) → Same (stand b s u) b
same_stand b s u = record { same_legs = refl; same_class = refl; same_seats = refl }
