-- One serving after the other: what each finds, and that all of them together are the meaning's `serve`.
use Rattle.std.proofs.Common.{◌≡◌, ℕ, zero, suc, ◌+◌, ◌-◌, ◌<◌, Bool, true, false, ◌&&◌, eqb, List, [], ◌∷◌, ◌++◌, length, set, Some, None, Option, sym, refl, ap, ◌∙◌, subst, arith}
use Rattle.std.proofs.lemmas.Bool.{eqb-true, and_parts}
use Rattle.std.proofs.lemmas.List.{append_assoc}
use Rattle.meaning.specs.Lines.{pick, Leg}
use Rattle.meaning.specs.House.{Booking, House, Served, nobody, served, room, serve_one, serve_on, serve, stand, with_bookings}
use Rattle.meaning.specs.Calls.{the_booking}
use Rattle.meaning.proofs.Serve as serving
use Rattle.meaning.proofs.Serve.{at, waiting, waiting_held, waiting_le}
use Rattle.meaning.proofs.Waits.{could_from}
use Rattle.store.specs.declared.Memory.{Memory}
use Rattle.store.specs.Whole.{house, Lent, set_booking}
use Rattle.store.proofs.Lents.{lent_none, lent_both}
use Rattle.seating.specs.Serving.{NoneBelow, NoneCould, OneServing, First, Found, all_served, held}

module _ (ls : List Leg) (all : List Booking) (u : ℕ) where
  abbrev can : Booking → Bool
  can b = eqb b.stands 0 && room ls all b.legs b.class b.seats

  one_none : (bs don : List Booking) → ((j : ℕ) → j < length bs → can (at bs j) ≡ false) → serve_one ls all bs don u ≡ nobody
  unfolding serve_one
  one_none [] don f = refl
  one_none (b ∷ bs) don f =
      ap (λ (t : Bool). pick t (served (don ++ (stand b 1 u ∷ bs))) (serve_one ls all bs (don ++ (b ∷ [])) u)) (f 0 (omega arith))
      ∙ one_none bs (don ++ (b ∷ [])) (λ j h. f (suc j) (omega arith))

  one_first : (bs don : List Booking) (k : ℕ) → k < length bs → can (at bs k) ≡ true → ((j : ℕ) → j < k → can (at bs j) ≡ false) → serve_one ls all bs don u ≡ served (don ++ set bs k (stand (at bs k) 1 u))
  unfolding serve_one
  one_first [] don k h e f = absurd (omega arith)
  one_first (b ∷ bs) don zero h e f = ap (λ (t : Bool). pick t (served (don ++ (stand b 1 u ∷ bs))) (serve_one ls all bs (don ++ (b ∷ [])) u)) e
  one_first (b ∷ bs) don (suc k) h e f =
      ap (λ (t : Bool). pick t (served (don ++ (stand b 1 u ∷ bs))) (serve_one ls all bs (don ++ (b ∷ [])) u)) (f 0 (omega arith))
      ∙ one_first bs (don ++ (b ∷ [])) k (omega arith) e (λ j q. f (suc j) (omega arith))
      ∙ ap served (append_assoc don (b ∷ []) (set bs k (stand (at bs k) 1 u)))

-- what is found is what one serving serves
pub found_one : (h : House) (r : Option ℕ) → Found h r → OneServing h r
found_one h None f u = one_none h.legs h.bookings u h.bookings [] f
found_one h (Some k) f u = one_first h.legs h.bookings u h.bookings [] k f.there f.can f.before

pub none_served : (h : House) (n u : ℕ) → NoneBelow h (length h.bookings) → serve n h.legs h.bookings u ≡ h.bookings
unfolding serve serve_on
none_served h zero u f = refl
none_served h (suc n) u f = ap (λ (s : Served). serve_on s h.bookings (λ cs. serve n h.legs cs u)) (found_one h None f u)

pub first_served : (h : House) (n u k : ℕ) → First h k → serve (suc n) h.legs h.bookings u ≡ serve n h.legs (held h u k) u
unfolding serve serve_on
first_served h n u k f = ap (λ (s : Served). serve_on s h.bookings (λ cs. serve n h.legs cs u)) (found_one h (Some k) f u)

-- each serving leaves one fewer waiting
pub fewer_wait : (h : House) (k u : ℕ) → First h k → waiting h.bookings ≡ suc (waiting (held h u k))
fewer_wait h k u f = sym (waiting_held h.legs u h.bookings k f.there (eqb-true _ _ (and_parts (eqb (the_booking h k).stands 0) _ f.can).0))

-- memory m on the way of being served, at n: what is left to serve is the same
pub record OnTheWay (m n : Memory) (u : ℕ) : Type 0 where
  pub lent : Lent m n
  pub same : house n ≡ with_bookings (house m) (house n).bookings
  pub left : (x : ℕ) → serve (x + waiting (house m).bookings) (house m).legs (house m).bookings u ≡ serve (x + waiting (house n).bookings) (house n).legs (house n).bookings u

pub way_begins : (m : Memory) (u : ℕ) → OnTheWay m m u
way_begins m u = record { lent = lent_none m; same = refl; left = λ x. refl }

pub way_on : (m n p : Memory) (u k : ℕ) → OnTheWay m n u → First (house n) k → house p ≡ set_booking (house n) k (stand (the_booking (house n) k) 1 u) → Lent n p → OnTheWay m p u
way_on m n p u k w f e l =
    let left : (x : ℕ) → serve (x + waiting (house n).bookings) (house n).legs (house n).bookings u ≡ serve (x + waiting (house p).bookings) (house p).legs (house p).bookings u =
    λ x. let y : x + waiting (house n).bookings ≡ suc (x + waiting (held (house n) u k)) = omega (arith, fewer_wait (house n) k u f) in
    ap (λ (v : ℕ). serve v (house n).legs (house n).bookings u) y ∙ first_served (house n) (x + waiting (held (house n) u k)) u k f
    ∙ ap (λ (g : House). serve (x + waiting g.bookings) g.legs g.bookings u) (sym e) in
    record {
      lent = lent_both m n p w.lent l;
      same = e ∙ ap (λ (g : House). with_bookings g (held (house n) u k)) w.same ∙ ap (λ (v : List Booking). with_bookings (house m) v) (sym (ap (λ (g : House). g.bookings) e));
      left = λ x. w.left x ∙ left x;
    }

pub way_ends : (m n : Memory) (u : ℕ) → OnTheWay m n u → NoneBelow (house n) (length (house n).bookings) → house n ≡ all_served (house m) u
way_ends m n u w f =
    let bs : List Booking = (house m).bookings in
    let y : (length bs - waiting bs) + waiting bs ≡ length bs = omega (arith, waiting_le bs) in
    w.same ∙ ap (λ (v : List Booking). with_bookings (house m) v)
    (sym (ap (λ (v : ℕ). serve v (house m).legs bs u) (sym y) ∙ w.left (length bs - waiting bs) ∙ none_served (house n) _ u f))

-- after all servings nobody waits for what is free
pub served_idle : (h g : House) (u : ℕ) → g ≡ all_served h u → NoneCould g
served_idle h g u e = subst NoneCould (sym e) (could_from (all_served h u) (all_served h u).bookings (serving.all_served h.legs u h.bookings))
