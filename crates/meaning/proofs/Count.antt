-- What is taken on a leg changes only by bookings of that leg.
use Rattle.std.proofs.Common.{◌≡◌, ℕ, suc, ◌+◌, Bool, true, false, ◌&&◌, ◌||◌, eqb, leb, ◌⊎◌, List, [], ◌∷◌, sym, refl, ap, ◌∙◌, subst, inl, inr, arith}
use Rattle.std.proofs.lemmas.Bool.{cases_Bool}
use Rattle.meaning.specs.Lines.{pick, Leg}
use Rattle.meaning.specs.House.{Booking, House, goes, taken, stand, serve, over, run_out}
use Rattle.meaning.specs.Calls.{Call, opens, files, books, pays, cancels, limits_to, ticks, free, price_of, booking, leg_is, garbled, Limits, changed, the_booking}
use Rattle.meaning.specs.Statements.{Untouched}
use Rattle.meaning.proofs.Serve.{at}
use Rattle.meaning.proofs.Each.{set_each, push_each, at_run_out, serve_each, Same, same_refl, same_trans, same_stand}
use Rattle.meaning.proofs.Reach.{after_is}
use Rattle.meaning.proofs.Room.{counts}

taken_counts : (cs bs : List Booking) (i c : ℕ) → ((k : ℕ) → counts (at cs k) i c ≡ counts (at bs k) i c) → taken cs i c ≡ taken bs i c
unfolding taken
taken_counts [] [] i c f = refl
taken_counts [] (b ∷ bs) i c f = omega (arith, f 0, taken_counts [] bs i c (λ k. f (suc k)))
taken_counts (a ∷ cs) [] i c f = omega (arith, f 0, taken_counts cs [] i c (λ k. f (suc k)))
taken_counts (a ∷ cs) (b ∷ bs) i c f = omega (arith, f 0, taken_counts cs bs i c (λ k. f (suc k)))

-- the same journey, class and seats; or new
abbrev Like : Booking → Booking → Type 0
Like a b = Same a b ⊎ (b.stands ≡ 3)

like_refl : (b : Booking) → Like b b
like_refl b = inl (same_refl b)

like_from : (a b c : Booking) → Same a b → Like b c → Like a c
like_from a b c s (inl t) = inl (same_trans a b c s t)
like_from a b c s (inr e) = inr e

like_serve : (ls : List Leg) (u n : ℕ) (bs : List Booking) (k : ℕ) → Same (at (serve n ls bs u) k) (at bs k)
like_serve ls u = serve_each Same same_refl same_trans ls u (λ b z. same_stand b 1 u)

same_run_out : (t : ℕ) (ls : List Leg) (bs : List Booking) (k : ℕ) → Same (at (run_out t ls bs) k) (at bs k)
same_run_out t ls bs k = subst (λ b. Same b (at bs k)) (sym (at_run_out t ls bs k)) (go (over t ls (at bs k)))
  where
    go : (v : Bool) → Same (pick v (stand (at bs k) 3 0) (at bs k)) (at bs k)
    go true = same_stand (at bs k) 3 0
    go false = same_refl (at bs k)

pub step : (l : Limits) (h : House) (x : Call) (k : ℕ) → Like (the_booking (changed h x) k) (the_booking h k)
unfolding changed
step l h (opens a b c d ls) k = like_refl _
step l h (files a b c m p) k = like_refl _
step l h (books c m is) k = like_from _ _ _ (like_serve _ _ _ _ k) (push_each Like like_refl h.bookings _ (inr refl) k)
step l h (pays j) k = inl (set_each Same same_refl h.bookings j _ (record { same_legs = refl; same_class = refl; same_seats = refl }) k)
step l h (cancels j) k = like_from _ _ _ (like_serve _ _ _ _ k) (inl (set_each Same same_refl h.bookings j _ (same_stand _ 3 0) k))
step l h (limits_to i ls) k = inl (like_serve _ _ _ _ k)
step l h (ticks m) k = inl (same_trans _ _ _ (like_serve _ _ _ _ k) (same_run_out (h.now + m) h.legs h.bookings k))
step l h (free i c) k = like_refl _
step l h (price_of c is) k = like_refl _
step l h (booking j) k = like_refl _
step l h (leg_is i) k = like_refl _
step l h (garbled m) k = like_refl _

counts_off : (b : Booking) (i c : ℕ) → goes b.legs i ≡ false → counts b i c ≡ 0
counts_off b i c e = go (eqb b.stands 1 || eqb b.stands 2) (goes b.legs i) e
  where
    go : (x g : Bool) → g ≡ false → pick (x && (g && leb c b.class)) b.seats 0 ≡ 0
    go true true f = let z : ◌≡◌ {A = ℕ} 0 1 = cc in absurd (omega arith)
    go true false f = refl
    go false g f = refl

counts_gone : (b : Booking) (i c : ℕ) → b.stands ≡ 3 → counts b i c ≡ 0
counts_gone b i c e = ap (λ (s : ℕ). pick ((eqb s 1 || eqb s 2) && (goes b.legs i && leb c b.class)) b.seats 0) e

counts_like : (a b : Booking) (i c : ℕ) → Like a b → (goes a.legs i ≡ true → a.stands ≡ b.stands) → counts a i c ≡ counts b i c
counts_like a b i c (inl s) f = elim (cases_Bool (goes a.legs i)) [
  | inl g ↦ (λ d. pick ((eqb (f g d) 1 || eqb (f g d) 2) && (goes (s.same_legs d) i && leb c (s.same_class d))) (s.same_seats d) 0)
  | inr g ↦ counts_off a i c g ∙ sym (counts_off b i c (ap (λ l. goes l i) (sym s.same_legs) ∙ g))
]
counts_like a b i c (inr e) f = elim (cases_Bool (goes a.legs i)) [
  | inl g ↦ counts_gone a i c (f g ∙ e) ∙ sym (counts_gone b i c e)
  | inr g ↦ counts_off a i c g ∙ sym (counts_gone b i c e)
]

pub untouched : Untouched
unfolding Untouched
untouched l h x i c _ f =
    taken_counts _ _ i c (λ k. counts_like _ _ i c (after_is l h x (λ g. Like (the_booking g k) (the_booking h k)) (like_refl _) (λ t. step l h x k)) (f k))
