-- No hold outlives its time or the beginning of its journey.
use Rattle.std.proofs.Common.{◌≡◌, ℕ, zero, suc, ◌+◌, ◌<◌, ◌≤◌, Bool, true, false, not, ◌||◌, eqb, ltb, List, [], ◌∷◌, ◌++◌, length, set, sym, refl, ap, subst, inl, inr, arith}
use Rattle.std.proofs.lemmas.Bool.{cases_lt, eqb-true, lt-ltb, ltb-true, and_from}
use Rattle.std.proofs.lemmas.List.{get_or_append_left, get_or_past}
use Rattle.std.proofs.lemmas.Bool.Decides.{nat_tests}
use Rattle.meaning.specs.Lines.{pick, Leg, leg, no_leg}
use Rattle.meaning.specs.House.{Booking, House, stand, serve, first_leg, over, run_out}
use Rattle.meaning.specs.Calls.{Call, opens, files, books, pays, cancels, limits_to, ticks, free, price_of, booking, leg_is, garbled, Limits, turned, changed, with_limits}
use Rattle.meaning.specs.Statements.{InTime, none_over, none_left}
use Rattle.meaning.proofs.Serve.{none, at, serve_keeps}
use Rattle.meaning.proofs.Each.{set_all, push_all, at_run_out}
use Rattle.meaning.proofs.Reach.{reached}
use Rattle.meaning.proofs.Told.{books_ok}

abbrev Ahead : ℕ → List Leg → Booking → Type 0
Ahead t ls b = b.stands < 2 → t < (leg ls (first_leg b.legs)).leaves

pub record Good (t : ℕ) (ls : List Leg) (b : Booking) : Type 0 where
  holds : b.stands ≡ 1 → t < b.until
  ahead : Ahead t ls b

abbrev AllGood : ℕ → List Leg → List Booking → Type 0
AllGood t ls bs = (k : ℕ) → Good t ls (at bs k)

-- what is paid or gone
past : (t : ℕ) (ls : List Leg) (b : Booking) → 2 ≤ b.stands → Good t ls b
past t ls b h = record { holds = λ e. absurd (omega arith); ahead = λ e. absurd (omega arith) }

good_serve : (t : ℕ) (ls : List Leg) (u n : ℕ) (bs : List Booking) → t < u → AllGood t ls bs → AllGood t ls (serve n ls bs u)
good_serve t ls u n bs h = serve_keeps ls u (AllGood t ls) (λ cs m x p. set_all (Good t ls) cs m (stand (at cs m) 1 u) (past t ls none (omega arith)) p
    (record { holds = λ _. h; ahead = λ _. (p m).ahead (omega (arith, x.1)) })) n bs

good_opens : (t : ℕ) (ls : List Leg) (g : Leg) (b : Booking) → Good t ls b → Good t (ls ++ (g ∷ [])) b
good_opens t ls g b p = record { holds = p.holds; ahead = λ e. go (p.ahead e) }
  where
    go : t < (leg ls (first_leg b.legs)).leaves → t < (leg (ls ++ (g ∷ [])) (first_leg b.legs)).leaves
    go h = elim (cases_lt (first_leg b.legs) (length ls)) [
      | inl q ↦ subst (λ (x : Leg). t < x.leaves) (sym (get_or_append_left ls (g ∷ []) no_leg (first_leg b.legs) q)) h
      | inr q ↦ absurd (omega (arith, ap (λ (x : Leg). x.leaves) (get_or_past ls (first_leg b.legs) no_leg q)))
    ]

leaves_set : (ls : List Leg) (i : ℕ) (xs : List ℕ) (j : ℕ) → (leg (set ls i (with_limits (leg ls i) xs)) j).leaves ≡ (leg ls j).leaves
leaves_set [] i xs j = refl
leaves_set (g ∷ ls) zero xs zero = refl
leaves_set (g ∷ ls) zero xs (suc j) = refl
leaves_set (g ∷ ls) (suc i) xs zero = refl
leaves_set (g ∷ ls) (suc i) xs (suc j) = leaves_set ls i xs j

good_limits_to : (t : ℕ) (ls : List Leg) (i : ℕ) (xs : List ℕ) (b : Booking) → Good t ls b → Good t (set ls i (with_limits (leg ls i) xs)) b
good_limits_to t ls i xs b p = record { holds = p.holds; ahead = λ e. subst (λ v. t < v) (sym (leaves_set ls i xs (first_leg b.legs))) (p.ahead e) }

good_over : (t : ℕ) (ls : List Leg) (b : Booking) → over t ls b ≡ false → Good t ls b
good_over t ls b e =
    record { holds = λ z. grind (arith, nat_tests); ahead = λ z. grind (arith, nat_tests) }

good_run_out : (t : ℕ) (ls : List Leg) (bs : List Booking) → AllGood t ls (run_out t ls bs)
good_run_out t ls bs k = subst (Good t ls) (sym (at_run_out t ls bs k)) (go (over t ls (at bs k)) refl)
  where
    go : (v : Bool) → over t ls (at bs k) ≡ v → Good t ls (pick v (stand (at bs k) 3 0) (at bs k))
    go true e = past t ls (stand (at bs k) 3 0) (omega arith)
    go false e = good_over t ls (at bs k) e

pub record Timely (h : House) : Type 0 where
  some : 0 < h.hold_for
  good : AllGood h.now h.legs h.bookings

step : (l : Limits) (h : House) (x : Call) → turned l h x ≡ 0 → Timely h → Timely (changed h x)
unfolding changed
step l h (opens a b c d ls) t p = record { some = p.some; good = λ k. good_opens h.now h.legs _ (at h.bookings k) (p.good k) }
step l h (files a b c m q) t p = record { some = p.some; good = p.good }
step l h (books c m is) t p =
    record {
      some = p.some;
      good = good_serve h.now h.legs (h.now + h.hold_for) _ _ (omega (arith, p.some)) (push_all (Good h.now h.legs) h.bookings _ (past h.now h.legs none (omega arith)) p.good
          (record { holds = λ e. absurd (omega arith); ahead = λ _. (books_ok l h c m is t).ahead }));
    }
step l h (pays j) t p = record { some = p.some; good = set_all (Good h.now h.legs) h.bookings j _ (past h.now h.legs none (omega arith)) p.good (past h.now h.legs _ (omega arith)) }
step l h (cancels j) t p =
    record {
      some = p.some;
      good = good_serve h.now h.legs (h.now + h.hold_for) _ _ (omega (arith, p.some))
          (set_all (Good h.now h.legs) h.bookings j _ (past h.now h.legs none (omega arith)) p.good (past h.now h.legs _ (omega arith)));
    }
step l h (limits_to i xs) t p =
    record {
      some = p.some;
      good = good_serve h.now (set h.legs i (with_limits (leg h.legs i) xs)) (h.now + h.hold_for) _ _ (omega (arith, p.some))
          (λ k. good_limits_to h.now h.legs i xs (at h.bookings k) (p.good k));
    }
step l h (ticks m) t p =
    record { some = p.some; good = good_serve (h.now + m) h.legs ((h.now + m) + h.hold_for) _ _ (omega (arith, p.some)) (good_run_out (h.now + m) h.legs h.bookings) }
step l h (free i c) t p = p
step l h (price_of c is) t p = p
step l h (booking j) t p = p
step l h (leg_is i) t p = p
step l h (garbled m) t p = p

or_not : (a b : Bool) → (a ≡ true → b ≡ true) → (not a || b) ≡ true
or_not true b f = f refl
or_not false b f = refl

over_from : (t : ℕ) (ls : List Leg) (bs : List Booking) → AllGood t ls bs → none_over bs t ≡ true
unfolding none_over
over_from t ls [] f = refl
over_from t ls (b ∷ bs) f = and_from _ _ (or_not (eqb b.stands 1) _ (λ e. lt-ltb _ _ ((f 0).holds (eqb-true _ _ e)))) (over_from t ls bs (λ k. f (suc k)))

left_from : (t : ℕ) (ls : List Leg) (bs : List Booking) → AllGood t ls bs → none_left ls bs t ≡ true
unfolding none_left
left_from t ls [] f = refl
left_from t ls (b ∷ bs) f = and_from _ _ (or_not (ltb b.stands 2) _ (λ e. lt-ltb _ _ ((f 0).ahead (ltb-true _ _ e)))) (left_from t ls bs (λ k. f (suc k)))

pub in_time : InTime
unfolding InTime
in_time l h g r =
    let p = reached l Timely (step l) (record { some = g.1; good = λ k. past 0 [] none (omega arith) }) h r in
    (over_from h.now h.legs h.bookings p.good, left_from h.now h.legs h.bookings p.good)
