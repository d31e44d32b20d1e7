-- What is said to be free can be had.
use Rattle.std.proofs.Common.{◌≡◌, ℕ, zero, suc, ◌+◌, ◌<◌, ◌≤◌, Bool, true, false, ◌≢◌, List, [], ◌∷◌, ◌++◌, length, sym, refl, ap, ◌∙◌, subst, inl, inr, arith}
use Rattle.std.proofs.lemmas.Bool.{cases_eq, cases_Bool, both_ways}
use Rattle.std.proofs.lemmas.List.{get_or_push, get_or_append_left, get_or-set_same, length_push}
use Rattle.meaning.specs.Lines.{pick, Leg}
use Rattle.meaning.specs.House.{Booking, House, taken, room, stand, serve}
use Rattle.meaning.specs.Calls.{books, changed, the_booking, most}
use Rattle.meaning.specs.Statements.{FreeIsFree}
use Rattle.meaning.proofs.Serve.{none, at, fits, Idle, Next, held, serve_keeps, serve_stays, serve_next}
use Rattle.meaning.proofs.Each.{set_each, push_all}
use Rattle.meaning.proofs.Reach.{after_taken}
use Rattle.meaning.proofs.Room.{taken_push, room_less}
use Rattle.meaning.proofs.Told.{books_ok}
use Rattle.meaning.proofs.Waits.{idle, not-true}

pub most_tells : (m n : ℕ) (ls : List Leg) (bs : List Booking) (i c : ℕ) → 1 ≤ n → n ≤ most m ls bs i c → room ls bs (i ∷ []) c n ≡ true
unfolding most
most_tells zero n ls bs i c p h = absurd (omega arith)
most_tells (suc m) n ls bs i c p h = go (room ls bs (i ∷ []) c (suc m)) refl h (most_tells m n ls bs i c p)
  where
    go : (t : Bool) → room ls bs (i ∷ []) c (suc m) ≡ t → n ≤ pick t (suc m) (most m ls bs i c) → (n ≤ most m ls bs i c → room ls bs (i ∷ []) c n ≡ true) → room ls bs (i ∷ []) c n ≡ true
    go true e k r = room_less ls bs bs (i ∷ []) c n (suc m) k (λ _ _. omega arith) e
    go false e k r = r k

pub most_from : (m n : ℕ) (ls : List Leg) (bs : List Booking) (i c : ℕ) → n ≤ m → room ls bs (i ∷ []) c n ≡ true → n ≤ most m ls bs i c
unfolding most
most_from zero n ls bs i c p e = p
most_from (suc m) n ls bs i c p e = go (room ls bs (i ∷ []) c (suc m)) refl (λ q. most_from m n ls bs i c q e)
  where
    go : (t : Bool) → room ls bs (i ∷ []) c (suc m) ≡ t → (n ≤ m → n ≤ most m ls bs i c) → n ≤ pick t (suc m) (most m ls bs i c)
    go true f r = p
    go false f r = elim (cases_eq n (suc m)) [ inl q ↦ absurd (both_ways _ f (subst (λ v. room ls bs (i ∷ []) c v ≡ true) q e)) | inr q ↦ (let w : n ≢ suc m = q in r (omega arith)) ]

module _ (ls : List Leg) (bs : List Booking) (b : Booking) (u : ℕ) (z : b.stands ≡ 0) (still : (i j : ℕ) → taken (bs ++ (b ∷ [])) i j ≡ taken bs i j) (f : Idle ls bs bs) where
  abbrev pub new : List Booking
  new = bs ++ (b ∷ [])

  abbrev last_is : at new (length bs) ≡ b
  last_is = get_or_push bs b none (length bs) refl

  there_too : (d : Booking) → fits ls bs d ≡ true → fits ls new d ≡ true
  there_too d e = room_less ls bs new d.legs d.class d.seats d.seats (omega arith) (λ i j. omega (arith, still i j)) e

  here_too : (d : Booking) → fits ls new d ≡ true → fits ls bs d ≡ true
  here_too d e = room_less ls new bs d.legs d.class d.seats d.seats (omega arith) (λ i j. omega (arith, still i j)) e

  pub waits_still : (n : ℕ) → fits ls bs b ≡ false → (at (serve n ls new u) (length bs)).stands ≡ 0
  waits_still n e =
      let k : Idle ls new new = push_all (λ d. d.stands ≡ 0 → fits ls new d ≡ false) bs b (λ q. absurd (omega arith)) (λ j q. not-true _ _ (f j q) (here_too (at bs j))) (λ q. not-true _ _ e (here_too b)) in
      ap (λ (v : List Booking). (at v (length bs)).stands) (serve_stays ls u n new k) ∙ ap (λ (d : Booking). d.stands) last_is ∙ z

  next_is : (m : ℕ) → Next ls new new m → m ≡ length bs
  next_is m (h, q, r, p) = elim (cases_eq m (length bs)) [ inl e ↦ e | inr e ↦ absurd (other e) ]
    where
      other : m ≢ length bs → ⊥
      other e =
          let s = get_or_append_left bs (b ∷ []) none m (omega (arith, length_push bs b)) in
          both_ways _ (f m (ap (λ (d : Booking). d.stands) (sym s) ∙ q)) (here_too (at bs m) (subst (λ d. fits ls new d ≡ true) s r))

  is_held : (n : ℕ) → fits ls bs b ≡ true → (at (serve (suc n) ls new u) (length bs)).stands ≡ 1
  is_held n e =
      let o = serve_next ls u n new (length bs) (ap (λ (d : Booking). d.stands) last_is ∙ z) (subst (λ d. fits ls new d ≡ true) (sym last_is) (there_too b e)) in
      let w : length bs < length new = omega (arith, length_push bs b) in
      let start : (at (held ls u new o.0) (length bs)).stands ≡ 1 =
      subst (λ m. (at (held ls u new m) (length bs)).stands ≡ 1) (sym (next_is o.0 o.1)) (ap (λ (d : Booking). d.stands) (get_or-set_same new (length bs) (stand (at new (length bs)) 1 u) none w)) in
      ap (λ (v : List Booking). (at v (length bs)).stands) o.2
      ∙ serve_keeps ls u (λ cs. (at cs (length bs)).stands ≡ 1) (λ cs m x p. set_each (λ a d. d.stands ≡ 1 → a.stands ≡ 1) (λ _ q. q) cs m (stand (at cs m) 1 u) (λ _. refl) (length bs) p) n (held ls u new o.0) start

abbrev asked : ℕ → ℕ → ℕ → Booking
asked i c n = record { legs = i ∷ []; class = c; seats = n; stands = 0; until = 0; paid = 0 }

abbrev got : House → ℕ → ℕ → ℕ → ℕ
got h i c n = (the_booking (changed h (books c n (i ∷ []))) (length h.bookings)).stands

module _ (h : House) (f : Idle h.legs h.bookings h.bookings) (i c n : ℕ) where
  still_taken : (j k : ℕ) → taken (h.bookings ++ (asked i c n ∷ [])) j k ≡ taken h.bookings j k
  still_taken j k = omega (arith, taken_push h.bookings (asked i c n) j k)

  got_held : room h.legs h.bookings (i ∷ []) c n ≡ true → got h i c n ≡ 1
  unfolding changed
  got_held e =
      let s : length (h.bookings ++ (asked i c n ∷ [])) ≡ suc (length h.bookings) = omega (arith, length_push h.bookings (asked i c n)) in
      subst (λ v. (at (serve v h.legs (h.bookings ++ (asked i c n ∷ [])) (h.now + h.hold_for)) (length h.bookings)).stands ≡ 1) (sym s)
      (is_held h.legs h.bookings (asked i c n) (h.now + h.hold_for) refl still_taken f (length h.bookings) e)

  got_waits : room h.legs h.bookings (i ∷ []) c n ≡ false → got h i c n ≡ 0
  unfolding changed
  got_waits e = waits_still h.legs h.bookings (asked i c n) (h.now + h.hold_for) refl still_taken f (length (h.bookings ++ (asked i c n ∷ []))) e

pub free_is_free : FreeIsFree
unfolding FreeIsFree
free_is_free l h i c n r p t =
    let s = ap (λ (g : House). (the_booking g (length h.bookings)).stands) (after_taken l h (books c n (i ∷ [])) t) in (
      λ q. s ∙ got_held h (idle l h r) i c n (most_tells 1000 n h.legs h.bookings i c (books_ok l h c n (i ∷ []) t).some q),
      λ q. s ∙ got_waits h (idle l h r) i c n (elim (cases_Bool (room h.legs h.bookings (i ∷ []) c n)) [ inl e ↦ absurd (omega (arith, most_from 1000 n h.legs h.bookings i c (omega arith) e)) | inr e ↦ e ]),
    )
