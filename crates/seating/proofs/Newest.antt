-- Where nobody waited for what is free, one more that came is the only one that can be served.
use Rattle.std.proofs.Common.{◌≡◌, ℕ, zero, suc, ◌+◌, ◌-◌, ◌≤◌, Bool, true, false, ◌&&◌, eqb, ◌≢◌, List, [], ◌∷◌, ◌++◌, length, take, sym, refl, ap, ◌∙◌, subst, inl, inr, arith}
use Rattle.std.proofs.lemmas.Bool.{cases_eq, and_parts, and_from, both_ways, eq-eqb, eqb-true, or_parts}
use Rattle.std.proofs.lemmas.List.{get_or_push, get_or-set_same, get_or-set_other, get_or-take, length_push, length-set, take_all, take-append-le, take_more}
use Rattle.meaning.specs.Lines.{pick}
use Rattle.meaning.specs.House.{Booking, House, taken, room, serve, stand, with_bookings}
use Rattle.meaning.specs.Calls.{the_booking}
use Rattle.meaning.specs.Statements.{some_could}
use Rattle.meaning.proofs.Serve.{none, at, Idle}
use Rattle.meaning.proofs.Room.{counts_waits, taken_push, taken_set, room_less}
use Rattle.meaning.proofs.Waits.{not-true}
use Rattle.records.specs.declared.Booking as code
use Rattle.records.specs.Means.{booking_means}
use Rattle.store.specs.Whole.{plus_booking}
use Rattle.seating.specs.Serving.{First, Newcomer, NoneBelow, NoneCould, all_served, before_last, could, fits, held, last, newest_held}
use Rattle.seating.proofs.Turns.{first_served, none_served}

and_if : (s r : Bool) → (s ≡ true → r ≡ false) → (s && r) ≡ false
and_if true r f = f refl
and_if false r f = refl

and_then : (s r : Bool) → (s && r) ≡ false → s ≡ true → r ≡ false
and_then true r e f = e
and_then false r e f = absurd (both_ways false refl f)

-- that nobody waits for what is free, booking by booking
pub nobody_tells : (h : House) (bs : List Booking) → some_could h bs ≡ false → Idle h.legs h.bookings bs
unfolding some_could
nobody_tells h [] e = λ j z. absurd (omega arith)
nobody_tells h (b ∷ bs) e = go (or_parts _ _ e) (nobody_tells h bs)
  where
    go : (fits h b ≡ false) × (some_could h bs ≡ false) → (some_could h bs ≡ false → Idle h.legs h.bookings bs) → Idle h.legs h.bookings (b ∷ bs)
    go p r = elim [ zero ↦ (λ z. and_then _ _ p.0 (eq-eqb _ _ z)) | suc j ↦ (λ z. r p.1 j z) ]

-- who can't be held can't where no less is taken
still_not : (h : House) (ds : List Booking) (b : Booking) → ((i j : ℕ) → taken h.bookings i j ≤ taken ds i j) → fits h b ≡ false → fits (with_bookings h ds) b ≡ false
still_not h ds b t e =
    not-true _ _ e (λ f. let p = and_parts (eqb b.stands 0) _ f in and_from _ _ p.0 (room_less h.legs ds h.bookings b.legs b.class b.seats b.seats (omega arith) t p.1))

module _ (h : House) (f : Newcomer h) where
  abbrev newest : Booking
  newest = the_booking h (last h)

  abbrev others : List Booking
  others = take (last h) h.bookings

  ends : last h + 1 ≡ length h.bookings
  ends = omega (arith, f.some)

  parts : h.bookings ≡ others ++ (newest ∷ [])
  parts = sym (take_all (last h + 1) h.bookings (omega (arith, ends))) ∙ take_more h.bookings (last h) none (omega (arith, ends))

  -- one that waits takes nothing
  same_taken : (i j : ℕ) → taken h.bookings i j ≡ taken others i j
  same_taken i j = omega (arith, ap (λ (v : List Booking). taken v i j) parts, taken_push others newest i j, counts_waits newest i j f.waits)

  others_wait : NoneBelow h (last h)
  others_wait j q =
      let s : at others j ≡ the_booking h j = get_or-take (last h) h.bookings j none q in
      let w : fits (before_last h) (the_booking h j) ≡ false =
      subst (λ b. fits (before_last h) b ≡ false) s (and_if _ _ (λ z. nobody_tells (before_last h) others f.idle j (eqb-true _ _ z))) in
      still_not (before_last h) h.bookings (the_booking h j) (λ i k. omega (arith, same_taken i k)) w

  waits_on : (n u : ℕ) → could h (last h) ≡ false → serve n h.legs h.bookings u ≡ h.bookings
  waits_on n u e = none_served h n u (λ j q. elim (cases_eq j (last h)) [ inl s ↦ subst (λ v. could h v ≡ false) (sym s) e | inr s ↦ (let d : j ≢ last h = s in others_wait j (omega (arith, ends))) ])

  module _ (u : ℕ) where
    abbrev then : House
    then = with_bookings h (held h u (last h))

    more_taken : (i j : ℕ) → taken h.bookings i j ≤ taken (held h u (last h)) i j
    more_taken i j = omega (arith, taken_set h.bookings (last h) (stand newest 1 u) i j (omega (arith, ends)), counts_waits newest i j f.waits)

    idle_then : NoneBelow then (length (held h u (last h)))
    idle_then j q = elim (cases_eq j (last h)) [
      | inl s ↦ subst (λ v. could then v ≡ false) (sym s) (ap (λ (b : Booking). fits then b) (get_or-set_same h.bookings (last h) (stand newest 1 u) none (omega (arith, ends))))
      | inr s ↦ (let d : j ≢ last h = s in
          ap (λ (b : Booking). fits then b) (get_or-set_other h.bookings (last h) j (stand newest 1 u) none d)
          ∙ still_not h (held h u (last h)) (the_booking h j) more_taken (others_wait j (omega (arith, ends, length-set h.bookings (last h) (stand newest 1 u)))))
    ]

    held_alone : could h (last h) ≡ true → serve (length h.bookings) h.legs h.bookings u ≡ held h u (last h)
    held_alone e =
        let first : First h (last h) = record { there = omega (arith, ends); can = e; before = others_wait } in
        let s : length h.bookings ≡ suc (last h) = omega (arith, ends) in
        ap (λ (n : ℕ). serve n h.legs h.bookings u) s ∙ first_served h (last h) u (last h) first ∙ none_served then (last h) u idle_then

  -- whether there is room for the last one, as memory has it, is whether it could be held
  pub newest_fits : (b : code.Booking) (k n : ℕ) (r : Bool) → k ≡ last h → booking_means b ≡ the_booking h k → r ≡ room h.legs h.bookings (take (b.count - 0) b.legs) b.class n → n ≡ b.seats → r ≡ could h (last h)
  newest_fits b k n r e m q seats =
      let all : b.count - 0 ≡ b.count = omega arith in
      let is : booking_means b ≡ newest = m ∙ ap (λ (v : ℕ). the_booking h v) e in
      let waits : eqb b.stands 0 ≡ true = eq-eqb b.stands 0 (ap (λ (v : Booking). v.stands) is ∙ f.waits) in
      q ∙ ap (λ (v : ℕ). room h.legs h.bookings (take v b.legs) b.class n) all ∙ ap (λ (v : ℕ). room h.legs h.bookings (take b.count b.legs) b.class v) seats
      ∙ ap (λ (t : Bool). t && room h.legs h.bookings (take b.count b.legs) b.class b.seats) (sym waits) ∙ ap (λ (v : Booking). fits h v) is

  -- THE LEMMA: serving all is holding the last one if there is room for it, and nothing else
  pub newest_alone : (u : ℕ) (g : House) (r : Bool) → could h (last h) ≡ r → g ≡ newest_held h u r → (g ≡ all_served h u) × ((the_booking g (last h)).stands ≡ pick r 1 0)
  newest_alone u g true e s = (
    s ∙ ap (λ (v : List Booking). with_bookings h v) (sym (held_alone u e)),
    ap (λ (v : House). (the_booking v (last h)).stands) s ∙ ap (λ (b : Booking). b.stands) (get_or-set_same h.bookings (last h) (stand newest 1 u) none (omega (arith, ends))),
  )
  newest_alone u g false e s = (
    s ∙ ap (λ (v : List Booking). with_bookings h v) (sym (waits_on (length h.bookings) u e)),
    ap (λ (v : House). (the_booking v (last h)).stands) s ∙ f.waits,
  )

-- a booking that comes where nobody waits for what is free, and waits, is such a newcomer
pub newcomer : (h : House) (b : Booking) → NoneCould h → b.stands ≡ 0 → Newcomer (plus_booking h b)
newcomer h b e z =
    let n : length h.bookings ≡ last (plus_booking h b) = omega (arith, length_push h.bookings b) in
    let s : take (last (plus_booking h b)) (h.bookings ++ (b ∷ [])) ≡ h.bookings =
    take-append-le (last (plus_booking h b)) h.bookings (b ∷ []) (omega arith) ∙ take_all (last (plus_booking h b)) h.bookings (omega arith) in
    record {
      some = omega (arith, length_push h.bookings b);
      waits = ap (λ (d : Booking). d.stands) (get_or_push h.bookings b none (last (plus_booking h b)) n) ∙ z;
      idle = subst (λ (v : List Booking). NoneCould (with_bookings h v)) (sym s) e;
    }
