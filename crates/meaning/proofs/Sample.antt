-- The worked example is answered as it was worked out by hand: one lemma computes the house after the first booking, and the whole run is put together from its parts.
use Rattle.std.proofs.Common.{◌≡◌, ℕ, suc, ◌≤◌, true, false, List, [], ◌∷◌, ◌++◌, refl, ap, ◌∙◌, ap₂, inl, inr, arith}
use Rattle.std.proofs.lemmas.Bool.{both_ways, cases_lt}
use Rattle.meaning.specs.Lines.{Leg, follows, last_of, piece, by_first, by_any, cost_in}
use Rattle.meaning.specs.House.{Booking, House, goes, taken, room_on, room, serve_one, serve_on, serve, first_leg, run_out}
use Rattle.meaning.specs.Calls.{Call, Answer, Limits, after, answer, answers, ran, new_house, most, told, changed, turned_by, place, good_fields, call_number, falling, all_to, all_there, no_twice, each_class}
use Rattle.meaning.specs.Example.{example, filling, filled, booking_two, booked_two, asking, asked, going_on, went_on, ExampleHolds}
use Rattle.meaning.proofs.Free.{most_tells, most_from}

-- a run in two parts
answers_append : (l : Limits) (h : House) (xs ys : List Call) → answers l h (xs ++ ys) ≡ answers l h xs ++ answers l (ran l h xs) ys
unfolding answers ran
answers_append l h [] ys = refl
answers_append l h (x ∷ xs) ys = ap (λ (rest : List Answer). answer l h x ∷ rest) (answers_append l (after l h x) xs ys)

-- so many could be had: there is room for them, and not for one more
most_is : (m n : ℕ) (ls : List Leg) (bs : List Booking) (i c : ℕ) → n ≤ m → room ls bs (i ∷ []) c n ≡ true → room ls bs (i ∷ []) c (suc n) ≡ false → most m ls bs i c ≡ n
most_is m n ls bs i c h e f =
    let some : n ≤ most m ls bs i c = most_from m n ls bs i c h e in
    elim (cases_lt n (most m ls bs i c)) [ inl q ↦ absurd (both_ways _ f (most_tells m (suc n) ls bs i c (omega arith) (omega arith))) | inr q ↦ omega arith ]

-- the house after the first booking
abbrev leg_0 : Leg
leg_0 = record { from = 1; to = 2; leaves = 100; arrives = 200; limits = 5 ∷ 3 ∷ 2 ∷ [] }

abbrev then : House
then = record {
  now = 0;
  gap = 10;
  hold_for = 20;
  legs = leg_0 ∷ record { from = 2; to = 3; leaves = 230; arrives = 300; limits = 5 ∷ 4 ∷ [] } ∷ [];
  fares =
      record { origin = 1; goal = 2; class = 1; most_legs = 1; price = 50 }
      ∷ record { origin = 2; goal = 3; class = 1; most_legs = 1; price = 40 }
      ∷ record { origin = 1; goal = 3; class = 1; most_legs = 2; price = 80 }
      ∷ record { origin = 1; goal = 3; class = 0; most_legs = 2; price = 200 }
      ∷ [];
  bookings = record { legs = 0 ∷ 1 ∷ []; class = 1; seats = 2; stands = 1; until = 20; paid = 0 } ∷ [];
}

abbrev run_by : List Call → House
run_by cs = ran example (new_house example) cs

ran_then : ran example (run_by filling) booking_two ≡ then
unfolding ran changed turned_by good_fields call_number falling all_to all_there no_twice follows last_of piece by_first by_any cost_in goes taken room_on room serve_one serve_on serve first_leg
ran_then = refl

first_part : answers example (new_house example) filling ≡ filled
unfolding answers ran changed told turned_by place good_fields call_number falling all_to
first_part = refl

second_part : answers example (run_by filling) booking_two ≡ booked_two
unfolding answers ran changed told turned_by place good_fields call_number falling all_to all_there no_twice follows last_of piece by_first by_any cost_in goes taken room_on room serve_one serve_on serve first_leg
second_part = refl

-- what is free: three numbers, each by the room that there is and the room that there is not
had : (c n : ℕ) → n ≤ 1000 → room then.legs then.bookings (0 ∷ []) c n ≡ true → room then.legs then.bookings (0 ∷ []) c (suc n) ≡ false → most 1000 then.legs then.bookings 0 c ≡ n
had c n h e f = most_is 1000 n then.legs then.bookings 0 c h e f

third_part : answers example then asking ≡ asked
unfolding answers changed told turned_by good_fields call_number room room_on taken goes
third_part =
    simp (had 0 3 (omega arith) refl refl, had 1 1 (omega arith) refl refl, had 2 1 (omega arith) refl refl)

fourth_part : answers example then going_on ≡ went_on
unfolding answers changed told turned_by place good_fields call_number falling all_to all_there no_twice follows last_of piece by_first by_any cost_in goes taken room_on room serve_one serve_on serve first_leg run_out each_class
fourth_part = refl

pub example_holds : ExampleHolds
unfolding ExampleHolds ran changed turned_by good_fields call_number
example_holds =
    answers_append example (new_house example) filling (booking_two ++ (asking ++ going_on))
    ∙ ap₂ (λ (a b : List Answer). a ++ b) first_part
    (answers_append example (run_by filling) booking_two (asking ++ going_on)
    ∙ ap₂ (λ (a b : List Answer). a ++ b) second_part
    (ap (λ h. answers example h (asking ++ going_on)) ran_then
    ∙ answers_append example then asking going_on
    ∙ ap₂ (λ (a b : List Answer). a ++ b) third_part fourth_part))
