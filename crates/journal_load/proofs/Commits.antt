-- The commit record that numbers are: none where a test fails, and what they say where all hold.
use Rattle.std.proofs.Common.{◌≡◌, ℕ, ◌*◌, ◌<◌, ◌≤◌, Bool, true, false, ◌&&◌, ltb, leb, List, Some, Ok, Err, Result, get_or, sym, ap, ◌∙◌, arith}
use mathlib.Core.Option.{Option, none, some}
use Rattle.std.proofs.lemmas.Bool.{and_left, and_right, and_parts, leb-true, ltb-true}
use Rattle.std.specs.Result.{result_ok}
use Rattle.meaning.specs.Lines.{pick}
use Rattle.meaning.specs.Calls.{Limits}
use Rattle.journal.specs.Slots.{Turn, Commit}
use Rattle.journal_rows.specs.Layout.{Head, ring_blocks}
use Rattle.journal.specs.declared.Turn as code
use Rattle.journal.specs.declared.NoTurn.{NoTurn}
use Rattle.journal.specs.Codes.{turn_of, turn_told, number_turn}
use Rattle.journal_rows.specs.Bytes.{of_limits, in_limits, with_turn, numbers_commit}

module _ (l : Limits) (ns : List ℕ) where
  -- what is said beside the turn
  abbrev said : Head
  said = record { now = get_or ns 7 0; legs = get_or ns 8 0; fares = get_or ns 9 0; bookings = get_or ns 10 0 }

  abbrev by_tests : Bool → Option Turn → Option (Commit Head)
  by_tests b t = pick b (with_turn said (get_or ns 11 0) t) none

  pub not_of : of_limits l ns ≡ false → none ≡ numbers_commit l ns
  not_of e = sym (ap (λ (b : Bool). by_tests b (number_turn (get_or ns 1 0))) (and_left _ (in_limits l ns) e))

  pub not_in : in_limits l ns ≡ false → none ≡ numbers_commit l ns
  not_in e = sym (ap (λ (b : Bool). by_tests b (number_turn (get_or ns 1 0))) (and_right (of_limits l ns) _ e))

  pub is_commit : of_limits l ns ≡ true → in_limits l ns ≡ true → (t : Turn) → some t ≡ number_turn (get_or ns 1 0) → (c a f b p : ℕ) →
      c ≡ get_or ns 7 0 → a ≡ get_or ns 8 0 → f ≡ get_or ns 9 0 → b ≡ get_or ns 10 0 → p ≡ get_or ns 11 0 →
      some (record { turn = t; head = record { now = c; legs = a; fares = f; bookings = b }; begins = p }) ≡ numbers_commit l ns
  is_commit x y t e c a f b p ec ea ef eb ep =
      (λ d. some (record { turn = t; head = record { now = ec d; legs = ea d; fares = ef d; bookings = eb d }; begins = ep d }))
      ∙ sym (λ d. by_tests (x d && y d) (sym e d))

  pub within_tells : in_limits l ns ≡ true →
      (get_or ns 7 0 < 16777216) × (get_or ns 8 0 ≤ l.legs) × (get_or ns 9 0 ≤ l.fares) × (get_or ns 10 0 ≤ l.bookings) × (get_or ns 11 0 < 16 * ring_blocks l)
  within_tells e =
      let p = and_parts (ltb (get_or ns 7 0) 16777216 && leb (get_or ns 8 0) l.legs) _ e in
      let a = and_parts (ltb (get_or ns 7 0) 16777216) _ p.0 in
      let b = and_parts (leb (get_or ns 9 0) l.fares && leb (get_or ns 10 0) l.bookings) _ p.1 in
      let d = and_parts (leb (get_or ns 9 0) l.fares) _ b.0 in
      (ltb-true _ _ a.0, leb-true _ _ a.1, leb-true _ _ d.0, leb-true _ _ d.1, ltb-true _ _ b.1)

-- a turn that was read is that of its number
pub turn_so : (n : ℕ) (r : Result code.Turn NoTurn) (t : code.Turn) → turn_told r ≡ number_turn n → Some t ≡ result_ok r → some (turn_of t) ≡ number_turn n
turn_so n (Ok u) t e f = let z : t ≡ u = cc in ap (λ (x : code.Turn). some (turn_of x)) z ∙ e
turn_so n (Err x) t e f = let z : ◌≡◌ {A = ℕ} 0 1 = cc in absurd (omega arith)
