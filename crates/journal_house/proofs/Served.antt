-- Serving and running out leave as many bookings as there were, and those in range in range.
use Rattle.std.proofs.Common.{◌≡◌, ℕ, zero, suc, ◌<◌, ◌≤◌, Bool, true, false, List, [], ◌∷◌, length, get_or, refl, ap, ◌∙◌, arith, length-set}
use Rattle.meaning.specs.Lines.{pick, Leg}
use Rattle.meaning.specs.House.{Booking, stand, serve, over, run_out}
use Rattle.meaning.proofs.Serve.{at, serve_keeps}
use Rattle.journal.specs.Slots.{AllOf}
use Rattle.journal_rows.specs.Layout.{FineBooking}
use Rattle.journal_rows.proofs.Every.{all_set}

-- what holds of every element holds of one that is there
pub all_at : {X : Type 0} (P : X → Type 0) (xs : List X) (i : ℕ) (x : X) → AllOf P xs → i < length xs → P (get_or xs i x)
unfolding AllOf
all_at P [] i x a h = absurd (omega arith)
all_at P (y ∷ ys) zero x a h = a.0
all_at P (y ∷ ys) (suc i) x a h = all_at P ys i x a.1 (omega arith)

pub serve_long : (n : ℕ) (ls : List Leg) (bs : List Booking) (u : ℕ) → length (serve n ls bs u) ≡ length bs
serve_long n ls bs u = serve_keeps ls u (λ cs. length cs ≡ length bs) (λ cs m x p. length-set cs m (stand (at cs m) 1 u) ∙ p) n bs refl

pub run_out_long : (t : ℕ) (ls : List Leg) (bs : List Booking) → length (run_out t ls bs) ≡ length bs
unfolding run_out
run_out_long t ls [] = refl
run_out_long t ls (b ∷ bs) = go (over t ls b) (run_out_long t ls bs)
  where
    go : (x : Bool) → length (run_out t ls bs) ≡ length bs → length (pick x (stand b 3 0 ∷ run_out t ls bs) (b ∷ run_out t ls bs)) ≡ suc (length bs)
    go true e = ap suc e
    go false e = ap suc e

-- a booking that stands otherwise is still in range
pub fine_stand : (n : ℕ) (b : Booking) (s u : ℕ) → s ≤ 3 → u < 16842752 → FineBooking n b → FineBooking n (stand b s u)
fine_stand n b s u p q f = record { fields = f.fields; there = f.there; apart = f.apart; stands = p; until = q; paid = f.paid }

pub serve_fine : (m n : ℕ) (ls : List Leg) (bs : List Booking) (u : ℕ) → u < 16842752 → AllOf (FineBooking m) bs → AllOf (FineBooking m) (serve n ls bs u)
serve_fine m n ls bs u lt f =
    serve_keeps ls u (AllOf (FineBooking m)) (λ cs k x a. all_set (FineBooking m) cs k _ a (fine_stand m (at cs k) 1 u (omega arith) lt (all_at (FineBooking m) cs k _ a x.0))) n bs f

pub run_out_fine : (m t : ℕ) (ls : List Leg) (bs : List Booking) → AllOf (FineBooking m) bs → AllOf (FineBooking m) (run_out t ls bs)
unfolding run_out AllOf
run_out_fine m t ls [] f = tt
run_out_fine m t ls (b ∷ bs) f = go (over t ls b) (run_out_fine m t ls bs f.1)
  where
    go : (x : Bool) → AllOf (FineBooking m) (run_out t ls bs) → AllOf (FineBooking m) (pick x (stand b 3 0 ∷ run_out t ls bs) (b ∷ run_out t ls bs))
    go true e = (fine_stand m b 3 0 (omega arith) (omega arith) f.0, e)
    go false e = (f.0, e)
