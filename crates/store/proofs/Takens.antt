-- How much is taken: at most nine seats a booking, at least what any one booking takes, and nothing on a leg that no booking has.
use Rattle.std.proofs.Common.{◌≡◌, ℕ, zero, suc, ◌*◌, ◌<◌, ◌≤◌, Bool, true, false, ◌&&◌, ◌||◌, eqb, leb, List, [], ◌∷◌, length, refl, arith}
use Rattle.meaning.specs.Lines.{pick}
use Rattle.meaning.specs.House.{Booking, goes, taken}
use Rattle.meaning.proofs.Serve.{at}
use Rattle.meaning.proofs.Room.{counts}

counts_le : (b : Booking) (i c : ℕ) → counts b i c ≤ b.seats
counts_le b i c = go ((eqb b.stands 1 || eqb b.stands 2) && (goes b.legs i && leb c b.class))
  where
    go : (t : Bool) → pick t b.seats 0 ≤ b.seats
    go true = omega arith
    go false = omega arith

pub taken_few : (bs : List Booking) (i c : ℕ) → ((k : ℕ) → k < length bs → (at bs k).seats ≤ 9) → taken bs i c ≤ 9 * length bs
unfolding taken
taken_few [] i c f = omega arith
taken_few (b ∷ bs) i c f = omega (arith, counts_le b i c, f 0 (omega arith), taken_few bs i c (λ k h. f (suc k) (omega arith)))

pub taken_has : (bs : List Booking) (k i c : ℕ) → k < length bs → counts (at bs k) i c ≤ taken bs i c
unfolding taken
taken_has [] k i c h = absurd (omega arith)
taken_has (b ∷ bs) zero i c h = omega arith
taken_has (b ∷ bs) (suc k) i c h = omega (arith, taken_has bs k i c (omega arith))

counts_off : (b : Booking) (i c : ℕ) → goes b.legs i ≡ false → counts b i c ≡ 0
counts_off b i c e = go (eqb b.stands 1 || eqb b.stands 2) (goes b.legs i) e
  where
    go : (x g : Bool) → g ≡ false → pick (x && (g && leb c b.class)) b.seats 0 ≡ 0
    go true true f = let z : ◌≡◌ {A = ℕ} 0 1 = cc in absurd (omega arith)
    go true false f = refl
    go false g f = refl

pub taken_off : (bs : List Booking) (i c : ℕ) → ((k : ℕ) → k < length bs → goes (at bs k).legs i ≡ false) → taken bs i c ≡ 0
unfolding taken
taken_off [] i c f = refl
taken_off (b ∷ bs) i c f = omega (arith, counts_off b i c (f 0 (omega arith)), taken_off bs i c (λ k h. f (suc k) (omega arith)))
