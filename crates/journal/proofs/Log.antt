-- Lemmas on logs: what a write, done or torn, leaves of one.
use Rattle.std.proofs.Common.{◌≡◌, ℕ, zero, suc, ◌+◌, ◌/◌, ◌<◌, ◌⊎◌, List, refl, ap, ◌∙◌, inl, inr, arith}
use Rattle.std.proofs.lemmas.Bool.{eq-eqb, ne_eqb, cases_eq}
use Rattle.meaning.specs.Chip.{Page, blank, has, spoilt, Chip, written_on}
use Rattle.journal.specs.Acts.{write, wipe, done, Torn}
use Rattle.journal.specs.Slots.{replay}

-- one chip is another but for a page
abbrev pub But : Chip → Chip → ℕ → Type 0
But d e k = (j : ℕ) → (j ≡ k → ⊥) → e j ≡ d j

pub written_but : (A : Type 0) (d : Chip) (k : ℕ) (bs : List ℕ) → But d (done {A = A} d (write k bs)) k
unfolding done
written_but A d k bs j ne = rw (ne_eqb j k ne)

pub written_at : (A : Type 0) (d : Chip) (k : ℕ) (bs : List ℕ) → d k ≡ blank → done {A = A} d (write k bs) k ≡ has bs
unfolding done written_on
written_at A d k bs h = rw (eq-eqb k k refl, h)

pub wiped_in : (A : Type 0) (d : Chip) (b j : ℕ) → j / 16 ≡ b → done {A = A} d (wipe b) j ≡ blank
unfolding done
wiped_in A d b j q = rw (eq-eqb (j / 16) b q)

pub wiped_off : (A : Type 0) (d : Chip) (b j : ℕ) → (j / 16 ≡ b → ⊥) → done {A = A} d (wipe b) j ≡ d j
unfolding done
wiped_off A d b j q = rw (ne_eqb (j / 16) b q)

-- what is left of a write to a blank page
pub data LeftAt (d : Chip) (k : ℕ) (bs : List ℕ) (e : Chip) : Type 0 where
  nothing : ((j : ℕ) → e j ≡ d j) → LeftAt d k bs e
  whole : But d e k → e k ≡ has bs → LeftAt d k bs e
  part : But d e k → e k ≡ spoilt → LeftAt d k bs e

pub torn_write : (A : Type 0) (d e : Chip) (k : ℕ) (bs : List ℕ) → d k ≡ blank → Torn {A = A} d (write k bs) e → LeftAt d k bs e
unfolding Torn written_on
torn_write A d e k bs b t = go (t k)
  where
    but : But d e k
    but j ne = elim (t j) [ inl q ↦ q | inr q ↦ absurd (ne q.0) ]

    go : (e k ≡ d k) ⊎ ((k ≡ k) × ((e k ≡ written_on (d k) bs) ⊎ (e k ≡ spoilt))) → LeftAt d k bs e
    go (inl q) = nothing (λ j. elim (cases_eq j k) [ inl jk ↦ (rw jk q) | inr ne ↦ but j ne ])
    go (inr (z, inl q)) = whole but (q ∙ rw b)
    go (inr (z, inr q)) = part but q

pub replay_same : {H : Type 0} (f : H → Page → H) (h : H) (d e : Chip) (b n : ℕ) → ((k : ℕ) → k < n → e (b + k) ≡ d (b + k)) → replay f h e b n ≡ replay f h d b n
unfolding replay
replay_same f h d e b zero s = refl
replay_same f h d e b (suc n) s = rw (replay_same f h d e b n (λ k l. s k (omega arith)), s n (omega arith))

-- the first page first
pub replay_front : {H : Type 0} (f : H → Page → H) (h : H) (d : Chip) (b n : ℕ) → replay f h d b (suc n) ≡ replay f (f h (d b)) d (suc b) n
unfolding replay
replay_front f h d b zero = let q : b + 0 ≡ b = omega arith in rw q
replay_front f h d b (suc n) = let q : b + suc n ≡ suc b + n = omega arith in ap (λ x. f x (d (b + suc n))) (replay_front f h d b n) ∙ rw q
