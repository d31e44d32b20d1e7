-- Acts on a chip over any kind of answers (A), what they do to it, and what power that fails in the middle of an act leaves of it: the meaning's acts, for any machine. Definitions only: nothing is assumed or proved here.
use Rattle.std.specs.Prelude.{◌≡◌, ℕ, zero, suc, ◌*◌, ◌/◌, Bool, true, ◌&&◌, ◌⊎◌, List, [], ◌∷◌, length, ◌==◌, nat_lt}
use Rattle.meaning.specs.Lines.{pick}
use Rattle.meaning.specs.Chip.{blank, spoilt, Chip, written_on, all_bytes, is_blank}

-- an act: a page is written, a block is wiped (erased), which makes all its pages blank, or an answer is given
pub data Act (A : Type 0) : Type 0 where
  write : ℕ → List ℕ → Act A
  wipe : ℕ → Act A
  say : A → Act A

-- the chip when an act is done
unfoldable pub done : {A : Type 0} → Chip → Act A → Chip
done d (write k bs) j = pick (j == k) (written_on (d j) bs) (d j)
done d (wipe b) j = pick (j / 16 == b) blank (d j)
done d (say a) j = d j

-- the chip when a list of acts is done
unfoldable pub all_done : {A : Type 0} → Chip → List (Act A) → Chip
all_done d [] = d
all_done d (x ∷ xs) = all_done (done d x) xs

-- power that fails in the middle of an act: a page that was being written is as before, or written, or spoilt; of a block that was being wiped each page by itself is as before, or blank, or
-- spoilt; all other pages are as they were
unfoldable pub Torn : {A : Type 0} → Chip → Act A → Chip → Type 0
Torn d (write k bs) e = (j : ℕ) → (e j ≡ d j) ⊎ ((j ≡ k) × ((e j ≡ written_on (d j) bs) ⊎ (e j ≡ spoilt)))
Torn d (wipe b) e = (j : ℕ) → (e j ≡ d j) ⊎ ((j / 16 ≡ b) × ((e j ≡ blank) ⊎ (e j ≡ spoilt)))
Torn d (say a) e = (j : ℕ) → e j ≡ d j

-- power fails in the act after the first k of some, or when all are done
unfoldable pub LeftAfter : {A : Type 0} → Chip → List (Act A) → ℕ → Chip → Type 0
LeftAfter d [] k e = (j : ℕ) → e j ≡ d j
LeftAfter d (x ∷ xs) zero e = Torn d x e
LeftAfter d (x ∷ xs) (suc k) e = LeftAfter (done d x) xs k e

-- the answers among some acts
unfoldable pub said : {A : Type 0} → List (Act A) → List A
said [] = []
said (write k bs ∷ xs) = said xs
said (wipe b ∷ xs) = said xs
said (say a ∷ xs) = a ∷ said xs

module _ {A : Type 0} where
  -- what may be done to a chip of n blocks: only blank pages of it are written, whole, and only its blocks are wiped
  unfoldable pub careful : ℕ → Chip → List (Act A) → Bool
  careful n d [] = true
  careful n d (write k bs ∷ xs) = (nat_lt k (16 * n) && (is_blank (d k) && (length bs == 512 && all_bytes bs))) && careful n (done {A = A} d (write k bs)) xs
  careful n d (wipe b ∷ xs) = nat_lt b n && careful n (done {A = A} d (wipe b)) xs
  careful n d (say a ∷ xs) = careful n d xs
