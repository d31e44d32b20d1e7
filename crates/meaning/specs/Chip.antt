-- A chip of pages, what acts do to it, and what power that fails in the middle of an act leaves of it. Definitions only: nothing is assumed or proved here.
use Rattle.std.specs.Prelude.{◌≡◌, ℕ, zero, suc, ◌*◌, ◌/◌, Bool, true, false, ◌&&◌, ◌⊎◌, List, [], ◌∷◌, length, ◌==◌, nat_lt}
use Rattle.meaning.specs.Lines.{pick}
use Rattle.meaning.specs.Calls.{Answer}

-- a page of 512 bytes: blank, or it has bytes, or it is spoilt, that is torn and worth nothing; reading tells which. A blank page can be written once; one that isn't blank is spoilt by writing
pub data Page : Type 0 where
  blank : Page
  has : List ℕ → Page
  spoilt : Page

-- a chip: its pages by number, sixteen to a block
abbrev pub Chip : Type 0
Chip = ℕ → Page

-- an act: a page is written, a block is wiped (erased), which makes all its pages blank, or an answer is given
pub data Act : Type 0 where
  write : ℕ → List ℕ → Act
  wipe : ℕ → Act
  say : Answer → Act

-- a page after bytes were written on it
unfoldable pub written_on : Page → List ℕ → Page
written_on blank bs = has bs
written_on (has cs) bs = spoilt
written_on spoilt bs = spoilt

-- the chip when an act is done
unfoldable pub done : Chip → Act → Chip
done d (write k bs) j = pick (j == k) (written_on (d j) bs) (d j)
done d (wipe b) j = pick (j / 16 == b) blank (d j)
done d (say a) j = d j

-- the chip when a list of acts is done
unfoldable pub all_done : Chip → List Act → Chip
all_done d [] = d
all_done d (x ∷ xs) = all_done (done d x) xs

-- power that fails in the middle of an act: a page that was being written is as before, or written, or spoilt; of a block that was being wiped each page by itself is as before, or blank, or
-- spoilt; all other pages are as they were
unfoldable pub Torn : Chip → Act → Chip → Type 0
Torn d (write k bs) e = (j : ℕ) → (e j ≡ d j) ⊎ ((j ≡ k) × ((e j ≡ written_on (d j) bs) ⊎ (e j ≡ spoilt)))
Torn d (wipe b) e = (j : ℕ) → (e j ≡ d j) ⊎ ((j / 16 ≡ b) × ((e j ≡ blank) ⊎ (e j ≡ spoilt)))
Torn d (say a) e = (j : ℕ) → e j ≡ d j

-- power fails in the act after the first k of some, or when all are done
unfoldable pub LeftAfter : Chip → List Act → ℕ → Chip → Type 0
LeftAfter d [] k e = (j : ℕ) → e j ≡ d j
LeftAfter d (x ∷ xs) zero e = Torn d x e
LeftAfter d (x ∷ xs) (suc k) e = LeftAfter (done d x) xs k e

-- the answers among some acts
unfoldable pub said : List Act → List Answer
said [] = []
said (write k bs ∷ xs) = said xs
said (wipe b ∷ xs) = said xs
said (say a ∷ xs) = a ∷ said xs

-- is every number a byte
unfoldable pub all_bytes : List ℕ → Bool
all_bytes [] = true
all_bytes (b ∷ bs) = nat_lt b 256 && all_bytes bs

-- is a page blank
unfoldable pub is_blank : Page → Bool
is_blank blank = true
is_blank (has bs) = false
is_blank spoilt = false

-- what may be done to a chip of n blocks: only blank pages of it are written, whole, and only its blocks are wiped
unfoldable pub careful : ℕ → Chip → List Act → Bool
careful n d [] = true
careful n d (write k bs ∷ xs) = (nat_lt k (16 * n) && (is_blank (d k) && (length bs == 512 && all_bytes bs))) && careful n (done d (write k bs)) xs
careful n d (wipe b ∷ xs) = nat_lt b n && careful n (done d (wipe b)) xs
careful n d (say a ∷ xs) = careful n d xs
