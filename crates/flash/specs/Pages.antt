-- A chip in bytes: 513 for each page, the first of which says how the page is: 0 blank, 1 written, 2 spoilt; behind it stand the page's 512 bytes. Definitions only: nothing is assumed or proved here.
use Rattle.std.specs.Prelude.{◌≡◌, ℕ, ◌-◌, ◌*◌, ◌/◌, ◌%◌, Bool, true, false, List, [], ◌∷◌, length, take, drop, ◌==◌}
use Rattle.meaning.specs.Lines.{pick}
use Rattle.meaning.specs.Chip.{Page, blank, has, spoilt, Chip, Act, done, written_on, Torn}
use Rattle.flash.specs.declared.Power.{Power}
use Rattle.flash.specs.declared.Left.{Left}
use Rattle.flash.specs.declared.Left.TheVariants as left
use Rattle.flash.specs.declared.PageRead.{PageRead}
use Rattle.flash.specs.declared.PageRead.TheVariants as read
use Rattle.flash.specs.declared.PageState.{PageState}
use Rattle.flash.specs.declared.PageState.TheVariants as state

-- the page that a row of bytes is; where there are none it is blank
abbrev pub page_in : List ℕ → Page
page_in [] = blank
page_in (how ∷ bs) = pick (how == 0) blank (pick (how == 1) (has bs) spoilt)

-- the bytes of page j
abbrev pub row_at : List ℕ → ℕ → List ℕ
row_at w j = take 513 (drop (j * 513) w)

-- THE CHIP that bytes are
abbrev pub chip_in : List ℕ → Chip
chip_in w j = page_in (row_at w j)

-- page k has this row, every other page the one that it had, and there are as many bytes
pub record RowPut (k : ℕ) (row old new : List ℕ) : Type 0 where
  pub as_long : length new ≡ length old
  pub rows : (j : ℕ) → row_at new j ≡ pick (j == k) row (row_at old j)

-- how a page is, by the number that stands on the chip: 0 blank, 1 written, any other spoilt
abbrev pub state_of : ℕ → PageState
state_of n = pick (n == 0) state.Blank (pick (n == 1) state.Written state.Spoilt)

-- and the number that is put there
abbrev pub number_of : PageState → ℕ
number_of state.Blank = 0
number_of state.Written = 1
number_of state.Spoilt = 2

-- what an act leaves of a page
abbrev pub left_of : Left → Page → Page → Page
left_of left.AsBefore before after = before
left_of left.Done before after = after
left_of left.Spoilt before after = spoilt

-- by the number of a tear: 0 as before, 1 done, any other spoilt
abbrev pub left_by : ℕ → Left
left_by n = pick (n == 0) left.AsBefore (pick (n == 1) left.Done left.Spoilt)

-- what writing a page leaves of a chip
abbrev pub write_leaves : Chip → ℕ → List ℕ → Left → Chip
write_leaves d k bs how j = pick (j == k) (left_of how (d j) (written_on (d j) bs)) (d j)

-- what making page k blank leaves of a chip
abbrev pub page_erased : Chip → ℕ → Left → Chip
page_erased d k how j = pick (j == k) (left_of how (d j) blank) (d j)

-- what erasing a block leaves of a chip, by what is left of each of its pages
abbrev pub erase_leaves : Chip → ℕ → (ℕ → Left) → Chip
erase_leaves d b how j = pick (j / 16 == b) (left_of (how (j % 16)) (d j) blank) (d j)

-- the chip in new bytes is this one, and there are as many bytes
pub record ChipIs (d : Chip) (old new : List ℕ) : Type 0 where
  pub as_long : length new ≡ length old
  pub pages : (j : ℕ) → chip_in new j ≡ d j

-- an act, where power held and where it failed in it: it was done, or torn
pub record Acted (x : Act) (old new : List ℕ) (held : Bool) : Type 0 where
  pub as_long : length new ≡ length old
  pub whole : held ≡ true → (j : ℕ) → chip_in new j ≡ done (chip_in old) x j
  pub torn : held ≡ false → Torn (chip_in old) x (chip_in new)

-- one act counted down: power fails in it where it is the last that was left; the numbers of the tear stay
pub record Spent (p q : Power) (fails : Bool) : Type 0 where
  pub last : fails ≡ (p.acts == 1)
  pub acts : q.acts ≡ p.acts - 1
  pub tear : q.tear ≡ p.tear

-- what reading a page tells
abbrev pub page_told : PageRead → Page
page_told read.Blank = blank
page_told (read.Written bytes) = has bytes.now
page_told read.Spoilt = spoilt
