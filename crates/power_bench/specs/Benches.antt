-- The chip of a bench, and what is put on it. Definitions only: nothing is assumed or proved here.
use Rattle.std.specs.Prelude.{◌≡◌, ℕ, ◌<◌, ◌/◌, ◌%◌, List, [], map, length, ◌==◌, slice_index}
use Rattle.meaning.specs.Lines.{pick}
use Rattle.meaning.specs.Chip.{Chip}
use Rattle.limits.specs.Opening.{limits_mean}
use Rattle.limits.specs.declared.Limits.{Limits}
use Rattle.flash.specs.Pages.{chip_in}
use Rattle.every_call.specs.Stage.{stage_calls}
use Rattle.chips.specs.Recorded.{said_means}
use Rattle.player.specs.Texts.{RunEnded, text_calls}
use Rattle.power_bench.specs.declared.Bench.{Bench}
use Rattle.power_bench.specs.declared.Life.{Life}

-- the bytes of the chip
abbrev pub pages_of : Bench → List ℕ
pages_of b = b.pages.items

-- a page was filled: its first byte says how it is, each other one is the byte; all other pages are as they were
pub record WithPage (page state byte : ℕ) (old new : List ℕ) : Type 0 where
  pub as_long : length new ≡ length old
  pub bytes : (j : ℕ) → j < length old → slice_index new j ≡ pick (j / 513 == page) (pick (j % 513 == 0) state byte) (slice_index old j)

-- WHAT A LIFE IS: a run on the chip, as the main promise has it, with just these answers; some chip is left
abbrev pub Lived : Limits → List ℕ → List ℕ → Life → Type 0
Lived l pages text life =
    (left : Chip) × RunEnded (limits_mean stage_calls l) (text_calls text) (chip_in pages) [] left (map said_means life.said.items) life.ending
