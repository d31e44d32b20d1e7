use Rattle.std.proofs.Common.{◌/◌, refl, ap}
use mathlib.Core.Path.{fun_ext}
use Rattle.meaning.specs.Chip as house
use Rattle.chips.proofs.Acts.{acted_in, quiet_wipe}
use Rattle.chips.proofs.MemoryChip.erase_block.Goals as goal

pub returns : goal.returns
returns c = record {
  acted = acted_in (house.wipe c.args.block) _ _ _ _ (quiet_wipe c.args.block) c.erase_block-held.ensures.acted;
  size = ap (λ n. n / 8208) c.erase_block-held.ensures.acted.as_long;
  left = fun_ext c.erase_block-held.ensures.left.pages;
  power = c.erase_block-held.ensures.power;
  lent = refl;
}
