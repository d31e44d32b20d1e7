use Rattle.std.proofs.Common.{◌/◌, refl, ap}
use mathlib.Core.Path.{fun_ext}
use Rattle.meaning.specs.Chip as house
use Rattle.chips.proofs.Acts.{acted_in, quiet_write}
use Rattle.chips.proofs.MemoryChip.write_page.Goals as goal

pub returns : goal.returns
returns c = record {
  acted = acted_in (house.write c.args.page c.args.bytes.now) _ _ _ _ (quiet_write c.args.page c.args.bytes.now) c.write_page-held.ensures.acted;
  size = ap (λ n. n / 8208) c.write_page-held.ensures.acted.as_long;
  left = fun_ext c.write_page-held.ensures.left.pages;
  power = c.write_page-held.ensures.power;
  lent = refl;
}
