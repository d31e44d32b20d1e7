-- An answer that can't be printed is not given.
use Rattle.std.proofs.Common.{refl}
use Rattle.chips.proofs.Acts.{not_given}
use Rattle.file_chip.proofs.FileChipDevice.say.Goals as goal

pub returns-then-is_err : goal.returns-then-is_err
returns-then-is_err c = record {
  acted = not_given _ _ _ _ refl;
  size = refl;
}
