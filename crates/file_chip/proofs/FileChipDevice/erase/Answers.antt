-- An erase that can't be stored counts as torn.
use Rattle.chips.proofs.Acts.{quiet_wipe}
use Rattle.file_chip.proofs.Acts.{counts_as_torn}
use Rattle.file_chip.proofs.FileChipDevice.erase.Goals as goal

pub returns-then-is_err : goal.returns-then-is_err
returns-then-is_err c = record {
  acted = counts_as_torn _ _ _ _ _ _ (quiet_wipe c.args.block) c.erase_block-held.ensures.acted;
  size = c.erase_block-held.ensures.size;
}
