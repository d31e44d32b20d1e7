-- A write that can't be stored counts as torn.
use Rattle.chips.proofs.Acts.{quiet_write}
use Rattle.file_chip.proofs.Acts.{counts_as_torn}
use Rattle.file_chip.proofs.FileChipDevice.write.Goals as goal

pub returns-then-is_err : goal.returns-then-is_err
returns-then-is_err c = record {
  acted = counts_as_torn _ _ _ _ _ _ (quiet_write c.args.page c.args.bytes.now) c.write_page-held.ensures.acted;
  size = c.write_page-held.ensures.size;
}
