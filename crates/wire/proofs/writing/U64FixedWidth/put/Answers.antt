-- The eight bytes, as they are written.
use Rattle.std.proofs.Common.{◌∙◌}
use Rattle.wire.proofs.Written.{eight_bytes}
use Rattle.wire.proofs.writing.U64FixedWidth.put.Goals as goal

pub returns : goal.returns
returns c = c.copy_from_slice.ensures.after ∙ (c.to_le_bytes.ensures ∙ eight_bytes _)
