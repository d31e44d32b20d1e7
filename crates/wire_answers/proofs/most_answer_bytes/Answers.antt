-- The theorem on the longest answer.
use Rattle.std.proofs.Common.{refl}
use Rattle.wire_answers.proofs.Lengths.{most_bytes}
use Rattle.wire_answers.proofs.most_answer_bytes.Goals as goal

pub returns : goal.returns
returns c = (refl, most_bytes)
