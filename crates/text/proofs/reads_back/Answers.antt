use Rattle.text.proofs.Back.{reads_back}
use Rattle.text.proofs.reads_back.Goals as goal

pub returns : goal.returns
returns c = reads_back
