use Rattle.meaning.proofs.newcomer_waits.Goals as goal
use Rattle.meaning.proofs.Newcomer.{newcomer_waits}

pub returns : goal.returns
returns c = newcomer_waits
