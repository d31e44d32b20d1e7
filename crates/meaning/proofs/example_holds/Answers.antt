use Rattle.meaning.proofs.example_holds.Goals as goal
use Rattle.meaning.proofs.Sample.{example_holds}

pub returns : goal.returns
returns c = example_holds
