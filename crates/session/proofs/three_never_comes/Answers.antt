use Rattle.session.proofs.Never.{never_three}
use Rattle.session.proofs.three_never_comes.Goals as goal

pub returns : goal.returns
returns c = never_three
