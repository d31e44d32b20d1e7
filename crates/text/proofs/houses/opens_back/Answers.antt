use Rattle.text.proofs.Opens.{opens_back}
use Rattle.text.proofs.houses.opens_back.Goals as goal

pub returns : goal.returns
returns c = opens_back
