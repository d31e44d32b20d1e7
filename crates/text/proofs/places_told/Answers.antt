use Rattle.text.proofs.Wrong.{places_told}
use Rattle.text.proofs.places_told.Goals as goal

pub returns : goal.returns
returns c = places_told
