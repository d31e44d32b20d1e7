use Rattle.std.proofs.Common.{refl}
use Rattle.meaning.specs.Calls.{call_number, place}
use Rattle.calls.proofs.Performed.{later}
use Rattle.calls.proofs.FirstStageStage.cancel.Goals as goal

pub returns : goal.returns
unfolding call_number place
returns c = later _ _ _ c.at.ensures refl refl
