-- The theorem on where a row ceases to be a call.
use Rattle.wire.proofs.Misfit.{misfits}
use Rattle.wire.proofs.first_misfit.Goals as goal

pub returns : goal.returns
returns c = misfits
