-- a new house has nothing in it
use Rattle.std.proofs.Common.{refl}
use Rattle.store.specs.Words.{legs_of, fares_of, bookings_of}
use Rattle.store.proofs.opening.open.Goals as goal

pub returns-clause-house : goal.returns-clause-house
unfolding legs_of fares_of bookings_of
returns-clause-house c = λ can. refl
