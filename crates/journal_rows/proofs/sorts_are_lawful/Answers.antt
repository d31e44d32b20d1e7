-- Each of the three.
use Rattle.journal_rows.proofs.Laws.{leg_laws, fare_laws, booking_laws}
use Rattle.journal_rows.proofs.sorts_are_lawful.Goals as goal

pub returns : goal.returns
returns c = record { legs = leg_laws; fares = fare_laws; bookings = booking_laws }
