-- Each case is the call that it stands for, done as its own function says.
use Rattle.std.proofs.Common.{refl}
use Rattle.meaning.specs.Calls.{call_number}
use Rattle.calls.proofs.Performed.{answered, as_call, done, kept}
use Rattle.calls.proofs.perform.Goals as goal

pub returns-in-Open-clause-done : goal.returns-in-Open-clause-done
unfolding call_number
returns-in-Open-clause-done g c =
    let e = c.open_leg-answer.ensures in
    as_call _ _ _ _ _ _ _ _ c.in-Open.is (done _ _ _ _ _ _ (g.met.S.Stage.first 0 refl) c.requires.idle e.meant e.lent)

pub returns-in-File-clause-done : goal.returns-in-File-clause-done
unfolding call_number
returns-in-File-clause-done g c =
    let e = c.file_fare-answer.ensures in
    as_call _ _ _ _ _ _ _ _ c.in-File.is (done _ _ _ _ _ _ (g.met.S.Stage.first 1 refl) c.requires.idle e.meant e.lent)

pub returns-in-Book-clause-done : goal.returns-in-Book-clause-done
unfolding call_number
returns-in-Book-clause-done g c =
    let e = c.book-answer.ensures in
    as_call _ _ _ _ _ _ _ _ c.in-Book.is (done _ _ _ _ _ _ (g.met.S.Stage.first 2 refl) c.requires.idle e.meant e.lent)

pub returns-in-Free-clause-done : goal.returns-in-Free-clause-done
unfolding call_number
returns-in-Free-clause-done g c = as_call _ _ _ _ _ _ _ _ c.in-Free.is (answered _ _ _ _ _ (g.met.S.Stage.first 7 refl) c.requires.idle c.ask_free-answer.ensures)

pub returns-in-Price-clause-done : goal.returns-in-Price-clause-done
unfolding call_number
returns-in-Price-clause-done g c = as_call _ _ _ _ _ _ _ _ c.in-Price.is (answered _ _ _ _ _ (g.met.S.Stage.first 8 refl) c.requires.idle c.ask_price-answer.ensures)

pub returns-in-Booking-clause-done : goal.returns-in-Booking-clause-done
unfolding call_number
returns-in-Booking-clause-done g c = as_call _ _ _ _ _ _ _ _ c.in-Booking.is (answered _ _ _ _ _ (g.met.S.Stage.first 9 refl) c.requires.idle c.ask_booking-answer.ensures)

pub returns-in-Leg-clause-done : goal.returns-in-Leg-clause-done
unfolding call_number
returns-in-Leg-clause-done g c = as_call _ _ _ _ _ _ _ _ c.in-Leg.is (answered _ _ _ _ _ (g.met.S.Stage.first 10 refl) c.requires.idle c.ask_leg.ensures.meant)

pub returns-in-Pay-clause-done : goal.returns-in-Pay-clause-done
returns-in-Pay-clause-done g c = as_call _ _ _ _ _ _ _ _ c.in-Pay.is (kept _ _ _ _ _ _ c.requires.idle c.pay-answer.ensures)

pub returns-in-Cancel-clause-done : goal.returns-in-Cancel-clause-done
returns-in-Cancel-clause-done g c = as_call _ _ _ _ _ _ _ _ c.in-Cancel.is (kept _ _ _ _ _ _ c.requires.idle c.cancel-answer.ensures)

pub returns-in-Limits-clause-done : goal.returns-in-Limits-clause-done
returns-in-Limits-clause-done g c = as_call _ _ _ _ _ _ _ _ c.in-Limits.is (kept _ _ _ _ _ _ c.requires.idle c.change_limits-answer.ensures)

pub returns-in-Ticks-clause-done : goal.returns-in-Ticks-clause-done
returns-in-Ticks-clause-done g c = as_call _ _ _ _ _ _ _ _ c.in-Ticks.is (kept _ _ _ _ _ _ c.requires.idle c.pass_time-answer.ensures)
