-- What can't be read is refused, and changes nothing.
use Rattle.std.proofs.Common.{refl, arith}
use Rattle.meaning.specs.Calls.{garbled, call_number, good_fields, turned_by, place}
use Rattle.store.specs.Whole.{house}
use Rattle.store.proofs.Lents.{lent_none}
use Rattle.every_call.specs.Stage.{stage}
use Rattle.journal_rows.specs.Layout.{is_change}
use Rattle.session.proofs.Begins.{same_next, same_acts}
use Rattle.session.proofs.Session.refuse.Goals as goal

pub returns : goal.returns
unfolding call_number good_fields turned_by place is_change
returns c =
    let m = c.args.m.now in
    let s = c.args.self.now in
    record {
      next = same_next (stage m) s.journal (house m) (house m) (garbled c.args.place) refl refl;
      acts = same_acts (stage m) s.journal (house m) (house m) (garbled c.args.place) refl _ (garbled 0) refl refl;
      ready = record { sound = c.requires.sound; idle = c.requires.idle; fits = c.requires.fits; work = tt; listed = omega arith; length = c.requires.length; whole = c.requires.whole };
      lent = lent_none m;
    }
