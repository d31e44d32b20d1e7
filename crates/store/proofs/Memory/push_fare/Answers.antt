-- the fare is at the end
use Rattle.std.proofs.Common.{rules}
use Rattle.store.specs.Whole.{words}
use Rattle.store.proofs.Kept as kept
use Rattle.store.proofs.Memory.push_fare.Goals as goal

pub store_fare-requires : goal.store_fare-requires
store_fare-requires c = kept.fare_space (words c.args.self.now) c.args.self.now.sound c.requires.space

pub invariant_of-self : goal.invariant_of-self
invariant_of-self c =
    let e = c.store_fare.ensures in
    record { sound = kept.filed_more_sound (words c.args.self.now) c.args.self.now.sound c.args.f.now c.store_fare.new.fares c.requires.fine e.this e.others (search rules) c.requires.space }

pub returns-clause-house : goal.returns-clause-house
returns-clause-house c =
    let e = c.store_fare.ensures in
    kept.filed_more_house (words c.args.self.now) c.args.self.now.sound c.args.f.now c.store_fare.new.fares c.requires.fine e.this e.others (search rules) c.requires.space
