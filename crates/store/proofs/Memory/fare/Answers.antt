-- the fare's words are there, and mean the fare of this number
use Rattle.std.proofs.Common.{◌<◌, sym, ap, ◌∙◌, subst, arith}
use Rattle.records.specs.Means.{fare_means}
use Rattle.store.specs.Range.{FineFare}
use Rattle.store.specs.Whole.{Words, words}
use Rattle.store.proofs.Lists.{length_fares, at_fares}
use Rattle.store.proofs.Memory.fare.Goals as goal

pub load_fare-requires : goal.load_fare-requires
load_fare-requires c = let w : Words = words c.args.self.now in omega (arith, c.requires.there, length_fares w.fares w.filed, c.args.self.now.sound.filed, c.args.self.now.sound.fares_fit)

pub returns : goal.returns
returns c =
    let w : Words = words c.args.self.now in
    let h : c.args.k < w.filed = omega (arith, c.requires.there, length_fares w.fares w.filed) in
    record {
      means = λ d. ap fare_means c.load_fare.ensures ∙ sym (at_fares w.fares w.filed c.args.k d h);
      fine = subst FineFare (sym c.load_fare.ensures) (c.args.self.now.sound.fares c.args.k h);
    }
