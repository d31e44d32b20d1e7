-- the leg's words are there, and mean the leg of this number
use Rattle.std.proofs.Common.{◌≡◌, ◌<◌, length, sym, ap, ◌∙◌, subst, arith}
use Rattle.std.proofs.lemmas.List.{length-take-le}
use Rattle.meaning.specs.Lines.{no_leg, leg}
use Rattle.meaning.specs.Lines as lines
use Rattle.records.specs.declared.Leg.{Leg}
use Rattle.records.specs.Means.{leg_means}
use Rattle.store.specs.Range.{FineLeg}
use Rattle.store.specs.Words.{legs_of}
use Rattle.store.specs.Whole.{Words, words}
use Rattle.store.proofs.Lists.{length_legs, at_legs, limits_full}
use Rattle.store.proofs.Memory.leg.Goals as goal

pub load_leg-requires : goal.load_leg-requires
load_leg-requires c = let w : Words = words c.args.self.now in omega (arith, c.requires.there, length_legs w.legs w.opened, c.args.self.now.sound.opened, c.args.self.now.sound.legs_fit)

pub returns : goal.returns
returns c =
    let w : Words = words c.args.self.now in
    let h : c.args.i < w.opened = omega (arith, c.requires.there, length_legs w.legs w.opened) in
    let e : leg_means c.load_leg.result ≡ leg (legs_of w.legs w.opened) c.args.i = ap leg_means c.load_leg.ensures ∙ sym (at_legs w.legs w.opened c.args.i no_leg h) in
    let f : FineLeg c.load_leg.result = subst FineLeg (sym c.load_leg.ensures) (c.args.self.now.sound.legs c.args.i h) in
    let n : length c.load_leg.result.limits ≡ 26 = ap (λ (g : Leg). length g.limits) c.load_leg.ensures ∙ limits_full w.legs c.args.i (omega (arith, c.args.self.now.sound.opened, c.args.self.now.sound.legs_fit)) in
    record {
      means = e;
      classes = sym (ap (λ (g : lines.Leg). length g.limits) (sym e) ∙ length-take-le c.load_leg.result.classes c.load_leg.result.limits (omega (arith, f.classes)));
      fine = f;
      whole = n;
    }
