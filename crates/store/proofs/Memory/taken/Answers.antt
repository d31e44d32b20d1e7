-- the count that is kept is what is taken
use Rattle.std.proofs.Common.{ℕ, ◌<◌, ◌≤◌, sym, ◌∙◌, subst, arith}
use Rattle.store.specs.Whole.{Words, words}
use Rattle.store.proofs.Kept.{few_taken}
use Rattle.store.proofs.Lists.{length_legs}
use Rattle.store.proofs.Memory.taken.Goals as goal

pub load_count-requires : goal.load_count-requires
load_count-requires c =
    let w : Words = words c.args.self.now in
    record { leg = omega (arith, c.requires.there, length_legs w.legs w.opened, c.args.self.now.sound.opened, c.args.self.now.sound.legs_fit); class = c.requires.class }

pub returns : goal.returns
returns c =
    let w : Words = words c.args.self.now in
    let h : c.args.i < w.opened = omega (arith, c.requires.there, length_legs w.legs w.opened) in
    record {
      is = c.load_count.ensures ∙ c.args.self.now.sound.counts c.args.i c.args.class h c.requires.class;
      few = subst (λ (n : ℕ). n ≤ 9000000) (sym c.load_count.ensures) (few_taken w c.args.self.now.sound c.args.i c.args.class h c.requires.class);
    }
