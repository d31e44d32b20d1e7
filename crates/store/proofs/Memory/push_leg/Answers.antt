-- the leg is at the end, and nothing is taken on it
use Rattle.std.proofs.Common.{◌∙◌, arith, rules}
use Rattle.store.specs.Whole.{Words, words}
use Rattle.store.proofs.Kept as kept
use Rattle.store.proofs.Memory.push_leg.Goals as goal

pub store_leg-requires : goal.store_leg-requires
store_leg-requires c = kept.leg_space (words c.args.self.now) c.args.self.now.sound c.requires.space

pub clear_counts-requires : goal.clear_counts-requires
clear_counts-requires c = let l = kept.leg_space (words c.args.self.now) c.args.self.now.sound c.requires.space in omega arith

pub invariant_of-self-2 : goal.invariant_of-self-2
invariant_of-self-2 c =
    let w : Words = words c.args.self.now in
    let a = c.store_leg.ensures in
    let b = c.clear_counts.ensures in
    record {
      sound = kept.longer_sound w c.args.self.now.sound c.args.g.now c.clear_counts.new.legs c.requires.fine (b.legs w.opened ∙ a.this) b.nothing (λ j ne. b.legs j ∙ a.others j ne)
          (λ j x ne h. b.others j x (omega arith) (λ e. absurd (ne e)) ∙ a.beside j x (omega arith)) (search rules) c.requires.space;
    }

pub returns-clause-house : goal.returns-clause-house
returns-clause-house c =
    let w : Words = words c.args.self.now in
    let a = c.store_leg.ensures in
    let b = c.clear_counts.ensures in
    kept.longer_house w c.args.self.now.sound c.args.g.now c.clear_counts.new.legs c.requires.fine (b.legs w.opened ∙ a.this) b.nothing (λ j ne. b.legs j ∙ a.others j ne)
    (λ j x ne h. b.others j x (omega arith) (λ e. absurd (ne e)) ∙ a.beside j x (omega arith)) (search rules) c.requires.space
