use Rattle.std.proofs.Common.{ℕ, ◌+◌, ◌*◌, ◌<◌, sym, ap, ◌∙◌, subst, arith}
use Rattle.meaning.specs.Promise.{room_for, whole}
use Rattle.limits.specs.Opening.{limits_mean}
use Rattle.journal.specs.Codes.{is_second}
use Rattle.journal_steps.specs.Steps.{chip_limits, journal_of}
use Rattle.journal_steps.proofs.Plans.{fill_now, same_page}
use Rattle.journal_steps.proofs.Ranges.{in_slot, most_few}
use Rattle.journal_steps.proofs.Journal.write_page.Goals as goal

pub overflow_add-result-2 : goal.overflow_add-result-2
overflow_add-result-2 c = omega (arith, c.first_block.ensures.few, most_few (chip_limits c.args.layout.now.limits) c.args.layout.now.in_range, c.requires)

pub overflow_add-result-3 : goal.overflow_add-result-3
overflow_add-result-3 c = omega (arith, most_few (chip_limits c.args.layout.now.limits) c.args.layout.now.in_range, c.requires)

pub returns : goal.returns
returns c = record {
  gives = λ n lt can h call a e.
      let m = limits_mean can c.args.layout.now.limits in
      fill_now m (journal_of m c.args.self.now h) c.args.number a (omega arith) ∙ same_page _ _ _ _ (ap (λ (k : ℕ). 16 * (k + 1) + c.args.number) (c.first_block.ensures.block can));
  work = λ n lt.
      let l = chip_limits c.args.layout.now.limits in
      (omega arith, λ w. (subst (λ (k : ℕ). 16 * (k + 1) + c.args.number < 16 * room_for l) (sym (c.first_block.ensures.block whole)) (in_slot l (is_second c.args.self.now.slot) c.args.number c.requires), lt));
}
