-- Each work gives its act, and leaves the rest.
use Rattle.std.proofs.Common.{◌+◌, ◌*◌, sym, subst, arith}
use Rattle.meaning.specs.Promise.{whole}
use Rattle.journal.specs.Codes.{is_second}
use Rattle.journal_steps.specs.Steps.{Gives, WorkFits, chip_limits}
use Rattle.journal_steps.specs.declared.Work.{Work}
use Rattle.journal_steps.specs.declared.Work.TheVariants as work
use Rattle.journal_steps.specs.declared.Act.TheVariants as act
use Rattle.journal_steps.proofs.Plans.{same_block}
use Rattle.journal_steps.proofs.Ranges.{ring_on, slot_on}
use Rattle.journal_steps.proofs.Journal.next.Goals as goal

pub returns-in-Logging : goal.returns-in-Logging
returns-in-Logging c =
    let w = c.log_ahead.ensures c.args.self.now c.args.pages in
    record { gives = subst (λ (x : Work). Gives c.args.layout.now.limits c.args.self.now c.args.pages x c.log_ahead.result.act c.log_ahead.result.work) (sym c.in-Logging.is) w.0; work = w.1; act = w.2 c.args.work }

pub returns-in-LoggingNow : goal.returns-in-LoggingNow
returns-in-LoggingNow c =
    let w = c.write_call.ensures c.args.self.now c.args.pages in
    record { gives = subst (λ (x : Work). Gives c.args.layout.now.limits c.args.self.now c.args.pages x c.write_call.result.act c.write_call.result.work) (sym c.in-LoggingNow.is) w.0; work = w.1; act = w.2 c.args.work }

pub returns-in-Opening : goal.returns-in-Opening
returns-in-Opening c = record { gives = subst (λ (x : Work). Gives c.args.layout.now.limits c.args.self.now c.args.pages x (act.Erase (2 * c.slot_blocks.result)) (work.OpeningMore)) (sym c.in-Opening.is) (λ can h call a e. same_block _ _ _ (omega (arith, c.slot_blocks.ensures.blocks can))); work = tt; act = omega (arith, c.slot_blocks.ensures.blocks whole, ring_on (chip_limits c.args.layout.now.limits)) }

pub returns-in-OpeningMore : goal.returns-in-OpeningMore
returns-in-OpeningMore c = record { gives = subst (λ (x : Work). Gives c.args.layout.now.limits c.args.self.now c.args.pages x (act.Erase (2 * c.slot_blocks-in-OpeningMore.result + 1)) (work.Erasing)) (sym c.in-OpeningMore.is) (λ can h call a e. same_block _ _ _ (omega (arith, c.slot_blocks-in-OpeningMore.ensures.blocks can))); work = tt; act = omega (arith, c.slot_blocks-in-OpeningMore.ensures.blocks whole, ring_on (chip_limits c.args.layout.now.limits)) }

pub returns-in-Erasing : goal.returns-in-Erasing
returns-in-Erasing c = record { gives = subst (λ (x : Work). Gives c.args.layout.now.limits c.args.self.now c.args.pages x (act.Erase c.first_block.result) (work.Filling 0)) (sym c.in-Erasing.is) (λ can h call a e. same_block _ _ _ (c.first_block.ensures.block can)); work = omega arith; act = omega (arith, c.first_block.ensures.block whole, slot_on (chip_limits c.args.layout.now.limits) (is_second c.args.self.now.slot)) }

pub returns-in-FillingNow : goal.returns-in-FillingNow
returns-in-FillingNow c =
    let lt = subst (WorkFits c.args.layout.now.limits c.args.pages) c.in-FillingNow.is c.requires.work in
    let w = c.write_page.ensures.work c.args.pages lt in
    record {
      gives = subst (λ (x : Work). Gives c.args.layout.now.limits c.args.self.now c.args.pages x c.write_page.result.act c.write_page.result.work) (sym c.in-FillingNow.is) (c.write_page.ensures.gives c.args.pages lt);
      work = w.0;
      act = w.1 c.args.work;
    }

pub returns-in-Filling : goal.returns-in-Filling
returns-in-Filling c = record {
  gives = subst (λ (x : Work). Gives c.args.layout.now.limits c.args.self.now c.args.pages x c.fill_ahead.result.act c.fill_ahead.result.work) (sym c.in-Filling.is) c.fill_ahead.ensures.gives;
  work = c.fill_ahead.ensures.work;
  act = c.fill_ahead.ensures.act c.args.work;
}
