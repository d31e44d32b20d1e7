use Rattle.std.proofs.Common.{◌≡◌, ℕ, ◌+◌, ◌*◌, ◌/◌, ◌<◌, sym, ap, ◌∙◌, subst, arith}
use Rattle.std.proofs.lemmas.Bool.{eq-eqb, ne_eqb}
use Rattle.meaning.specs.Promise.{room_for, whole}
use Rattle.limits.specs.Opening.{limits_mean}
use Rattle.journal.specs.Slots.{first}
use Rattle.journal_rows.specs.Layout.{slot_blocks}
use Rattle.journal.specs.Codes.{is_second}
use Rattle.journal_steps.specs.Steps.{chip_limits, journal_of}
use Rattle.journal_steps.proofs.Plans.{fill_first, fill_next, fill_last, same_block, same_page}
use Rattle.journal_steps.proofs.Ranges.{block_on, slot_on}
use Rattle.journal_steps.proofs.Journal.fill_ahead.Goals as goal

pub returns-then-number-pages : goal.returns-then-number-pages
returns-then-number-pages c = record {
  gives = λ can h call a e.
      let m = limits_mean can c.args.layout.now.limits in
      fill_last m (journal_of m c.args.self.now h) c.args.number a (omega arith) ∙ same_page _ _ _ _ (ap (λ (k : ℕ). 16 * k) (c.first_block.ensures.block can));
  work = tt;
  act = λ w. omega (arith, c.first_block.ensures.block whole, slot_on (chip_limits c.args.layout.now.limits) (is_second c.args.self.now.slot));
}

pub returns-then-number-ne0 : goal.returns-then-number-ne0
returns-then-number-ne0 c =
    let w = c.write_page.ensures.work c.args.pages (omega arith) in
    record {
      gives = λ can h call a e.
          let m = limits_mean can c.args.layout.now.limits in
          fill_next m (journal_of m c.args.self.now h) c.args.number a (omega arith) (ne_eqb _ _ (λ z. omega arith)) ∙ c.write_page.ensures.gives c.args.pages (omega arith) can h call a e;
      work = w.0;
      act = w.1;
    }

pub returns : goal.returns
returns c = record {
  gives = λ can h call a e.
      let m = limits_mean can c.args.layout.now.limits in
      let s : c.first_block-2.result ≡ first (slot_blocks m) (is_second c.args.self.now.slot) = c.first_block-2.ensures.block can in
      fill_first m (journal_of m c.args.self.now h) c.args.number a (omega arith) (eq-eqb _ _ (omega arith)) ∙ same_block _ _ _ (omega arith);
  work = omega arith;
  act = λ w.
      let l = chip_limits c.args.layout.now.limits in
      subst (λ (k : ℕ). k + 1 + c.args.number / 16 < room_for l) (sym (c.first_block-2.ensures.block whole)) (block_on l (is_second c.args.self.now.slot) c.args.number (omega arith));
}
