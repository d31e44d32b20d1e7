-- Each test in its turn; the last one decides.
use Rattle.std.proofs.Common.{sym, ap, ◌∙◌, subst}
use Rattle.meaning.specs.Calls.{no_twice}
use Rattle.journal_words.proofs.Words.{whole_part}
use Rattle.journal_ranges.proofs.Fits.{AllBelow, index_all, all_index, never, asks_few, asks_pass, stands_pass, booking_fits}
use Rattle.journal_ranges.proofs.booking_in_range.Goals as goal

pub returns-then-not-asks_in_range : goal.returns-then-not-asks_in_range
returns-then-not-asks_in_range c = record {
  yes = never;
  few = never;
  no = λ e h f. never (c.if-not-asks_in_range.ensures ∙ asks_pass c.args.legs c.args.b.now c.requires h f);
}

pub returns-then-not-stands_in_range : goal.returns-then-not-stands_in_range
returns-then-not-stands_in_range c = record {
  yes = never;
  few = never;
  no = λ e h f. never (c.if-not-stands_in_range.ensures ∙ stands_pass c.args.legs c.args.b.now c.requires f);
}

pub returns-then-not-are_below : goal.returns-then-not-are_below
returns-then-not-are_below c =
    let b = c.args.b.now in
    record {
      yes = never;
      few = never;
      no = λ e h f. never (sym c.if-not-are_below.true ∙ c.are_below.ensures.1 (all_index c.args.legs _ (subst (AllBelow c.args.legs) (sym (whole_part b.count b.legs)) f.there)));
    }

pub returns : goal.returns
returns c =
    let b = c.args.b.now in
    let asks = sym c.if-not-asks_in_range.ensures in
    let stands = sym c.if-not-stands_in_range.ensures in
    let apart = c.are_apart.ensures ∙ ap no_twice (whole_part b.count b.legs) in
    record {
      yes = λ e. booking_fits c.args.legs b c.requires asks stands (subst (AllBelow c.args.legs) (whole_part b.count b.legs) (index_all c.args.legs _ (c.are_below.ensures.0 c.if-not-are_below.false))) (sym apart ∙ e);
      few = λ e. asks_few c.args.legs b c.requires asks;
      no = λ e h f. never (sym e ∙ apart ∙ f.apart);
    }
