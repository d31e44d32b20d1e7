-- Not of this house, not within its limits, of no turn, or a commit record.
use Rattle.std.proofs.Common.{sym, ap, ◌∙◌, arith}
use Rattle.meaning.specs.Promise.{whole}
use Rattle.limits.specs.Opening.{limits_mean}
use Rattle.wire.specs.Bytes.{numbers_in}
use Rattle.journal.specs.Codes.{turn_of}
use Rattle.journal.specs.Codes.{number_turn}
use Rattle.journal_load.proofs.Commits.{turn_so, not_of, not_in, is_commit, within_tells}
use Rattle.journal_load.proofs.read_commit.Goals as goal

pub returns-then-not-is_of : goal.returns-then-not-is_of
returns-then-not-is_of c = record {
  told = λ can. not_of (limits_mean can c.args.layout.now.limits) (numbers_in c.args.page.now) (sym (c.if-not-is_of.ensures can));
  within = tt;
}

pub returns-then-not-is_within : goal.returns-then-not-is_within
returns-then-not-is_within c = record {
  told = λ can. not_in (limits_mean can c.args.layout.now.limits) (numbers_in c.args.page.now) (sym (c.if-not-is_within.ensures can));
  within = tt;
}

pub returns : goal.returns
returns c =
    let ns = numbers_in c.args.page.now in
    let w = within_tells (limits_mean whole c.args.layout.now.limits) ns (sym (c.if-not-is_within.ensures whole)) in
    record {
      told = λ can.
          is_commit (limits_mean can c.args.layout.now.limits) ns (sym (c.if-not-is_of.ensures can)) (sym (c.if-not-is_within.ensures can)) (turn_of c.in_ok-turn.turn) (turn_so c.word.result c.try_from.result c.in_ok-turn.turn c.try_from.ensures (sym c.in_ok-turn.was ∙ c.ok.ensures.value) ∙ ap number_turn c.word.ensures)
          _ _ _ _ _ c.word-2.ensures c.word-3.ensures c.word-4.ensures c.word-5.ensures c.word-6.ensures;
      within = record {
        clock = omega (arith, w.0, c.word-2.ensures);
        legs = omega (arith, w.1, c.word-3.ensures);
        fares = omega (arith, w.2, c.word-4.ensures);
        bookings = omega (arith, w.3, c.word-5.ensures);
        begins = omega (arith, w.4, c.word-6.ensures);
      };
    }
