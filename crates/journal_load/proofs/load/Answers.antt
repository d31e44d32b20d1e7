-- No page of so many records, a record that can't be one, or all of them pushed.
use Rattle.std.proofs.Common.{◌≡◌, ℕ, ap, ◌∙◌, arith}
use Rattle.std.proofs.lemmas.Result.{err_from_is_err_and}
use Rattle.limits.specs.declared.Limits.{Limits}
use Rattle.store.specs.Whole.{house}
use Rattle.store.proofs.Lents.{lent_none, lent_both}
use Rattle.journal_rows.specs.Kinds.{kind_number}
use Rattle.journal_rows.specs.Sorts.{record_of, with_first}
use Rattle.journal_load.proofs.Sorts.{none_came, more_came, so_many_came, all_came, its_page, not_page, not_record}
use Rattle.journal_load.proofs.load.Goals as goal

pub returns-then-not-is_page : goal.returns-then-not-is_page
returns-then-not-is_page g c =
    let w = g.met.R.Record in
    record {
      loads = tt;
      came = tt;
      refused = not_page g.R.Record.sort w.laws c.args.page.now (house c.args.m.now) _ c.args.count (ap kind_number c.KIND.ensures ∙ w.kind_is) c.if-not-is_page.ensures;
      sound = c.requires.sound;
      lent = lent_none c.args.m.now;
    }

pub loop-k-init : goal.loop-k-init
loop-k-init g c = record { came = none_came g.R.Record.sort g.met.R.Record.laws c.args.page.now (house c.args.m.now); sound = c.requires.sound; lent = lent_none c.args.m.now }

pub loop-k-preserved : goal.loop-k-preserved
loop-k-preserved g c =
    let s = g.R.Record.sort in
    let w = g.met.R.Record in
    record {
      came =
          more_came s w.laws c.args.page.now (house c.args.m.now) (house c.loop-k.m) (house c.push.new.m) (g.R.Record.means c.in_ok-record.record) c.loop-k.k c.loop-k.invariant.came c.push.ensures.house
          (c.in_ok-record.ensures.0 ∙ ap (λ (v : ℕ). s.read (record_of v c.args.page.now c.loop-k.k)) w.words_are);
      sound = c.push.ensures.sound;
      lent = lent_both c.args.m.now c.loop-k.m c.push.new.m c.loop-k.invariant.lent c.push.ensures.lent;
    }

pub returns-in_err-record-clause-refused : goal.returns-in_err-record-clause-refused
returns-in_err-record-clause-refused g c =
    let w = g.met.R.Record in
    let none = not_record g.R.Record.sort w.laws c.args.page.now (house c.args.m.now) (house c.loop-k.m) c.loop-k.k _ c.args.count c.loop-k.invariant.came w.words_are c.loop-k-test.true c.in_err-record.ensures in
    let p = err_from_is_err_and c.from_residual.result c.from_residual.ensures.1 in
    rw p.1 none

pub push-requires : goal.push-requires
push-requires g c =
    let s = g.R.Record.sort in
    record {
      sound = c.loop-k.invariant.sound;
      space =
          omega (arith, c.requires.space, c.loop-k-test.true, so_many_came s g.met.R.Record.laws c.args.page.now (house c.args.m.now) (house c.loop-k.m) c.loop-k.k c.loop-k.invariant.came, ap (λ (l : Limits). s.most l) c.loop-k.invariant.lent.limits);
      range = c.in_ok-record.ensures.1;
    }

pub returns : goal.returns
returns g c =
    let s = g.R.Record.sort in
    let w = g.met.R.Record in
    let n : c.loop-k.k ≡ c.args.count = omega arith in
    let h = house c.args.m.now in
    record {
      loads = all_came s w.laws c.args.page.now h (house c.loop-k.m) c.args.count c.loop-k.k (its_page s w.laws c.args.page.now _ c.args.count (ap kind_number c.KIND.ensures ∙ w.kind_is) c.if-not-is_page.ensures) n c.loop-k.invariant.came;
      came = c.loop-k.invariant.came ∙ ap (with_first s c.args.page.now h) n;
      refused = tt;
      sound = c.loop-k.invariant.sound;
      lent = c.loop-k.invariant.lent;
    }
