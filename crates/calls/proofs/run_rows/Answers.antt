-- Each turn does one call more of the run.
use Rattle.std.proofs.Common.{◌≡◌, ℕ, List, [], get_or, sym, refl, ap, ◌∙◌, ap₂, arith, Bor}
use Rattle.std.proofs.lemmas.List.{get_or-map, length-map, take_all}
use Rattle.meaning.specs.House.{House}
use Rattle.meaning.specs.Calls as meaning
use Rattle.meaning.specs.Calls.{Call, after, ran}
use Rattle.limits.specs.Opening.{limits_mean}
use Rattle.store.specs.Whole.{house}
use Rattle.store.proofs.Lents.{lent_none, lent_both}
use Rattle.wire.specs.Rows.{decoded}
use Rattle.calls.specs.Stage.{calls_of, stage_at}
use Rattle.calls.proofs.Performed.{idle, promised, rows_more}
use Rattle.calls.proofs.run_rows.Goals as goal

-- the call that a row is
abbrev row_call : Bor (List ℕ) → Call
row_call r = decoded r.now

-- what stands in the place of a row that is not there
abbrev none : Bor (List ℕ)
none = record { ref_ptr = (0, 0); now = [] }

pub answer_row-requires : goal.answer_row-requires
answer_row-requires g c = record { idle = idle _ c.loop-row.m c.loop-row.invariant.reached }

pub loop-row-init : goal.loop-row-init
unfolding ran
loop-row-init g c = record { ran = refl; reached = c.requires.reached; lent = lent_none c.args.m.now }

pub loop-row-preserved : goal.loop-row-preserved
loop-row-preserved g c =
    let can = g.S.Stage.can in
    let d = c.answer_row.ensures.done in
    let i = c.loop-row.invariant in
    let xs = calls_of c.args.rows.now in
    let x = row_call (get_or c.args.rows.now c.loop-row.row-index none) in
    let l : stage_at can c.loop-row.m ≡ stage_at can c.args.m.now = ap (limits_mean can) i.lent.limits in
    let step = ap₂ (λ (v : meaning.Limits) (h : House). after v h x) l i.ran in
    let more = rows_more (stage_at can c.args.m.now) (house c.args.m.now) xs c.loop-row.row-index x (omega (arith, length-map c.args.rows.now row_call)) (sym (get_or-map row_call c.args.rows.now c.loop-row.row-index none x c.loop-row-test.true)) in
    record { ran = d.leaves ∙ step ∙ sym more; reached = d.reached i.reached; lent = lent_both c.args.m.now c.loop-row.m c.answer_row.new.m i.lent d.lent }

pub returns : goal.returns
returns g c =
    let can = g.S.Stage.can in
    let i = c.loop-row.invariant in
    let xs = calls_of c.args.rows.now in
    record {
      ran = i.ran ∙ ap (ran (stage_at can c.args.m.now) (house c.args.m.now)) (take_all c.loop-row.row-index xs (omega (arith, length-map c.args.rows.now row_call)));
      promised = promised (stage_at can c.loop-row.m) (house c.loop-row.m) i.reached;
      lent = i.lent;
    }
