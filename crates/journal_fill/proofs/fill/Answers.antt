-- Each turn puts one record right behind the others.
use Rattle.std.proofs.Common.{◌≡◌, ℕ, ◌+◌, ◌-◌, ◌*◌, min, [], ◌∷◌, length, take, drop, sym, ap, ◌∙◌, arith}
use Rattle.store.specs.Whole.{house}
use Rattle.wire.specs.Bytes.{row_of}
use Rattle.wire.proofs.Fields.{row_length}
use Rattle.journal_rows.specs.Kinds.{kind_number}
use Rattle.journal_rows.specs.Bytes.{filled}
use Rattle.journal_fill.proofs.Rows.{none_put, row_put, all_put}
use Rattle.journal_fill.proofs.fill.Goals as goal

pub loop-i-init : goal.loop-i-init
loop-i-init g c =
    let s = g.R.Record.sort in
    let w = g.met.R.Record in
    none_put s.row s.width s.kind s.to_page c.args.first (s.its (house c.args.m.now)) c.count.result c.min-count.result c.begin.new.page c.count.ensures
    (c.min-count.ensures ∙ ap (λ (k : ℕ). min k (c.count.result - c.args.first)) (c.A_PAGE.ensures ∙ w.a_page_is))
    (c.begin.ensures ∙ ap (λ (k : ℕ). filled (row_of 4 (k ∷ (c.min-count.result ∷ [])))) (ap kind_number c.KIND.ensures ∙ w.kind_is))

pub loop-i-preserved : goal.loop-i-preserved
loop-i-preserved g c =
    let s = g.R.Record.sort in
    let w = g.met.R.Record in
    let i = c.loop-i.i in
    let x = g.R.Record.means c.at-record.result in
    let wide : c.WORDS.result ≡ s.width = c.WORDS.ensures ∙ w.words_are in
    let wide-2 : c.WORDS-in-loop-i.result ≡ s.width = c.WORDS-in-loop-i.ensures ∙ w.words_are in
    let long : length (s.row x) ≡ s.width = omega (arith, ap length c.put.ensures, row_length 4 (s.row x), c.put.auto.part) in
    row_put s.row s.width s.kind s.to_page c.args.first (s.its (house c.args.m.now)) c.count.result c.min-count.result i _ _ x c.loop-i.page c.put.new.part (s.row x) c.count.ensures
    (c.min-count.ensures ∙ ap (λ (k : ℕ). min k (c.count.result - c.args.first)) (c.A_PAGE.ensures ∙ w.a_page_is))
    c.loop-i-test.true c.loop-i.invariant (ap s.row (c.at-record.ensures.means x)) long c.put.ensures (ap (λ (v : ℕ). 8 + i * (4 * v)) wide ∙ omega arith) (omega arith) w.laws.fits

pub returns : goal.returns
returns g c =
    let s = g.R.Record.sort in
    let w = g.met.R.Record in
    all_put s.row s.width s.kind s.to_page c.args.first (s.its (house c.args.m.now)) c.count.result c.min-count.result c.loop-i.i c.loop-i.page c.count.ensures
    (c.min-count.ensures ∙ ap (λ (k : ℕ). min k (c.count.result - c.args.first)) (c.A_PAGE.ensures ∙ w.a_page_is))
    c.loop-i-test.false c.loop-i.invariant ∙ sym (w.laws.bytes (take s.to_page (drop c.args.first (s.its (house c.args.m.now)))))
