-- Each turn reads one more number of those that are left, up to the end of the line.
use Rattle.std.proofs.Common.{◌≡◌, ◌-◌, true, false, eqb, length, vec_items, sym, ap, ◌∙◌, arith}
use Rattle.std.proofs.lemmas.Result.{err_from_is_err_and}
use Rattle.scan.specs.Words.{next_word, list_in, onto}
use Rattle.scan.proofs.Readings.{list_next, list_done, list_over}
use Rattle.scan.proofs.read_list.Goals as goal

pub returns-then-is_empty : goal.returns-then-is_empty
returns-then-is_empty c =
    let e : eqb (length (next_word c.loop.rest.now)) 0 ≡ true = rw c.skip_spaces.ensures at (sym c.if-is_empty.ensures) in
    c.loop.invariant ∙ list_done _ (vec_items c.loop.list) c.loop.rest.now e

pub returns-in_err-next : goal.returns-in_err-next
returns-in_err-next c =
    let p = err_from_is_err_and c.from_residual.result c.from_residual.ensures.1 in
    let e : eqb (length (next_word c.loop.rest.now)) 0 ≡ false = rw c.skip_spaces.ensures at (sym c.if-is_empty.ensures) in
    let next = list_next 255 c.loop.counter (vec_items c.loop.list) c.loop.rest.now _ c.loop-test.true e c.in_err-next.ensures in
    rw (p.1, p.2) (c.loop.invariant ∙ next)

pub loop-preserved : goal.loop-preserved
loop-preserved c =
    let e : eqb (length (next_word c.loop.rest.now)) 0 ≡ false = rw c.skip_spaces.ensures at (sym c.if-is_empty.ensures) in
    let next = list_next 255 c.loop.counter (vec_items c.loop.list) c.loop.rest.now _ c.loop-test.true e c.in_ok-next.ensures in
    rw c.in_ok-push.ensures.items (c.loop.invariant ∙ next)

pub returns-then-not-is_empty : goal.returns-then-not-is_empty
returns-then-not-is_empty c =
    let e : eqb (length (next_word c.loop.rest.now)) 0 ≡ false = rw c.skip_spaces-over.ensures at (sym c.if-not-is_empty.ensures) in
    let none_left : 255 - c.loop.counter ≡ 0 = omega arith in
    rw c.skip_spaces-over.ensures
    (c.loop.invariant ∙ ap (λ n. onto (vec_items c.loop.list) (list_in n c.loop.rest.now)) none_left ∙ list_over (vec_items c.loop.list) c.loop.rest.now e)

pub returns : goal.returns
returns c =
    let e : eqb (length (next_word c.loop.rest.now)) 0 ≡ true = rw c.skip_spaces-over.ensures at (sym c.if-not-is_empty.ensures) in
    c.loop.invariant ∙ list_done _ (vec_items c.loop.list) c.loop.rest.now e
