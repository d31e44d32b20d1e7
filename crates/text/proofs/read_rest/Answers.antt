-- The numbers, then the list, then the call put together from them.
use Rattle.std.proofs.Common.{◌≡◌, min, [], vec_items, sym, ap, ◌∙◌, arith}
use Rattle.protocol.specs.Forms.{field_count}
use Rattle.protocol.specs.Verbs.{verb_number}
use Rattle.scan.specs.Words.{got}
use Rattle.std.proofs.lemmas.Result.{err_from_is_err_and}
use Rattle.text.proofs.Assembled.{made_take, numbers_stop, list_stop, list_go}
use Rattle.text.proofs.read_rest.Goals as goal

pub returns-in_err-fields : goal.returns-in_err-fields
returns-in_err-fields c =
    let n : min c.field_count.result 5 ≡ field_count (verb_number c.args.verb) = omega arith in
    let p = err_from_is_err_and c.from_residual.result c.from_residual.ensures.1 in
    rw (p.1, p.2) (numbers_stop (verb_number c.args.verb) _ c.args.line.now (sym (rw n at c.in_err-fields.ensures)))

pub returns-in_err-list : goal.returns-in_err-list
returns-in_err-list c =
    let n : min c.field_count.result 5 ≡ field_count (verb_number c.args.verb) = omega arith in
    let p = err_from_is_err_and c.from_residual-in_err-list.result c.from_residual-in_err-list.ensures.1 in
    rw (p.1, p.2) (list_stop (verb_number c.args.verb) c.args.line.now _ c.in_ok-fields.fields.rest.now _ (sym (rw n at c.in_ok-fields.ensures)) c.in_err-list.ensures)

pub returns : goal.returns
returns c =
    let n : min c.field_count.result 5 ≡ field_count (verb_number c.args.verb) = omega arith in
    list_go (verb_number c.args.verb) c.args.line.now _ c.in_ok-fields.fields.rest.now (vec_items c.in_ok-list.list) (sym (rw n at c.in_ok-fields.ensures)) c.in_ok-list.ensures
    ∙ ap (λ x. got x []) (made_take c.args.verb c.in_ok-fields.fields.value (vec_items c.in_ok-list.list) ∙ sym (c.with-call.ensures (vec_items c.in_ok-list.list)))
