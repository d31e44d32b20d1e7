-- How long a row should be, by its count if it has one.
use Rattle.std.proofs.Common.{◌≡◌, ◌+◌, ◌*◌, get_or, refl, arith}
use Rattle.std.proofs.lemmas.Grind.{common_steps}
use Rattle.protocol.specs.Forms.{field_count}
use Rattle.protocol.specs.Verbs.{verb_number}
use Rattle.wire.proofs.Decoding.{extent_listed, extent_plain, list_at_listed, list_at_plain}
use Rattle.wire.proofs.whole_length.Goals as goal

pub returns-then-not-takes_list : goal.returns-then-not-takes_list
returns-then-not-takes_list c =
    let k = verb_number c.args.verb in
    omega (arith, c.list_place-place.ensures.place, list_at_plain k (field_count k) refl c.if-not-takes_list.ensures, extent_plain k (field_count k) c.args.bytes.now refl c.if-not-takes_list.ensures)

pub overflow_sub-place : goal.overflow_sub-place
overflow_sub-place c =
    let k = verb_number c.args.verb in
    omega (arith, c.list_place-place.ensures.place, list_at_listed k (field_count k) refl c.if-not-takes_list.ensures)

pub returns : goal.returns
returns c =
    let k = verb_number c.args.verb in
    let at = list_at_listed k (field_count k) refl c.if-not-takes_list.ensures in
    let e = extent_listed k (field_count k) c.args.bytes.now refl c.if-not-takes_list.ensures in
    let l = c.get.ensures.lookup in
    let count : c.from.result ≡ get_or c.args.bytes.now (1 + 4 * field_count k) 0 = grind (arith, common_steps) in
    omega (arith, c.list_place-place.ensures.place)
