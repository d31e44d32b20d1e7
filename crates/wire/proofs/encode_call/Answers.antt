-- A call with a list and one without, each too long or written.
use Rattle.std.proofs.Common.{◌≡◌, ℕ, ◌+◌, ◌*◌, List, ◌∷◌, length, take, sym, refl, ap, ap₂, ◌∙◌, inl, inr, arith}
use Rattle.protocol.specs.Verbs.{verb_number}
use Rattle.wire.specs.Bytes.{row_of, over}
use Rattle.wire.proofs.Decoding.{list_at_listed, list_at_plain}
use Rattle.wire.proofs.Encoding.{plain, listed}
use Rattle.wire.proofs.Fields.{row_length}
use Rattle.wire.proofs.Written.{then_more, over_front, same_row}
use Rattle.wire.proofs.encode_call.Goals as goal

pub returns-then-out-list_place : goal.returns-then-out-list_place
returns-then-out-list_place c =
    let p = plain c.args.call _ _ _ c.args.list.now c.verb-verb.ensures c.fields-fields.ensures c.field_count.ensures.counted c.if-not-takes_list.ensures in
    let l = list_at_plain (verb_number c.verb-verb.result) _ c.field_count.ensures.counted c.if-not-takes_list.ensures in
    (inr (omega (arith, p.long, c.list_place.ensures.place)), refl)

pub put_row-requires : goal.put_row-requires
put_row-requires c =
    let p = plain c.args.call _ _ _ c.args.list.now c.verb-verb.ensures c.fields-fields.ensures c.field_count.ensures.counted c.if-not-takes_list.ensures in
    let l = list_at_plain (verb_number c.verb-verb.result) _ c.field_count.ensures.counted c.if-not-takes_list.ensures in
    omega (arith, p.counted, c.list_place.ensures.place)

pub returns-then-not-takes_list : goal.returns-then-not-takes_list
returns-then-not-takes_list c =
    let p = plain c.args.call _ _ _ c.args.list.now c.verb-verb.ensures c.fields-fields.ensures c.field_count.ensures.counted c.if-not-takes_list.ensures in
    let l = list_at_plain (verb_number c.verb-verb.result) _ c.field_count.ensures.counted c.if-not-takes_list.ensures in (
      omega (arith, ap length p.unlisted),
      omega (arith, p.long, c.list_place.ensures.place),
      omega (arith, p.long, p.counted, c.put_row.ensures.end),
      c.put_row.ensures.after ∙ (ap (λ x. over 0 x c.args.out.now) (ap₂ (λ k ns. k ∷ ns) c.number.ensures (same_row 4 _) ∙ sym p.row) ∙ over_front _ _),
    )

pub returns-then-list-gt-LONGEST_LIST : goal.returns-then-list-gt-LONGEST_LIST
returns-then-list-gt-LONGEST_LIST c =
    let p = listed c.args.call _ _ _ c.args.list.now c.verb-verb.ensures c.fields-fields.ensures c.field_count.ensures.counted c.if-not-takes_list.ensures in
    (inl (omega (arith, ap length p.listed)), refl)

pub returns-then-out-list_place-2 : goal.returns-then-out-list_place-2
returns-then-out-list_place-2 c =
    let p = listed c.args.call _ _ _ c.args.list.now c.verb-verb.ensures c.fields-fields.ensures c.field_count.ensures.counted c.if-not-takes_list.ensures in
    let l = list_at_listed (verb_number c.verb-verb.result) _ c.field_count.ensures.counted c.if-not-takes_list.ensures in
    (inr (omega (arith, p.long, c.list_place-2.ensures.place)), refl)

pub put_row-end-requires : goal.put_row-end-requires
put_row-end-requires c =
    let p = listed c.args.call _ _ _ c.args.list.now c.verb-verb.ensures c.fields-fields.ensures c.field_count.ensures.counted c.if-not-takes_list.ensures in
    let l = list_at_listed (verb_number c.verb-verb.result) _ c.field_count.ensures.counted c.if-not-takes_list.ensures in
    omega (arith, p.counted, c.list_place-2.ensures.place)

pub put_row-requires-2 : goal.put_row-requires-2
put_row-requires-2 c =
    let p = listed c.args.call _ _ _ c.args.list.now c.verb-verb.ensures c.fields-fields.ensures c.field_count.ensures.counted c.if-not-takes_list.ensures in
    let l = list_at_listed (verb_number c.verb-verb.result) _ c.field_count.ensures.counted c.if-not-takes_list.ensures in
    omega (arith, p.counted, c.list_place-2.ensures.place, c.put_row-end.ensures.end)

pub returns : goal.returns
returns c =
    let k : ℕ = verb_number c.verb-verb.result in
    let fs : List ℕ = take c.field_count.result c.fields-fields.result in
    let p = listed c.args.call _ _ _ c.args.list.now c.verb-verb.ensures c.fields-fields.ensures c.field_count.ensures.counted c.if-not-takes_list.ensures in
    let l = list_at_listed k _ c.field_count.ensures.counted c.if-not-takes_list.ensures in
    let long : length (k ∷ row_of 4 fs) ≡ 1 + 4 * c.field_count.result = let w = row_length 4 fs in omega (arith, p.counted) in
    let front = c.put_row-end.ensures.after ∙ ap₂ (λ n ns. over 0 (n ∷ ns) c.args.out.now) c.number-2.ensures (same_row 4 fs) in
    let behind = c.put_row-2.ensures.after ∙ ap (λ ns. over c.put_row-end.result (length c.args.list.now ∷ ns) c.put_row-end.new.out) (same_row 4 c.args.list.now) in (
      omega (arith, ap length p.listed),
      omega (arith, p.long, c.list_place-2.ensures.place),
      omega (arith, p.long, p.counted, c.put_row-end.ensures.end, c.put_row-2.ensures.end),
      then_more 0 _ (k ∷ row_of 4 fs) (length c.args.list.now ∷ row_of 4 c.args.list.now) c.args.out.now _ _ (omega (arith, c.list_place-2.ensures.place)) front behind (omega (arith, p.counted, c.put_row-end.ensures.end))
          ∙ (ap (λ x. over 0 x c.args.out.now) (sym p.row) ∙ over_front _ _),
    )
