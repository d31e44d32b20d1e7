-- Each way out of the decoder is one case of what a row of bytes is.
use Rattle.std.proofs.Common.{◌≡◌, ℕ, ◌-◌, ◌≤◌, ◌∷◌, List, length, get_or, take, drop, sym, refl, ap, ◌∙◌, subst, arith}
use Rattle.std.proofs.lemmas.List.{take_rest, get_or-take}
use Rattle.meaning.specs.Calls.{call_number}
use Rattle.protocol.specs.Forms.{call_of, field_count, made}
use Rattle.protocol.specs.Verbs.{verb_number}
use Rattle.protocol.proofs.Numbers.{few_fields, known}
use Rattle.wire.specs.Bytes.{numbers_in}
use Rattle.wire.specs.Rows.{CanBeWritten, decoded, list_at}
use Rattle.wire.proofs.Decoding.{first_of, decoded_empty, decoded_unknown, decoded_short, decoded_long, decoded_whole, made_same, list_within}
use Rattle.wire.proofs.Encoding.{is_call}
use Rattle.wire.proofs.Back.{bytes_from, calls_fit}
use Rattle.wire.proofs.decode.Goals as goal

pub returns-in_default-clause-means : goal.returns-in_default-clause-means
returns-in_default-clause-means c = decoded_empty c.args.bytes.now 0 c.in_default.ensures.cases refl

pub returns-in_default-try_from-clause-means : goal.returns-in_default-try_from-clause-means
returns-in_default-try_from-clause-means c =
    decoded_unknown c.args.bytes.now c.in-Some.number.now 0 (omega (arith, c.in-Some.ensures.cases.1)) (first_of c.args.bytes.now _ _ _ c.in-Some.ensures.cases.0 refl) c.in_default-try_from.ensures.1 refl

pub returns-then-bytes-length-clause-means : goal.returns-then-bytes-length-clause-means
returns-then-bytes-length-clause-means c =
    let first = first_of c.args.bytes.now _ _ _ c.in-Some.ensures.cases.0 c.in-Ok.ensures in
    decoded_short c.args.bytes.now (verb_number c.in-Ok.verb) _ (omega (arith, c.in-Some.ensures.cases.1)) first (known c.in-Ok.verb) (omega (arith, c.whole_length-length.ensures)) refl

pub returns-then-bytes-length-2-clause-means : goal.returns-then-bytes-length-2-clause-means
returns-then-bytes-length-2-clause-means c =
    let first = first_of c.args.bytes.now _ _ _ c.in-Some.ensures.cases.0 c.in-Ok.ensures in
    decoded_long c.args.bytes.now (verb_number c.in-Ok.verb) _ (omega (arith, c.in-Some.ensures.cases.1)) first (known c.in-Ok.verb) (omega (arith, c.whole_length-length.ensures)) c.whole_length-length.ensures

pub slice_bounds-list-count : goal.slice_bounds-list-count
slice_bounds-list-count c = omega (arith, (list_within (verb_number c.in-Ok.verb) c.args.bytes.now).1, c.whole_length-length.ensures, c.list_place.ensures.place)

pub slice_bounds-list-start : goal.slice_bounds-list-start
slice_bounds-list-start c = omega (arith, (list_within (verb_number c.in-Ok.verb) c.args.bytes.now).1, c.whole_length-length.ensures, c.list_place.ensures.place)

pub returns : goal.returns
returns c =
    let k : ℕ = verb_number c.in-Ok.verb in
    let all : List ℕ = c.args.bytes.now in
    let is : all ≡ c.in-Some.number.now ∷ c.in-Some.behind.now = c.in-Some.ensures.cases.0 in
    let first : k ≡ get_or all 0 0 = first_of all _ _ _ is c.in-Ok.ensures in
    let place : c.list_place.result ≡ list_at k = c.list_place.ensures.place in
    let bytes : List ℕ = drop (list_at k) all in
    let rest = take_rest all c.list_place.result in
    let part : take (length all - c.list_place.result) (drop c.list_place.result all) ≡ bytes = cc in
    let fields : List ℕ = take (field_count k) (numbers_in (drop 1 all)) in
    let few : field_count k ≤ 5 = few_fields k (known c.in-Ok.verb) in
    let same : made k c.first_numbers.result (numbers_in bytes) ≡ made k fields (numbers_in bytes) =
    made_same k (known c.in-Ok.verb) c.first_numbers.result fields (numbers_in bytes)
    (λ i h. c.first_numbers.ensures i (omega arith) ∙ (ap (λ w. get_or (numbers_in (drop 1 w)) i 0) (sym is) ∙ sym (get_or-take (field_count k) (numbers_in (drop 1 all)) i 0 h))) in
    let whole : made k fields (numbers_in bytes) ≡ decoded all = decoded_whole all k (omega (arith, c.in-Some.ensures.cases.1)) first (known c.in-Ok.verb) (omega (arith, c.whole_length-length.ensures)) in
    let means : call_of c.with-call.result (numbers_in (take (length all - c.list_place.result) (drop c.list_place.result all))) ≡ decoded all =
    ap (λ w. call_of c.with-call.result (numbers_in w)) part ∙ (c.with-call.ensures (numbers_in bytes) ∙ (same ∙ whole)) in
    let fits = calls_fit all (bytes_from all (λ i. (c.type_inv.bytes i).fits)) (subst (λ x. call_number x ≤ 10) means (is_call c.with-call.result _)) in
    record { means = means; part = part ∙ ap (λ n. drop (list_at n) all) first; fits = subst CanBeWritten (sym means) fits }
