-- The word, the numbers, the word before the list, and the list, one behind the other.
use Rattle.std.proofs.Common.{vec_items, sym, refl}
use Rattle.std.proofs.Output.{has_written_append, has_written_of_eq}
use Rattle.std.proofs.lemmas.List.{map-id}
use Rattle.protocol.specs.Verbs.{verb_number, verb_of}
use Rattle.text.proofs.Printed.{line_listed, line_unlisted}
use Rattle.text.proofs.calls.CallLineDisplay.fmt.Goals as goal

pub returns-in_ok-write_spaced-2-clause-writes : goal.returns-in_ok-write_spaced-2-clause-writes
returns-in_ok-write_spaced-2-clause-writes g c plain e =
    let t = g.W.Write.write_str_gives in
    let p = c.in_ok-write_str.ensures.writes plain refl in
    let q = c.in_ok-write_spaced.ensures (λ n. n) (λ n. refl) p.plain refl in
    let r = c.in_ok-write.ensures.writes q.plain refl in
    let s = c.in_ok-write_spaced-2.ensures (λ n. n) (λ n. refl) r.plain refl in
    let whole = line_listed c.args.self.now.call (verb_number (verb_of c.args.self.now.call)) c.fields-fields.result (vec_items c.args.self.now.list) c.fields-fields.ensures (rw c.verb-verb.ensures at (sym c.if-takes_list.ensures)) in
    has_written_of_eq t _ _ _ _ (simp (map-id, c.word_of.ensures, c.field_count.ensures.counted, c.list_word-word.ensures, c.as_slice.ensures.value, c.verb-verb.ensures) whole) (has_written_append t _ _ _ _ _ p (has_written_append t _ _ _ _ _ q (has_written_append t _ _ _ _ _ r s)))

pub returns-else-takes_list-clause-writes : goal.returns-else-takes_list-clause-writes
returns-else-takes_list-clause-writes g c plain e =
    let t = g.W.Write.write_str_gives in
    let p = c.in_ok-write_str.ensures.writes plain refl in
    let q = c.in_ok-write_spaced.ensures (λ n. n) (λ n. refl) p.plain refl in
    let whole = line_unlisted c.args.self.now.call (verb_number (verb_of c.args.self.now.call)) c.fields-fields.result (vec_items c.args.self.now.list) c.fields-fields.ensures (rw c.verb-verb.ensures at (sym c.if-takes_list.ensures)) in
    has_written_of_eq t _ _ _ _ (simp (map-id, c.word_of.ensures, c.field_count.ensures.counted, c.verb-verb.ensures) whole) (has_written_append t _ _ _ _ _ p q)
