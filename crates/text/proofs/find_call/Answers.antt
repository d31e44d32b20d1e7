-- By the first word: unknown, or the call's.
use Rattle.std.proofs.Common.{◌≡◌, length, sym, ap, ◌∙◌}
use Rattle.protocol.specs.Verbs.{verb_number}
use Rattle.scan.specs.Words.{bad, word_in}
use Rattle.text.specs.CallLines.{place_among, verbs}
use Rattle.text.proofs.Verbs.{number_known, unknown_word, known_word}
use Rattle.text.proofs.find_call.Goals as goal

pub returns-in_default : goal.returns-in_default
returns-in_default c =
    let e : place_among (word_in c.args.line.now) verbs ≡ 11 = rw c.read_word-first.ensures.word at c.in_default.ensures in
    unknown_word c.args.line.now e ∙ ap (λ l. bad (length l)) (sym c.skip_spaces.ensures)

pub returns : goal.returns
returns c =
    let e : place_among (word_in c.args.line.now) verbs ≡ verb_number c.in-Some.verb = rw c.read_word-first.ensures.word at c.in-Some.ensures in
    rw (known_word c.args.line.now (verb_number c.in-Some.verb) (number_known c.in-Some.verb) e) (rw c.read_word-first.ensures.rest at c.read_rest.ensures)
