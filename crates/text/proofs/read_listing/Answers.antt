-- Each way back is one of the four ways in which a list stands behind its word.
use Rattle.std.proofs.Common.{◌≡◌, true, false, eqb, length, sym, ap, ◌∙◌}
use Rattle.protocol.specs.Verbs.{verb_number}
use Rattle.scan.specs.Words.{got, bad, next_word, word_in}
use Rattle.std.specs.Str.{bytes_eq}
use Rattle.text.specs.CallLines.{joint}
use Rattle.text.proofs.Listings.{behind_word, no_word, at_end, too_long}
use Rattle.text.proofs.read_listing.Goals as goal
use Rattle.text.proofs.read_listing.Goals.{then-takes_list+else-eq, else-takes_list+else-is_empty}

pub returns-then-eq : goal.returns-then-eq
returns-then-eq c =
    let f : bytes_eq (word_in c.args.line.now) (joint (verb_number c.args.verb)) ≡ true = rw (c.read_word-next.ensures.word, c.as_bytes.ensures.value, c.list_word.ensures) at (sym c.if-eq.ensures) in
    let e = behind_word (verb_number c.args.verb) c.args.line.now (sym c.if-takes_list.ensures) f in
    rw e (rw c.read_word-next.ensures.rest at c.read_list.ensures)

pub returns-then-is_empty : goal.returns-then-is_empty
returns-then-is_empty c =
    let g : eqb (length (next_word c.args.line.now)) 0 ≡ true = rw c.skip_spaces.ensures at (sym c.if-is_empty.ensures) in
    at_end (verb_number c.args.verb) c.args.line.now (sym c.if-takes_list.ensures) g ∙ ap (λ l. got l _) (sym c.new.ensures.items)

pub returns : goal.returns
returns c = elim c.if-takes_list.branch [
  | then-takes_list+else-eq w ↦ (
      let f : bytes_eq (word_in c.args.line.now) (joint (verb_number c.args.verb)) ≡ false = rw (w.read_word-next.ensures.word, w.as_bytes.ensures.value, w.list_word.ensures) at (sym w.if-eq.ensures) in
      no_word (verb_number c.args.verb) c.args.line.now (sym w.if-takes_list.ensures) f ∙ ap (λ l. bad (length l)) (sym c.skip_spaces-2.ensures)
      )
  | else-takes_list+else-is_empty w ↦ (
      let g : eqb (length (next_word c.args.line.now)) 0 ≡ false = rw w.skip_spaces.ensures at (sym w.if-is_empty.ensures) in
      too_long (verb_number c.args.verb) c.args.line.now (sym w.if-takes_list.ensures) g ∙ ap (λ l. bad (length l)) (sym c.skip_spaces-2.ensures)
      )
]
