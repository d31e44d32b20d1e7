-- A refusal changes nothing; else the first byte tells.
use Rattle.std.proofs.Common.{◌<◌, length, sym, ap, ◌∙◌, arith}
use Rattle.std.proofs.lemmas.Bool.{eqb-true}
use Rattle.protocol.specs.Forms.{answer_of}
use Rattle.protocol.specs.declared.Answer.{Answer}
use Rattle.wire.proofs.Back.{bytes_from}
use Rattle.session.proofs.Changes.{refused_so, changes_so, no_refusal}
use Rattle.session.proofs.is_change.Goals as goal

pub returns-in-Refused : goal.returns-in-Refused
returns-in-Refused c = record { changed = λ l h list e. sym (refused_so l h _ _ _ (ap (λ (a : Answer). answer_of a list) (sym c.in-Refused.is) ∙ e)); bytes = bytes_from c.args.row.now (λ i. omega (arith, c.type_inv.row i)) }

pub returns-then-not-is_empty : goal.returns-then-not-is_empty
returns-then-not-is_empty c = record { changed = λ l h list e. sym (changes_so l h c.args.row.now _ (no_refusal c.args.answer list c.in_default.not-Refused) e).1; bytes = bytes_from c.args.row.now (λ i. omega (arith, c.type_inv.row i)) }

pub returns-else-not-is_empty : goal.returns-else-not-is_empty
returns-else-not-is_empty c = record {
  changed = λ l h list e.
      let some : 0 < length c.args.row.now = (changes_so l h c.args.row.now _ (no_refusal c.args.answer list c.in_default.not-Refused) e).0 in
      absurd (omega (arith, eqb-true _ _ (sym c.if-not-is_empty.ensures)));
  bytes = bytes_from c.args.row.now (λ i. omega (arith, c.type_inv.row i));
}
