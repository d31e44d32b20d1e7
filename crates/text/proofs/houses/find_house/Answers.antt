-- By the first word, the five numbers, and what stands behind them.
use Rattle.std.proofs.Common.{◌≡◌, true, false, eqb, [], length, take, codes, sym, ap, ◌∙◌}
use Rattle.std.proofs.lemmas.Bool.{not-true, not-false}
use Rattle.std.proofs.lemmas.Result.{err_from_is_err_and}
use Rattle.std.specs.Str.{bytes_eq}
use Rattle.scan.specs.Words.{got, bad, next_word, word_in, past_word, numbers_in}
use Rattle.text.proofs.Opens.{no_house, a_house, ended, too_long, five_read}
use Rattle.text.proofs.houses.find_house.Goals as goal

pub returns-then-ne : goal.returns-then-ne
returns-then-ne c =
    let e : bytes_eq (word_in c.args.line.now) (codes "house") ≡ false = not-true _ (rw (c.read_word-first.ensures.word, c.as_bytes.ensures.value) at (sym c.if-ne.ensures)) in
    no_house c.args.line.now e ∙ ap (λ l. bad (length l)) (sym c.skip_spaces.ensures)

pub returns-in_err-read : goal.returns-in_err-read
returns-in_err-read c =
    let e : bytes_eq (word_in c.args.line.now) (codes "house") ≡ true = not-false _ (rw (c.read_word-first.ensures.word, c.as_bytes.ensures.value) at (sym c.if-ne.ensures)) in
    let p = err_from_is_err_and c.from_residual.result c.from_residual.ensures.1 in
    rw (p.1, p.2) (a_house c.args.line.now _ e (sym (rw c.read_word-first.ensures.rest at c.in_err-read.ensures)))

pub returns-then-not-is_empty : goal.returns-then-not-is_empty
returns-then-not-is_empty c =
    let ns = take 5 c.in_ok-read.read.value in
    let rest = c.in_ok-read.read.rest.now in
    let e : bytes_eq (word_in c.args.line.now) (codes "house") ≡ true = not-false _ (rw (c.read_word-first.ensures.word, c.as_bytes.ensures.value) at (sym c.if-ne.ensures)) in
    let f : numbers_in 5 (past_word c.args.line.now) ≡ got ns rest = sym (rw c.read_word-first.ensures.rest at c.in_ok-read.ensures) in
    let z : eqb (length (next_word rest)) 0 ≡ false = rw c.skip_spaces-over.ensures at (sym c.if-not-is_empty.ensures) in
    a_house c.args.line.now (got ns rest) e f ∙ too_long rest ns z ∙ ap (λ l. bad (length l)) (sym c.skip_spaces-over.ensures)

pub returns : goal.returns
returns c =
    let ns = take 5 c.in_ok-read.read.value in
    let rest = c.in_ok-read.read.rest.now in
    let e : bytes_eq (word_in c.args.line.now) (codes "house") ≡ true = not-false _ (rw (c.read_word-first.ensures.word, c.as_bytes.ensures.value) at (sym c.if-ne.ensures)) in
    let f : numbers_in 5 (past_word c.args.line.now) ≡ got ns rest = sym (rw c.read_word-first.ensures.rest at c.in_ok-read.ensures) in
    let z : eqb (length (next_word rest)) 0 ≡ true = rw c.skip_spaces-over.ensures at (sym c.if-not-is_empty.ensures) in
    a_house c.args.line.now (got ns rest) e f ∙ ended rest ns z ∙ ap (λ l. got l []) (five_read (past_word c.args.line.now) c.in_ok-read.read.value rest f)
