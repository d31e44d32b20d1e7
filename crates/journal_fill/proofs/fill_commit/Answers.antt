-- The other numbers of the commit record stand right behind its kind and its turn.
use Rattle.std.proofs.Common.{◌≡◌, ℕ, List, [], ◌∷◌, ◌++◌, length, take, drop, sym, ap, ◌∙◌, arith}
use Rattle.limits.specs.Opening.{limits_mean}
use Rattle.store.specs.Whole.{Words, words, house}
use Rattle.store.proofs.Lists.{length_legs, length_fares, length_bookings}
use Rattle.wire.specs.Bytes.{row_of}
use Rattle.wire.proofs.Fields.{row_length}
use Rattle.journal.specs.Codes.{turn_of}
use Rattle.journal_rows.specs.Layout.{head}
use Rattle.journal_rows.specs.Bytes.{filled, commit_numbers}
use Rattle.journal_words.proofs.Pages.{more, row_append, page_is}
use Rattle.journal_fill.proofs.fill_commit.Goals as goal

pub overflow_cast-words : goal.overflow_cast-words
overflow_cast-words c = let w : Words = words c.args.m.now in omega (arith, length_legs w.legs w.opened, c.requires.opened, c.requires.limits.3)

pub overflow_cast-words-2 : goal.overflow_cast-words-2
overflow_cast-words-2 c = let w : Words = words c.args.m.now in omega (arith, length_fares w.fares w.filed, c.requires.filed, c.requires.limits.4)

pub overflow_cast-words-3 : goal.overflow_cast-words-3
overflow_cast-words-3 c = let w : Words = words c.args.m.now in omega (arith, length_bookings w.bookings w.sums w.booked, c.requires.booked, c.requires.limits.5)

pub returns : goal.returns
returns c = λ can.
    let all : List ℕ = commit_numbers (limits_mean can c.args.m.now.limits) (turn_of c.args.turn) (head (house c.args.m.now)) c.args.begins in
    let two : List ℕ = take 2 all in
    let rest : List ℕ = drop 2 all in
    let front : c.begin.new.page ≡ filled (row_of 4 two) = c.begin.ensures ∙ ap (λ n. filled (row_of 4 (1 ∷ (n ∷ [])))) c.from.ensures in
    let l : c.limits-limits.result ≡ c.args.m.now.limits = c.limits-limits.ensures in
    let same : ◌≡◌ {A = List ℕ} _ rest =
    λ d. (l d).gap ∷ ((l d).hold ∷ ((l d).legs ∷ ((l d).fares ∷ ((l d).bookings ∷ (c.clock.ensures d ∷ (c.leg_count.ensures d ∷ (c.fare_count.ensures d ∷ (c.booking_count.ensures d ∷ (c.args.begins ∷ []))))))))) in
    let new : c.put_words.new.part ≡ row_of 4 rest = c.put_words.ensures ∙ ap (row_of 4) same in
    let n = row_length 4 two in
    let m = row_length 4 rest in
    more 512 8 40 (row_of 4 two) c.put_words.new.part c.begin.new.page front (omega arith) (omega (arith, ap length new)) (omega (arith, ap length new))
    ∙ (ap filled (ap (λ x. row_of 4 two ++ x) new ∙ sym (row_append 4 two rest)) ∙ sym (page_is all))
