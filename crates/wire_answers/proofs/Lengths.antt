-- How long an answer is, and when it is written.
use Rattle.std.proofs.Common.{◌≡◌, ℕ, ◌+◌, ◌*◌, ◌≤◌, List, [], ◌∷◌, length, map, replicate, set, Some, sym, refl, ap, ◌∙◌, arith, lit≤}
use Rattle.meaning.specs.Calls.{Answer, refused, number, two, stands_so, sold}
use Rattle.wire.specs.Bytes.{row_of, in_front, over}
use Rattle.wire.proofs.Fields.{row_length}
use Rattle.wire.proofs.Written.{over_byte, over_front, same_row, then_more}
use Rattle.wire_answers.specs.Answers.{answer_bytes, listed, AnswerWritten, AnswersWithin, MostBytes}

-- how long each answer is
within : AnswersWithin 210
unfolding answer_bytes listed
within (refused n p) h = let l = row_length 8 (n ∷ (p ∷ [])) in omega arith
within (number n) h = let l = row_length 8 (n ∷ []) in omega arith
within (two k s) h = let l = row_length 8 (k ∷ (s ∷ [])) in omega arith
within (stands_so s u p) h = let l = row_length 8 (s ∷ (u ∷ (p ∷ []))) in omega arith
within (sold ns) h = let l = row_length 8 ns in omega arith

reached : (m : ℕ) → AnswersWithin m → 210 ≤ m
unfolding answer_bytes listed
reached m h =
    let l = row_length 8 (replicate 26 0) in
    let z = h (sold (replicate 26 0)) (lit≤ tt) in
    omega arith

pub most_bytes : MostBytes 210
most_bytes = record { enough = within; least = reached }

-- an answer without a list is written once its number and its values are
pub written_so : (a : Answer) (k : ℕ) (vs old new : List ℕ) (r : ℕ) → listed a ≡ 0 → answer_bytes a ≡ k ∷ row_of 8 vs → r ≡ 1 + 8 * length vs → new ≡ over 0 (k ∷ row_of 8 (map (λ n. n) vs)) old →
    AnswerWritten a old new (Some r)
written_so a k vs old new r z e n w =
    let l = row_length 8 vs in
    let h = ap length e in
    (omega arith, omega arith, w ∙ (ap (λ x. over 0 (k ∷ x) old) (same_row 8 vs) ∙ (over_front _ old ∙ ap (λ x. in_front x old) (sym e))))

-- and one with a list once that is
pub written_list : (list old new : List ℕ) (r : ℕ) → length list ≤ 26 → 2 + 8 * length list ≤ length old → r ≡ 2 + 8 * length list → new ≡ over 1 (length list ∷ row_of 8 (map (λ n. n) list)) (set old 0 4) → AnswerWritten (sold list) old new (Some r)
unfolding answer_bytes listed
written_list list old new r le fits n w =
    let l = row_length 8 list in
    let behind : new ≡ over 1 (length list ∷ row_of 8 list) (set old 0 4) = w ∙ ap (λ x. over 1 (length list ∷ x) (set old 0 4)) (same_row 8 list) in
    (le, omega arith, then_more 0 1 (4 ∷ []) (length list ∷ row_of 8 list) old _ _ (omega arith) (over_byte 0 4 old (omega arith)) behind refl ∙ over_front _ old)
