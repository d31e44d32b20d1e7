-- One line more behind a list.
use Rattle.std.proofs.Common.{◌≡◌, ℕ, suc, ◌+◌, ◌-◌, ◌≤◌, List, ◌++◌, sym, ap, ◌∙◌, append-nil, append_assoc, arith}
use Rattle.power_lists.specs.Lists.{booked_in, booking_lines, asked_of, question_lines}

pub no_bookings : (list : List ℕ) (from k : ℕ) → k ≡ from → list ≡ list ++ booking_lines from (k - from)
unfolding booking_lines
no_bookings list from k e =
    let z : k - from ≡ 0 = omega arith in
    sym (ap (λ n. list ++ booking_lines from n) z ∙ append-nil list)

pub more_bookings : (list text new : List ℕ) (from k : ℕ) → from ≤ k → text ≡ list ++ booking_lines from (k - from) → new ≡ text ++ booked_in k → new ≡ list ++ booking_lines from (k + 1 - from)
unfolding booking_lines
more_bookings list text new from k h e n =
    let s : k + 1 - from ≡ suc (k - from) = omega arith in
    let at : k ≡ from + (k - from) = omega arith in
    n ∙ ap (λ t. t ++ booked_in k) e ∙ append_assoc list (booking_lines from (k - from)) (booked_in k)
    ∙ ap (λ j. list ++ (booking_lines from (k - from) ++ booked_in j)) at ∙ sym (ap (λ m. list ++ booking_lines from m) s)

pub no_questions : (list : List ℕ) → list ≡ list ++ question_lines 0
unfolding question_lines
no_questions list = sym (append-nil list)

pub more_questions : (list text new : List ℕ) (k : ℕ) → text ≡ list ++ question_lines k → new ≡ text ++ asked_of k → new ≡ list ++ question_lines (k + 1)
unfolding question_lines
more_questions list text new k e n =
    let s : k + 1 ≡ suc k = omega arith in
    n ∙ ap (λ t. t ++ asked_of k) e ∙ append_assoc list (question_lines k) (asked_of k) ∙ sym (ap (λ m. list ++ question_lines m) s)
