-- The numbers of calls, gone through one by one.
use Rattle.std.proofs.Common.{ℕ, zero, suc, ◌≤◌, arith, lit≤}
use Rattle.protocol.specs.Forms.{field_count}
use Rattle.protocol.specs.Verbs.{verb_number}
use Rattle.protocol.specs.declared.verbs.Verb.{Verb}
use Rattle.protocol.specs.declared.verbs.Verb.TheVariants as verb

-- what holds for each of the numbers 0 to 10 holds for all calls
pub each_call : (P : ℕ → Type 0) → P 0 → P 1 → P 2 → P 3 → P 4 → P 5 → P 6 → P 7 → P 8 → P 9 → P 10 → (k : ℕ) → k ≤ 10 → P k
each_call P a b c d e f g h i j l zero le = a
each_call P a b c d e f g h i j l (suc zero) le = b
each_call P a b c d e f g h i j l (suc (suc zero)) le = c
each_call P a b c d e f g h i j l (suc (suc (suc zero))) le = d
each_call P a b c d e f g h i j l (suc (suc (suc (suc zero)))) le = e
each_call P a b c d e f g h i j l (suc (suc (suc (suc (suc zero))))) le = f
each_call P a b c d e f g h i j l (suc (suc (suc (suc (suc (suc zero)))))) le = g
each_call P a b c d e f g h i j l (suc (suc (suc (suc (suc (suc (suc zero))))))) le = h
each_call P a b c d e f g h i j l (suc (suc (suc (suc (suc (suc (suc (suc zero)))))))) le = i
each_call P a b c d e f g h i j l (suc (suc (suc (suc (suc (suc (suc (suc (suc zero))))))))) le = j
each_call P a b c d e f g h i j l (suc (suc (suc (suc (suc (suc (suc (suc (suc (suc zero)))))))))) le = l
each_call P a b c d e f g h i j l (suc (suc (suc (suc (suc (suc (suc (suc (suc (suc (suc k))))))))))) le = absurd (omega arith)

-- no call has more than five numbers
pub few_fields : (k : ℕ) → k ≤ 10 → field_count k ≤ 5
few_fields = each_call (λ k. field_count k ≤ 5) (lit≤ tt) (lit≤ tt) (lit≤ tt) (lit≤ tt) (lit≤ tt) (lit≤ tt) (lit≤ tt) (lit≤ tt) (lit≤ tt) (lit≤ tt) (lit≤ tt)

-- a verb has one of them
pub known : (v : Verb) → verb_number v ≤ 10
known verb.Open = lit≤ tt
known verb.File = lit≤ tt
known verb.Book = lit≤ tt
known verb.Pay = lit≤ tt
known verb.Cancel = lit≤ tt
known verb.Limits = lit≤ tt
known verb.Ticks = lit≤ tt
known verb.Free = lit≤ tt
known verb.Price = lit≤ tt
known verb.Booking = lit≤ tt
known verb.Leg = lit≤ tt
