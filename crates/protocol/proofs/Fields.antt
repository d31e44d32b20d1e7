-- Of a call that can be written in its fields, every number can, and its list with its count; and a call of such numbers and such a list can be written.
use Rattle.std.proofs.Common.{◌≡◌, ℕ, zero, suc, ◌≤◌, true, List, [], ◌∷◌, length, get_or, refl, arith, lit≤}
use Rattle.std.proofs.lemmas.Bool.{and_parts}
use Rattle.std.proofs.lemmas.Bool.Decides.{nat_tests}
use Rattle.meaning.specs.Calls.{Call, opens, files, books, pays, cancels, limits_to, ticks, free, price_of, booking, leg_is, garbled}
use Rattle.meaning.specs.Promise.{field, all_fields, short, readable}
use Rattle.protocol.specs.Forms.{fields, listing, made}
use Rattle.protocol.proofs.Numbers.{each_call}

pub record Written (c : Call) : Type 0 where
  pub numbers : all_fields (fields c) ≡ true
  pub count : length (listing c) ≤ 255
  pub list : all_fields (listing c) ≡ true

pub written : (c : Call) → readable c ≡ true → Written c
unfolding readable all_fields
written (opens a b c d ls) e = record { numbers = grind (arith, nat_tests); count = grind (arith, nat_tests); list = grind (arith, nat_tests) }
written (files a b c n x) e = record { numbers = grind (arith, nat_tests); count = lit≤ tt; list = refl }
written (books c n is) e = record { numbers = grind (arith, nat_tests); count = grind (arith, nat_tests); list = grind (arith, nat_tests) }
written (pays k) e = record { numbers = grind (arith, nat_tests); count = lit≤ tt; list = refl }
written (cancels k) e = record { numbers = grind (arith, nat_tests); count = lit≤ tt; list = refl }
written (limits_to i ls) e = record { numbers = grind (arith, nat_tests); count = grind (arith, nat_tests); list = grind (arith, nat_tests) }
written (ticks n) e = record { numbers = grind (arith, nat_tests); count = lit≤ tt; list = refl }
written (free i c) e = record { numbers = grind (arith, nat_tests); count = lit≤ tt; list = refl }
written (price_of c is) e = record { numbers = grind (arith, nat_tests); count = grind (arith, nat_tests); list = grind (arith, nat_tests) }
written (booking k) e = record { numbers = grind (arith, nat_tests); count = lit≤ tt; list = refl }
written (leg_is i) e = record { numbers = grind (arith, nat_tests); count = lit≤ tt; list = refl }
written (garbled n) e = record { numbers = refl; count = lit≤ tt; list = refl }

-- each of numbers that fit their fields does; beyond the last stands 0
field_at : (fs : List ℕ) (i : ℕ) → all_fields fs ≡ true → field (get_or fs i 0) ≡ true
unfolding all_fields
field_at [] i a = refl
field_at (x ∷ fs) zero a = (and_parts (field x) (all_fields fs) a).0
field_at (x ∷ fs) (suc i) a = field_at fs i (and_parts (field x) (all_fields fs) a).1

-- a call of numbers that fit their fields, and of a list that a byte can count, can be written
pub readable_made : (k : ℕ) → k ≤ 10 → (fs list : List ℕ) → all_fields fs ≡ true → short list ≡ true → readable (made k fs list) ≡ true
unfolding readable
readable_made = each_call (λ k. (fs list : List ℕ) → all_fields fs ≡ true → short list ≡ true → readable (made k fs list) ≡ true)
    (λ fs list a s. rw (field_at fs 0 a, field_at fs 1 a, field_at fs 2 a, field_at fs 3 a, s))
    (λ fs list a s. rw (field_at fs 0 a, field_at fs 1 a, field_at fs 2 a, field_at fs 3 a, field_at fs 4 a))
    (λ fs list a s. rw (field_at fs 0 a, field_at fs 1 a, s))
    (λ fs list a s. rw (field_at fs 0 a))
    (λ fs list a s. rw (field_at fs 0 a))
    (λ fs list a s. rw (field_at fs 0 a, s))
    (λ fs list a s. rw (field_at fs 0 a))
    (λ fs list a s. rw (field_at fs 0 a, field_at fs 1 a))
    (λ fs list a s. rw (field_at fs 0 a, s))
    (λ fs list a s. rw (field_at fs 0 a))
    (λ fs list a s. rw (field_at fs 0 a))
