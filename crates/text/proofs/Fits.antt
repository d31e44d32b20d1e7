-- A line that is read as a call is one that can be written in its fields: every number is below 2^32, and its list has at most 255 of them.
use Rattle.std.proofs.Common.{◌≡◌, ℕ, zero, suc, ◌-◌, ◌<◌, ◌≤◌, Bool, true, false, eqb, ltb, leb, List, [], ◌∷◌, length, take, drop, refl, arith, lit≤}
use Rattle.std.proofs.lemmas.Bool.{and_from, lt-ltb, leb-false, ltb-true}
use Rattle.std.specs.Str.{bytes_eq}
use Rattle.meaning.specs.Lines.{pick}
use Rattle.meaning.specs.Calls.{Call, call_number}
use Rattle.meaning.specs.Promise.{field, all_fields, short, readable}
use Rattle.protocol.proofs.Fields.{readable_made}
use Rattle.protocol.specs.Forms.{field_count, has_list}
use Rattle.scan.specs.Words.{Read, got, bad, and_then, onto, front, next_word, word_in, past_word, value_on, number_of, number_in, numbers_in, list_in}
use Rattle.scan.specs.declared.Kind.TheVariants as kind
use Rattle.text.specs.CallLines.{joint, verbs, place_among, listing_in, rest_in, call_in, placed, line_call}

-- what holds of that which was read, if anything was
abbrev OfGot : {A : Type 0} → (A → Type 0) → Read A → Type 0
OfGot P (got a rest) = P a
OfGot P (bad left) = Unit {0}

by_test : {A : Type 0} (P : A → Type 0) (b : Bool) (x y : Read A) → (b ≡ true → OfGot P x) → (b ≡ false → OfGot P y) → OfGot P (pick b x y)
by_test P true x y h k = h refl
by_test P false x y h k = k refl

then_on : {A B : Type 0} (P : A → Type 0) (Q : B → Type 0) (r : Read A) (f : A → List ℕ → Read B) → OfGot P r → ((a : A) (rest : List ℕ) → P a → OfGot Q (f a rest)) → OfGot Q (and_then r f)
then_on P Q (got a rest) f h k = k a rest h
then_on P Q (bad left) f h k = tt

weaker : {A : Type 0} (P Q : A → Type 0) (r : Read A) → ((a : A) → P a → Q a) → OfGot P r → OfGot Q r
weaker P Q (got a rest) k h = k a h
weaker P Q (bad left) k h = tt

-- a number that was read is below 2^32
abbrev Small : ℕ → Type 0
Small v = field v ≡ true

small : (n : ℕ) (bs : List ℕ) → OfGot Small (number_of n bs)
small n bs =
    let v : ℕ = value_on 0 (take n bs) in
    by_test Small (eqb n 0) _ _ (λ _. tt) (λ _.
    by_test Small (leb 4294967296 v) _ _ (λ _. tt) (λ below.
    by_test Small (ltb 0 (front kind.Letter (drop n bs))) _ _ (λ _. tt) (λ _. lt-ltb v 4294967296 (leb-false 4294967296 v below))))

-- at most n numbers, each of them below 2^32
record Fit (n : ℕ) (ns : List ℕ) : Type 0 where
  pub each : all_fields ns ≡ true
  pub few : length ns ≤ n

none : (n : ℕ) → Fit n []
unfolding all_fields
none n = record { each = refl; few = omega arith }

one_more : (n v : ℕ) (r : Read (List ℕ)) → Small v → OfGot (Fit n) r → OfGot (Fit (suc n)) (onto (v ∷ []) r)
unfolding all_fields
one_more n v (got vs rest) s h = let f = h.few in record { each = and_from (field v) (all_fields vs) s h.each; few = omega arith }
one_more n v (bad left) s h = tt

numbers_fit : (n : ℕ) (bs : List ℕ) → OfGot (Fit n) (numbers_in n bs)
unfolding numbers_in
numbers_fit zero bs = none 0
numbers_fit (suc n) bs = then_on Small (Fit (suc n)) (number_in bs) _ (small _ (next_word bs)) (λ v rest s. one_more n v (numbers_in n rest) s (numbers_fit n rest))

list_fits : (n : ℕ) (bs : List ℕ) → OfGot (Fit n) (list_in n bs)
unfolding list_in
list_fits zero bs = by_test (Fit 0) (eqb (length (next_word bs)) 0) _ _ (λ _. none 0) (λ _. tt)
list_fits (suc n) bs =
    by_test (Fit (suc n)) (eqb (length (next_word bs)) 0) _ _ (λ _. none (suc n))
    (λ _. then_on Small (Fit (suc n)) (number_in bs) _ (small _ (next_word bs)) (λ v rest s. one_more n v (list_in n rest) s (list_fits n rest)))

-- a list that a byte can count
abbrev Counted : List ℕ → Type 0
Counted ns = short ns ≡ true

counted : (n : ℕ) → n ≤ 255 → (ns : List ℕ) → Fit n ns → Counted ns
counted n b ns h = let f = h.few in and_from _ _ (lt-ltb (length ns) 256 (omega arith)) h.each

listing_fits : (k : ℕ) (bs : List ℕ) → OfGot Counted (listing_in k bs)
unfolding listing_in
listing_fits k bs =
    by_test Counted (has_list k) _ _
    (λ _. by_test Counted (bytes_eq (word_in bs) (joint k)) _ _ (λ _. weaker (Fit 255) Counted (list_in 255 (past_word bs)) (counted 255 (lit≤ tt)) (list_fits 255 (past_word bs))) (λ _. tt))
    (λ _. weaker (Fit 0) Counted (list_in 0 bs) (counted 0 (lit≤ tt)) (list_fits 0 bs))

-- a call that can be written in its fields
abbrev Writable : Call → Type 0
Writable c = readable c ≡ true

rest_fits : (k : ℕ) → k ≤ 10 → (bs : List ℕ) → OfGot Writable (rest_in k bs)
unfolding rest_in
rest_fits k b bs =
    then_on (Fit (field_count k)) Writable (numbers_in (field_count k) bs) _ (numbers_fit (field_count k) bs)
    (λ fs rest f. then_on Counted Writable (listing_in k rest) _ (listing_fits k rest) (λ list end c. readable_made k b fs list f.each c))

call_fits : (bs : List ℕ) → OfGot Writable (call_in bs)
unfolding call_in
call_fits bs =
    let k : ℕ = place_among (word_in bs) verbs in
    by_test Writable (ltb k 11) _ _ (λ known. let h = ltb-true k 11 known in rest_fits k (omega arith) (past_word bs)) (λ _. tt)

placed_fits : (n : ℕ) (r : Read Call) → OfGot Writable r → call_number (placed n r) ≤ 10 → Writable (placed n r)
unfolding call_number
placed_fits n (got c rest) h b = h
placed_fits n (bad left) h b = absurd (omega arith)

pub line_fits : (bs : List ℕ) → call_number (line_call bs) ≤ 10 → readable (line_call bs) ≡ true
line_fits bs = placed_fits (length bs) (call_in bs) (call_fits bs)

-- every line that is not too long for its places to be written is read as something that can be written in fields
placed_readable : (n : ℕ) (r : Read Call) → OfGot Writable r → n < 4294967296 → readable (placed n r) ≡ true
unfolding readable
placed_readable n (got c rest) h b = h
placed_readable n (bad left) h b = lt-ltb (n - left) 4294967296 (omega arith)

pub line_readable : (bs : List ℕ) → length bs < 4294967296 → readable (line_call bs) ≡ true
line_readable bs = placed_readable (length bs) (call_in bs) (call_fits bs)
