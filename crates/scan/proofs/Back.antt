-- Numbers and words that are printed are read back.
use Rattle.std.proofs.Common.{◌≡◌, ℕ, zero, suc, ◌+◌, ◌-◌, ◌^◌, ◌<◌, ◌≤◌, Bool, true, false, cond, eqb, List, [], ◌∷◌, ◌++◌, length, take, drop, decimal, sym, refl, ap, ◌∙◌, ap₂, append_assoc, append-nil, arith, length-append}
use Rattle.std.proofs.lemmas.Fmt.{digits_decimal, digits_value-decimal, decimal_nonempty}
use Rattle.std.proofs.lemmas.List.{take_at, drop_at}
use Rattle.std.proofs.lemmas.List.Sums.{prefix_len-le-length}
use Rattle.std.proofs.lemmas.Str.Parse.{IsNumeralModel, IsDigitsTest, numerals_by_fold}
use Rattle.std.proofs.lemmas.Bool.{and_parts, and_from, leb-true, le-leb, ltb-true, ne_eqb}
use Rattle.std.proofs.lemmas.Bool.Decides.{nat_tests}
use Rattle.meaning.specs.Lines.{pick}
use Rattle.meaning.specs.Promise.{field, all_fields}
use Rattle.scan.specs.Words.{Read, got, bad, and_then, onto, is_kind, front, next_word, value_on, number_in, word_in, past_word, numbers_in, list_in, spaced}
use Rattle.scan.proofs.Readings.{onto_none, onto_onto}
use Rattle.scan.specs.declared.Kind.{Kind}
use Rattle.scan.specs.declared.Kind.TheVariants as kind

-- bytes that are all of a kind
abbrev pub Each : Kind → List ℕ → Type 0
Each k [] = Unit {0}
Each k (x ∷ xs) = (is_kind k x ≡ true) × Each k xs

pub no_front : (k : Kind) → front k [] ≡ 0
unfolding front
no_front k = refl

-- those of the kind in front, and then what is in front of the rest
front_each : (k : Kind) (xs ys : List ℕ) → Each k xs → front k ys ≡ 0 → front k (xs ++ ys) ≡ length xs
unfolding front
front_each k [] ys e z = z
front_each k (x ∷ xs) ys e z = ap₂ (λ (t : Bool) (n : ℕ). cond t (1 + n) 0) e.0 (front_each k xs ys e.1 z) ∙ omega arith

-- where no byte of a word stands in front, no digit does either
no_digit : (ys : List ℕ) → front kind.Letter ys ≡ 0 → front kind.Digit ys ≡ 0
unfolding front
no_digit [] e = refl
no_digit (y ∷ ys) e = grind (arith, nat_tests)

digit_letter : (xs : List ℕ) → Each kind.Digit xs → Each kind.Letter xs
digit_letter [] e = tt
digit_letter (x ∷ xs) e = ((let d = e.0 in grind (arith, nat_tests)), digit_letter xs e.1)

-- a word is not behind spaces
no_space : (xs ys : List ℕ) → 0 < length xs → Each kind.Letter xs → front kind.Space (xs ++ ys) ≡ 0
unfolding front
no_space [] ys h e = absurd (omega arith)
no_space (x ∷ xs) ys h e = let l = e.0 in grind (arith, nat_tests)

word_first : (xs ys : List ℕ) → 0 < length xs → Each kind.Letter xs → next_word (xs ++ ys) ≡ xs ++ ys
word_first xs ys h e = ap (λ n. drop n (xs ++ ys)) (no_space xs ys h e)

-- a space before it makes no difference
space_first : (xs : List ℕ) → next_word (32 ∷ xs) ≡ next_word xs
unfolding front
space_first xs = let one : 1 + front kind.Space xs ≡ suc (front kind.Space xs) = omega arith in ap (λ n. drop n (32 ∷ xs)) one

pub space_word : (xs : List ℕ) → word_in (32 ∷ xs) ≡ word_in xs
space_word xs = ap (λ bs. take (front kind.Letter bs) bs) (space_first xs)

pub space_rest : (xs : List ℕ) → past_word (32 ∷ xs) ≡ past_word xs
space_rest xs = ap (λ bs. drop (front kind.Letter bs) bs) (space_first xs)

pub word_back : (xs ys : List ℕ) → 0 < length xs → Each kind.Letter xs → front kind.Letter ys ≡ 0 → word_in (xs ++ ys) ≡ xs
word_back xs ys h e z =
    let n = front_each kind.Letter xs ys e z in
    rw (word_first xs ys h e, n) (take_at xs ys (length xs) refl)

pub rest_back : (xs ys : List ℕ) → 0 < length xs → Each kind.Letter xs → front kind.Letter ys ≡ 0 → past_word (xs ++ ys) ≡ ys
rest_back xs ys h e z =
    let n = front_each kind.Letter xs ys e z in
    rw (word_first xs ys h e, n) (drop_at xs ys (length xs) refl)

-- decimal digits write the number that they are read as
own : IsNumeralModel (Each kind.Digit) (value_on 0)
unfolding value_on
own = numerals_by_fold (Each kind.Digit) tells_own value_on (record { empty = λ n. refl; more = λ n c cs h. ap (λ m. value_on m cs) (omega arith) })
  where
    tells_own : IsDigitsTest (Each kind.Digit)
    tells_own = record {
      empty = tt;
      parts = λ c cs p. (let q = and_parts _ _ p.0 in ((leb-true _ _ q.0, leb-true _ _ q.1), p.1));
      more = λ c cs i p. (and_from _ _ (le-leb _ _ i.0) (le-leb _ _ i.1), p);
    }

number_first : (n : ℕ) (rest : List ℕ) → n < 2 ^ 64 → next_word ((32 ∷ decimal n) ++ rest) ≡ decimal n ++ rest
number_first n rest b = space_first (decimal n ++ rest) ∙ word_first (decimal n) rest (decimal_nonempty n b) (digit_letter (decimal n) (digits_decimal own n b))

pub number_back : (n : ℕ) (rest : List ℕ) → n < 4294967296 → front kind.Letter rest ≡ 0 → number_in ((32 ∷ decimal n) ++ rest) ≡ got n rest
number_back n rest h z =
    let b : n < 2 ^ 64 = omega arith in
    let d = digits_decimal own n b in
    let f = front_each kind.Digit (decimal n) rest d (no_digit rest z) in
    let here = number_first n rest b in
    let t = take_at (decimal n) rest (length (decimal n)) refl in
    let s = drop_at (decimal n) rest (length (decimal n)) refl in
    let v = digits_value-decimal own n b in
    let l = decimal_nonempty n b in
    rw (here, f, t, s, v, z) (grind (arith, nat_tests))

-- a number that four bytes can't hold does not fit at its first digit
pub number_too_large : (n : ℕ) (rest : List ℕ) → 4294967296 ≤ n → n < 2 ^ 64 → front kind.Digit rest ≡ 0 → number_in ((32 ∷ decimal n) ++ rest) ≡ bad (length (decimal n ++ rest))
number_too_large n rest h b z =
    let f = front_each kind.Digit (decimal n) rest (digits_decimal own n b) z in
    let here = number_first n rest b in
    let t = take_at (decimal n) rest (length (decimal n)) refl in
    let v = digits_value-decimal own n b in
    let l = decimal_nonempty n b in
    rw (here, f, t, v) (grind (arith, nat_tests))

-- where the line ends, no number is
pub no_number : number_in [] ≡ bad 0
unfolding front
no_number = refl

pub front_le : (k : Kind) (xs : List ℕ) → front k xs ≤ length xs
unfolding front
front_le k xs = prefix_len-le-length (is_kind k) xs

-- behind printed numbers, and before the next ones, a word ends
pub spaced_ends : (ns rest : List ℕ) → front kind.Letter rest ≡ 0 → front kind.Letter (spaced ns ++ rest) ≡ 0
unfolding spaced front
spaced_ends [] rest z = z
spaced_ends (n ∷ ns) rest z = refl

pub spaced_ends_line : (ns : List ℕ) → front kind.Letter (spaced ns) ≡ 0
spaced_ends_line ns = ap (front kind.Letter) (sym (append-nil (spaced ns))) ∙ spaced_ends ns [] (no_front kind.Letter)

-- printed numbers are read back, and reading goes on behind them
pub numbers_on : (m : ℕ) (ns rest : List ℕ) → all_fields ns ≡ true → front kind.Letter rest ≡ 0 → numbers_in (length ns + m) (spaced ns ++ rest) ≡ onto ns (numbers_in m rest)
unfolding numbers_in spaced all_fields
numbers_on m [] rest e z = ap (λ k. numbers_in k rest) (omega arith) ∙ sym (onto_none (numbers_in m rest))
numbers_on m (n ∷ ns) rest e z =
    let p = and_parts (field n) (all_fields ns) e in
    let i = number_back n (spaced ns ++ rest) (ltb-true n 4294967296 p.0) (spaced_ends ns rest z) in
    let k : suc (length ns) + m ≡ suc (length ns + m) = omega arith in
    ap (λ h. numbers_in h (spaced (n ∷ ns) ++ rest)) k
    ∙ ap (λ bs. and_then (number_in bs) (λ v end. onto (v ∷ []) (numbers_in (length ns + m) end))) (append_assoc (32 ∷ decimal n) (spaced ns) rest)
    ∙ ap (λ r. and_then r (λ v end. onto (v ∷ []) (numbers_in (length ns + m) end))) i
    ∙ ap (onto (n ∷ [])) (numbers_on m ns rest p.1 z)
    ∙ onto_onto (n ∷ []) ns (numbers_in m rest)

pub numbers_back : (ns rest : List ℕ) → all_fields ns ≡ true → front kind.Letter rest ≡ 0 → numbers_in (length ns) (spaced ns ++ rest) ≡ got ns rest
unfolding numbers_in
numbers_back ns rest e z = ap (λ k. numbers_in k (spaced ns ++ rest)) (omega arith) ∙ numbers_on 0 ns rest e z ∙ ap (λ l. got l rest) (append-nil ns)

-- a number too few: what stands there does not fit, and neither do the numbers
pub numbers_ceased : (m left : ℕ) (ns rest : List ℕ) → length ns < m → all_fields ns ≡ true → front kind.Letter rest ≡ 0 → number_in rest ≡ bad left → numbers_in m (spaced ns ++ rest) ≡ bad left
unfolding numbers_in
numbers_ceased m left ns rest h e z f =
    let k : m ≡ length ns + suc (m - suc (length ns)) = omega arith in
    ap (λ j. numbers_in j (spaced ns ++ rest)) k
    ∙ numbers_on (suc (m - suc (length ns))) ns rest e z
    ∙ ap (λ r. onto ns (and_then r (λ v end. onto (v ∷ []) (numbers_in (m - suc (length ns)) end)))) f

-- a number is there
some_number : (n : ℕ) (rest : List ℕ) → n < 4294967296 → eqb (length (next_word ((32 ∷ decimal n) ++ rest))) 0 ≡ false
some_number n rest h =
    let b : n < 2 ^ 64 = omega arith in
    ne_eqb _ 0 (λ z. omega (arith, ap length (number_first n rest b), length-append (decimal n) rest, decimal_nonempty n b, z))

pub empty_list : (m : ℕ) → list_in m [] ≡ got [] []
unfolding list_in front
empty_list zero = refl
empty_list (suc m) = refl

pub list_back : (m : ℕ) (ns : List ℕ) → length ns ≤ m → all_fields ns ≡ true → list_in m (spaced ns) ≡ got ns []
unfolding list_in spaced all_fields
list_back zero [] h e = empty_list 0
list_back (suc m) [] h e = empty_list (suc m)
list_back zero (n ∷ ns) h e = absurd (omega arith)
list_back (suc m) (n ∷ ns) h e =
    let p = and_parts _ _ e in
    let small : n < 4294967296 = ltb-true _ _ p.0 in
    let i = number_back n (spaced ns) small (spaced_ends_line ns) in
    ap₂ (λ (t : Bool) (r : Read ℕ). pick t (got [] []) (and_then r (λ v rest. onto (v ∷ []) (list_in m rest)))) (some_number n (spaced ns) small) i
    ∙ ap (onto (n ∷ [])) (list_back m ns (omega arith) p.1)
