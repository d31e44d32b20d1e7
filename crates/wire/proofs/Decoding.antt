-- Which call a row of bytes is, case by case.
use Rattle.std.proofs.Common.{◌≡◌, ℕ, ◌+◌, ◌*◌, ◌<◌, ◌≤◌, Bool, true, false, List, [], ◌∷◌, length, get_or, take, drop, sym, refl, ap, ◌∙◌, arith, lit<}
use Rattle.std.proofs.lemmas.List.{get_or_default}
use Rattle.std.proofs.lemmas.Bool.{lt-ltb, le-ltb}
use Rattle.meaning.specs.Calls.{garbled}
use Rattle.protocol.proofs.Numbers.{each_call}
use Rattle.protocol.specs.Forms.{field_count, has_list, made}
use Rattle.wire.specs.Bytes.{numbers_in}
use Rattle.wire.specs.Rows.{list_at, extent, read_as, decoded}

unknown : (bs : List ℕ) (k : ℕ) → 10 < k → read_as k bs ≡ garbled 0
unfolding read_as
unknown bs k h = rw (lt-ltb 10 k h)

short : (bs : List ℕ) (k : ℕ) → k ≤ 10 → length bs < extent k bs → read_as k bs ≡ garbled (length bs)
unfolding read_as
short bs k h l = rw (le-ltb 10 k h, lt-ltb (length bs) (extent k bs) l)

long : (bs : List ℕ) (k : ℕ) → k ≤ 10 → extent k bs < length bs → read_as k bs ≡ garbled (extent k bs)
unfolding read_as
long bs k h l = rw (le-ltb 10 k h, le-ltb (length bs) (extent k bs) (omega arith), lt-ltb (extent k bs) (length bs) l)

whole : (bs : List ℕ) (k : ℕ) → k ≤ 10 → length bs ≡ extent k bs →
    read_as k bs ≡ made k (take (field_count k) (numbers_in (drop 1 bs))) (numbers_in (drop (list_at k) bs))
unfolding read_as
whole bs k h l = rw (le-ltb 10 k h, le-ltb (length bs) (extent k bs) (omega arith), le-ltb (extent k bs) (length bs) (omega arith))

-- the same of a row whose first byte is known
first : (bs : List ℕ) (k : ℕ) → 0 < length bs → k ≡ get_or bs 0 0 → get_or bs 0 255 ≡ k
first bs k h e = get_or_default bs 0 255 0 h ∙ sym e

-- the first byte of a row, by its parts
pub first_of : (bs rest : List ℕ) (k b : ℕ) → bs ≡ b ∷ rest → k ≡ b → k ≡ get_or bs 0 0
first_of bs rest k b e f = f ∙ sym (ap (λ w. get_or w 0 0) e)

pub decoded_empty : (bs : List ℕ) (n : ℕ) → length bs ≡ 0 → n ≡ 0 → garbled n ≡ decoded bs
decoded_empty [] n e z = ap garbled z ∙ sym (unknown [] 255 (lit< tt))
decoded_empty (b ∷ bs) n e z = absurd (omega arith)

pub decoded_unknown : (bs : List ℕ) (k n : ℕ) → 0 < length bs → k ≡ get_or bs 0 0 → 10 < k → n ≡ 0 → garbled n ≡ decoded bs
decoded_unknown bs k n s e h z = ap garbled z ∙ sym (ap (λ x. read_as x bs) (first bs k s e) ∙ unknown bs k h)

pub decoded_short : (bs : List ℕ) (k n : ℕ) → 0 < length bs → k ≡ get_or bs 0 0 → k ≤ 10 → length bs < extent k bs → n ≡ length bs → garbled n ≡ decoded bs
decoded_short bs k n s e h l z = ap garbled z ∙ sym (ap (λ x. read_as x bs) (first bs k s e) ∙ short bs k h l)

pub decoded_long : (bs : List ℕ) (k n : ℕ) → 0 < length bs → k ≡ get_or bs 0 0 → k ≤ 10 → extent k bs < length bs → n ≡ extent k bs → garbled n ≡ decoded bs
decoded_long bs k n s e h l z = ap garbled z ∙ sym (ap (λ x. read_as x bs) (first bs k s e) ∙ long bs k h l)

pub decoded_whole : (bs : List ℕ) (k : ℕ) → 0 < length bs → k ≡ get_or bs 0 0 → k ≤ 10 → length bs ≡ extent k bs →
    made k (take (field_count k) (numbers_in (drop 1 bs))) (numbers_in (drop (list_at k) bs)) ≡ decoded bs
decoded_whole bs k n e h l = sym (ap (λ x. read_as x bs) (first bs k n e) ∙ whole bs k h l)

-- two rows of numbers that agree in those that a call has make the same call
pub made_same : (k : ℕ) → k ≤ 10 → (fs gs list : List ℕ) → ((i : ℕ) → i < field_count k → get_or fs i 0 ≡ get_or gs i 0) → made k fs list ≡ made k gs list
made_same = each_call (λ k. (fs gs list : List ℕ) → ((i : ℕ) → i < field_count k → get_or fs i 0 ≡ get_or gs i 0) → made k fs list ≡ made k gs list)
    (λ fs gs list h. rw (h 0 (lit< tt), h 1 (lit< tt), h 2 (lit< tt), h 3 (lit< tt)))
    (λ fs gs list h. rw (h 0 (lit< tt), h 1 (lit< tt), h 2 (lit< tt), h 3 (lit< tt), h 4 (lit< tt)))
    (λ fs gs list h. rw (h 0 (lit< tt), h 1 (lit< tt)))
    (λ fs gs list h. rw (h 0 (lit< tt)))
    (λ fs gs list h. rw (h 0 (lit< tt)))
    (λ fs gs list h. rw (h 0 (lit< tt)))
    (λ fs gs list h. rw (h 0 (lit< tt)))
    (λ fs gs list h. rw (h 0 (lit< tt), h 1 (lit< tt)))
    (λ fs gs list h. rw (h 0 (lit< tt)))
    (λ fs gs list h. rw (h 0 (lit< tt)))
    (λ fs gs list h. rw (h 0 (lit< tt)))

-- where a list begins and how long a row should be, of a call with a list and of one without
pub list_at_listed : (k n : ℕ) → n ≡ field_count k → true ≡ has_list k → list_at k ≡ 2 + 4 * n
unfolding list_at
list_at_listed k n e h = rw (sym h, sym e) (omega arith)

pub list_at_plain : (k n : ℕ) → n ≡ field_count k → false ≡ has_list k → list_at k ≡ 1 + 4 * n
unfolding list_at
list_at_plain k n e h = rw (sym h, sym e)

pub extent_listed : (k n : ℕ) (bs : List ℕ) → n ≡ field_count k → true ≡ has_list k → extent k bs ≡ 1 + 4 * n + 1 + 4 * get_or bs (1 + 4 * n) 0
unfolding extent
extent_listed k n bs e h = rw (sym h, sym e)

pub extent_plain : (k n : ℕ) (bs : List ℕ) → n ≡ field_count k → false ≡ has_list k → extent k bs ≡ 1 + 4 * n
unfolding extent
extent_plain k n bs e h = rw (sym h, sym e)

-- a list begins behind the numbers and within the row
pub list_within : (k : ℕ) (bs : List ℕ) → (1 + 4 * field_count k ≤ list_at k) × (list_at k ≤ extent k bs)
list_within k bs = go (has_list k) refl
  where
    go : (b : Bool) → b ≡ has_list k → (1 + 4 * field_count k ≤ list_at k) × (list_at k ≤ extent k bs)
    go true h = let a = list_at_listed k (field_count k) refl h in let e = extent_listed k (field_count k) bs refl h in (omega arith, omega arith)
    go false h = let a = list_at_plain k (field_count k) refl h in let e = extent_plain k (field_count k) bs refl h in (omega arith, omega arith)
