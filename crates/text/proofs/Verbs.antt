-- The verb whose lines begin with a word; and what a line is by its first word.
use Rattle.std.proofs.Common.{◌≡◌, ℕ, suc, ◌+◌, ◌≤◌, Bool, true, false, cond, not, ltb, List, [], ◌∷◌, length, get_or, map, Some, None, Option, MatchOption, refl, ap, ◌∙◌, arith, lit≤}
use Rattle.std.proofs.lemmas.Bool.{lt-ltb}
use Rattle.std.specs.List.{find, position_or_len}
use Rattle.std.specs.Str.{bytes_eq}
use Rattle.meaning.specs.Lines.{pick}
use Rattle.protocol.specs.Verbs.{verb_number}
use Rattle.protocol.specs.declared.verbs.Verb.{Verb}
use Rattle.protocol.specs.declared.verbs.Verb.TheVariants as verb
use Rattle.scan.specs.Words.{bad, next_word, word_in, past_word}
use Rattle.text.specs.CallLines.{verbs, place_among, rest_in, call_in}

-- the verbs, in the order of their numbers
abbrev pub all_verbs : List Verb
all_verbs =
    verb.Open ∷ verb.File ∷ verb.Book ∷ verb.Pay ∷ verb.Cancel ∷ verb.Limits
    ∷ verb.Ticks ∷ verb.Free ∷ verb.Price ∷ verb.Booking ∷ verb.Leg ∷ []

-- the word of a verb's lines
abbrev pub word_of : Verb → List ℕ
word_of v = get_or verbs (verb_number v) []

-- verbs whose numbers are counted on from k
abbrev Counted : ℕ → List Verb → Type 0
Counted k [] = Unit {0}
Counted k (v ∷ vs) = (verb_number v ≡ k) × Counted (suc k) vs

-- the first of them whose word this is stands at the word's place
found_from : (w : List ℕ) (k : ℕ) (vs : List Verb) → Counted k vs →
    MatchOption (find (λ v. bytes_eq w (word_of v)) vs) (position_or_len (bytes_eq w) (map word_of vs) ≡ length vs) (λ v. k + position_or_len (bytes_eq w) (map word_of vs) ≡ verb_number v)
found_from w k [] h = refl
found_from w k (v ∷ vs) h = here (bytes_eq w (word_of v)) (find (λ u. bytes_eq w (word_of u)) vs) (position_or_len (bytes_eq w) (map word_of vs)) (found_from w (suc k) vs h.1)
  where
    here : (t : Bool) (o : Option Verb) (n : ℕ) → MatchOption o (n ≡ length vs) (λ u. suc k + n ≡ verb_number u) →
        MatchOption (cond t (Some v) o) (cond (not t) (1 + n) 0 ≡ suc (length vs)) (λ u. k + cond (not t) (1 + n) 0 ≡ verb_number u)
    here true o n later = omega (arith, h.0)
    here false None n later = omega arith
    here false (Some u) n later = omega arith

pub found : (w : List ℕ) → MatchOption (find (λ v. bytes_eq w (word_of v)) all_verbs) (place_among w verbs ≡ 11) (λ v. place_among w verbs ≡ verb_number v)
unfolding place_among
found w = first (find (λ v. bytes_eq w (word_of v)) all_verbs) (position_or_len (bytes_eq w) verbs) (found_from w 0 all_verbs (refl, (refl, (refl, (refl, (refl, (refl, (refl, (refl, (refl, (refl, (refl, tt))))))))))))
  where
    first : (o : Option Verb) (n : ℕ) → MatchOption o (n ≡ 11) (λ v. 0 + n ≡ verb_number v) → MatchOption o (n ≡ 11) (λ v. n ≡ verb_number v)
    first None n e = e
    first (Some v) n e = omega arith

-- each verb has a number of a call
pub number_known : (v : Verb) → verb_number v ≤ 10
number_known verb.Open = lit≤ tt
number_known verb.File = lit≤ tt
number_known verb.Book = lit≤ tt
number_known verb.Pay = lit≤ tt
number_known verb.Cancel = lit≤ tt
number_known verb.Limits = lit≤ tt
number_known verb.Ticks = lit≤ tt
number_known verb.Free = lit≤ tt
number_known verb.Price = lit≤ tt
number_known verb.Booking = lit≤ tt
number_known verb.Leg = lit≤ tt

-- what a line is, by its first word
pub unknown_word : (bs : List ℕ) → place_among (word_in bs) verbs ≡ 11 → call_in bs ≡ bad (length (next_word bs))
unfolding call_in
unknown_word bs e = ap (λ k. pick (ltb k 11) (rest_in k (past_word bs)) (bad (length (next_word bs)))) e

pub known_word : (bs : List ℕ) (k : ℕ) → k ≤ 10 → place_among (word_in bs) verbs ≡ k → call_in bs ≡ rest_in k (past_word bs)
unfolding call_in
known_word bs k h e =
    let t : ltb k 11 ≡ true = lt-ltb k 11 (omega arith) in
    ap (λ k. pick (ltb k 11) (rest_in k (past_word bs)) (bad (length (next_word bs)))) e ∙ ap (λ (b : Bool). pick b (rest_in k (past_word bs)) (bad (length (next_word bs)))) t
