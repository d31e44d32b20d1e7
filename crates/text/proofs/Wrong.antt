-- Where lines that are no calls cease to be one: an unknown word, a line too short or too long, a number too large.
use Rattle.std.proofs.Common.{◌≡◌, ℕ, suc, ◌^◌, ◌<◌, ◌≤◌, true, false, eqb, ◌≢◌, List, [], ◌∷◌, ◌++◌, length, get_or, decimal, sym, refl, ap, ◌∙◌, append_assoc, append-nil, arith, length-append, length-drop}
use Rattle.std.proofs.lemmas.Bool.{ne_eqb}
use Rattle.meaning.specs.Calls.{garbled}
use Rattle.meaning.specs.Promise.{all_fields}
use Rattle.protocol.specs.Forms.{field_count, has_list, made}
use Rattle.scan.proofs.Back.{no_front, front_le, spaced_ends, numbers_back, numbers_ceased, number_too_large, no_number, word_back, rest_back}
use Rattle.scan.specs.Words.{got, bad, and_then, front, next_word, word_in, numbers_in, number_in, spaced}
use Rattle.scan.specs.declared.Kind.TheVariants as kind
use Rattle.text.specs.CallLines.{verbs, place_among, rest_in, call_in, placed, line_call}
use Rattle.text.specs.Places.{beginning, PlacesTold}
use Rattle.text.proofs.Assembled.{numbers_stop, numbers_go}
use Rattle.text.proofs.Back.{verb_is}
use Rattle.text.proofs.Listings.{too_long}
use Rattle.text.proofs.Verbs.{unknown_word, known_word}

unknown : (bs : List ℕ) → place_among (word_in bs) verbs ≡ 11 → line_call bs ≡ garbled (front kind.Space bs)
unknown bs e =
    ap (placed (length bs)) (unknown_word bs e)
    ∙ ap garbled (omega (arith, length-drop (front kind.Space bs) bs, front_le kind.Space bs))

-- behind the word of a call
behind_verb : (k : ℕ) (bs : List ℕ) → k ≤ 10 → front kind.Letter bs ≡ 0 → call_in (get_or verbs k [] ++ bs) ≡ rest_in k bs
behind_verb k bs h z =
    let v = verb_is k h in
    known_word (get_or verbs k [] ++ bs) k h (ap (λ x. place_among x verbs) (word_back (get_or verbs k []) bs v.some v.whole z) ∙ v.found)
    ∙ ap (rest_in k) (rest_back (get_or verbs k []) bs v.some v.whole z)

-- numbers that cease behind a beginning
ceased : (k left : ℕ) (ns rest : List ℕ) → k ≤ 10 → length ns < field_count k → all_fields ns ≡ true → front kind.Letter rest ≡ 0 → number_in rest ≡ bad left →
    call_in (get_or verbs k [] ++ (spaced ns ++ rest)) ≡ bad left
ceased k left ns rest h n e z f = behind_verb k (spaced ns ++ rest) h (spaced_ends ns rest z) ∙ numbers_stop k left (spaced ns ++ rest) (numbers_ceased (field_count k) left ns rest n e z f)

too_short : (k : ℕ) (ns : List ℕ) → k ≤ 10 → length ns < field_count k → all_fields ns ≡ true → line_call (beginning k ns) ≡ garbled (length (beginning k ns))
too_short k ns h n e =
    let whole : beginning k ns ≡ get_or verbs k [] ++ (spaced ns ++ []) = ap (λ l. get_or verbs k [] ++ l) (sym (append-nil (spaced ns))) in
    ap (placed (length (beginning k ns))) (ap call_in whole ∙ ceased k 0 ns [] h n e (no_front kind.Letter) no_number) ∙ ap garbled (omega arith)

too_large : (k n : ℕ) (ns rest : List ℕ) → k ≤ 10 → length ns < field_count k → all_fields ns ≡ true → 4294967296 ≤ n → n < 2 ^ 64 → front kind.Digit rest ≡ 0 →
    line_call (beginning k ns ++ ((32 ∷ decimal n) ++ rest)) ≡ garbled (suc (length (beginning k ns)))
unfolding front
too_large k n ns rest h m e a b z =
    let tail = (32 ∷ decimal n) ++ rest in
    let whole = append_assoc (get_or verbs k []) (spaced ns) tail in
    ap (placed (length (beginning k ns ++ tail))) (ap call_in whole ∙ ceased k (length (decimal n ++ rest)) ns tail h m e refl (number_too_large n rest a b z))
    ∙ ap garbled (omega (arith, length-append (beginning k ns) tail))

-- something stands there
some_word : (b : ℕ) (rest : List ℕ) → b ≢ 32 → next_word (32 ∷ (b ∷ rest)) ≡ b ∷ rest
unfolding front
some_word b rest h = let e : eqb b 32 ≡ false = ne_eqb b 32 h in rw e

over_long : (k b : ℕ) (ns rest : List ℕ) → k ≤ 10 → has_list k ≡ false → length ns ≡ field_count k → all_fields ns ≡ true → b ≢ 32 →
    line_call (beginning k ns ++ (32 ∷ (b ∷ rest))) ≡ garbled (suc (length (beginning k ns)))
unfolding front
over_long k b ns rest h l n e w =
    let tail = 32 ∷ (b ∷ rest) in
    let whole = append_assoc (get_or verbs k []) (spaced ns) tail in
    let here = some_word b rest w in
    let more : eqb (length (next_word tail)) 0 ≡ false = ne_eqb (length (next_word tail)) 0 (λ z. omega (arith, ap length here, z)) in
    let numbers = ap (λ m. numbers_in m (spaced ns ++ tail)) (sym n) ∙ numbers_back ns tail e refl in
    let stop = numbers_go k (spaced ns ++ tail) ns tail numbers ∙ ap (λ r. and_then r (λ list end. got (made k ns list) end)) (too_long k tail l more) in
    ap (placed (length (beginning k ns ++ tail))) (ap call_in whole ∙ behind_verb k (spaced ns ++ tail) h (spaced_ends ns tail refl) ∙ stop)
    ∙ ap garbled (omega (arith, length-append (beginning k ns) tail, ap length here))

pub places_told : PlacesTold
places_told = record { unknown = unknown; too_short = too_short; too_large = too_large; too_long = over_long }
