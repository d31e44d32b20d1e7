-- The line that opens a house: read by its tests, and read back as it was printed.
use Rattle.std.proofs.Common.{◌≡◌, ℕ, ◌<◌, Bool, true, false, eqb, List, [], ◌∷◌, ◌++◌, length, get_or, take, codes, sym, refl, ap, ◌∙◌, ap₂, append-nil, arith}
use Rattle.std.proofs.lemmas.Slice.Eq.{bytes_eq-Decides}
use Rattle.std.proofs.lemmas.List.{get_or-take}
use Rattle.std.specs.Str.{bytes_eq}
use Rattle.meaning.specs.Lines.{pick}
use Rattle.scan.proofs.Back.{no_front, spaced_ends_line, numbers_back, empty_list, word_back, rest_back}
use Rattle.scan.proofs.Readings.{numbers_length}
use Rattle.scan.specs.Words.{Read, got, bad, and_then, next_word, word_in, past_word, numbers_in, list_in, spaced}
use Rattle.scan.specs.declared.Kind.TheVariants as kind
use Rattle.text.specs.HouseLines.{house_line, house_in, OpensBack}

abbrev word : List ℕ
word = codes "house"

pub no_house : (bs : List ℕ) → bytes_eq (word_in bs) word ≡ false → house_in bs ≡ bad (length (next_word bs))
unfolding house_in
no_house bs e = ap (λ (t : Bool). pick t (and_then (numbers_in 5 (past_word bs)) (λ ns rest. and_then (list_in 0 rest) (λ none end. got ns end))) (bad (length (next_word bs)))) e

pub a_house : (bs : List ℕ) (r : Read (List ℕ)) → bytes_eq (word_in bs) word ≡ true → numbers_in 5 (past_word bs) ≡ r → house_in bs ≡ and_then r (λ ns rest. and_then (list_in 0 rest) (λ none end. got ns end))
unfolding house_in
a_house bs r e f = ap₂ (λ (t : Bool) s. pick t (and_then s (λ ns rest. and_then (list_in 0 rest) (λ none end. got ns end))) (bad (length (next_word bs)))) e f

-- nothing more may come
pub ended : (bs ns : List ℕ) → eqb (length (next_word bs)) 0 ≡ true → and_then (list_in 0 bs) (λ none end. got ns end) ≡ got ns []
unfolding list_in
ended bs ns e = ap (λ (t : Bool). and_then {A = List ℕ} (pick t (got [] []) (bad (length (next_word bs)))) (λ none end. got ns end)) e

pub too_long : (bs ns : List ℕ) → eqb (length (next_word bs)) 0 ≡ false → and_then (list_in 0 bs) (λ none end. got ns end) ≡ bad (length (next_word bs))
unfolding list_in
too_long bs ns e = ap (λ (t : Bool). and_then {A = List ℕ} (pick t (got [] []) (bad (length (next_word bs)))) (λ none end. got ns end)) e

pub opens_back : OpensBack
opens_back ns len e =
    let ends = spaced_ends_line ns in
    let w = word_back word (spaced ns) (omega arith) (refl, (refl, (refl, (refl, (refl, tt))))) ends in
    let r = rest_back word (spaced ns) (omega arith) (refl, (refl, (refl, (refl, (refl, tt))))) ends in
    let n = ap (numbers_in 5) (r ∙ sym (append-nil (spaced ns))) ∙ ap (λ k. numbers_in k (spaced ns ++ [])) (sym len) ∙ numbers_back ns [] e (no_front kind.Letter) in
    a_house (house_line ns) (got ns []) ((bytes_eq-Decides _ word).1 w) n ∙ ap (λ s. and_then s (λ none end. got ns end)) (empty_list 0)

-- five numbers, one by one
five_of : (ns : List ℕ) → length ns ≡ 5 → ns ≡ get_or ns 0 0 ∷ get_or ns 1 0 ∷ get_or ns 2 0 ∷ get_or ns 3 0 ∷ get_or ns 4 0 ∷ []
five_of [] h = absurd (omega arith)
five_of (a ∷ []) h = absurd (omega arith)
five_of (a ∷ (b ∷ [])) h = absurd (omega arith)
five_of (a ∷ (b ∷ (c ∷ []))) h = absurd (omega arith)
five_of (a ∷ (b ∷ (c ∷ (d ∷ [])))) h = absurd (omega arith)
five_of (a ∷ (b ∷ (c ∷ (d ∷ (e ∷ []))))) h = refl
five_of (a ∷ (b ∷ (c ∷ (d ∷ (e ∷ (f ∷ ns)))))) h = absurd (omega arith)

pub five_read : (bs vs rest : List ℕ) → numbers_in 5 bs ≡ got (take 5 vs) rest → take 5 vs ≡ get_or vs 0 0 ∷ get_or vs 1 0 ∷ get_or vs 2 0 ∷ get_or vs 3 0 ∷ get_or vs 4 0 ∷ []
five_read bs vs rest e =
    let at : (i : ℕ) → i < 5 → get_or (take 5 vs) i 0 ≡ get_or vs i 0 = λ i h. get_or-take 5 vs i 0 h in
    five_of (take 5 vs) (numbers_length 5 bs (take 5 vs) rest e)
    ∙ (λ d. at 0 (omega arith) d ∷ at 1 (omega arith) d ∷ at 2 (omega arith) d ∷ at 3 (omega arith) d ∷ at 4 (omega arith) d ∷ [])
