-- The list of a call behind its word, by the tests that the code makes.
use Rattle.std.proofs.Common.{◌≡◌, ℕ, Bool, true, false, eqb, List, [], length, refl}
use Rattle.meaning.specs.Lines.{pick}
use Rattle.protocol.specs.Forms.{has_list}
use Rattle.scan.specs.Words.{got, bad, next_word, word_in, past_word, list_in}
use Rattle.std.specs.Str.{bytes_eq}
use Rattle.text.specs.CallLines.{joint, listing_in}

-- the three tests, in one place
by_tests : (k : ℕ) (bs : List ℕ) (t u v : Bool) → has_list k ≡ t → bytes_eq (word_in bs) (joint k) ≡ u → eqb (length (next_word bs)) 0 ≡ v →
    listing_in k bs ≡ pick t (pick u (list_in 255 (past_word bs)) (bad (length (next_word bs)))) (pick v (got [] []) (bad (length (next_word bs))))
unfolding listing_in list_in
by_tests k bs t u v e f g = λ d. pick (e d) (pick (f d) (list_in 255 (past_word bs)) (bad (length (next_word bs)))) (pick (g d) (got [] []) (bad (length (next_word bs))))

pub behind_word : (k : ℕ) (bs : List ℕ) → has_list k ≡ true → bytes_eq (word_in bs) (joint k) ≡ true → listing_in k bs ≡ list_in 255 (past_word bs)
behind_word k bs e f = by_tests k bs true true _ e f refl

pub no_word : (k : ℕ) (bs : List ℕ) → has_list k ≡ true → bytes_eq (word_in bs) (joint k) ≡ false → listing_in k bs ≡ bad (length (next_word bs))
no_word k bs e f = by_tests k bs true false _ e f refl

pub at_end : (k : ℕ) (bs : List ℕ) → has_list k ≡ false → eqb (length (next_word bs)) 0 ≡ true → listing_in k bs ≡ got [] []
at_end k bs e g = by_tests k bs false _ true e refl g

pub too_long : (k : ℕ) (bs : List ℕ) → has_list k ≡ false → eqb (length (next_word bs)) 0 ≡ false → listing_in k bs ≡ bad (length (next_word bs))
too_long k bs e g = by_tests k bs false _ false e refl g
