-- Numbers in a row, one more at the end.
use Rattle.std.proofs.Common.{◌≡◌, ℕ, ◌+◌, ◌<◌, ◌≤◌, List, [], ◌∷◌, ◌++◌, length, get_or, take, decimal, sym, refl, ap, ◌∙◌, append_assoc, append-nil}
use Rattle.std.proofs.lemmas.List.{take_more, take_all}
use Rattle.scan.specs.Words.{spaced}

spaced_push : (ns : List ℕ) (n : ℕ) → spaced (ns ++ (n ∷ [])) ≡ spaced ns ++ (32 ∷ decimal n)
unfolding spaced
spaced_push [] n = append-nil (32 ∷ decimal n)
spaced_push (m ∷ ns) n = ap (λ l. (32 ∷ decimal m) ++ l) (spaced_push ns n) ∙ sym (append_assoc (32 ∷ decimal m) (spaced ns) (32 ∷ decimal n))

pub spaced_more : (ns : List ℕ) (i : ℕ) → i < length ns → spaced (take i ns) ++ (32 ∷ decimal (get_or ns i 0)) ≡ spaced (take (i + 1) ns)
spaced_more ns i h = sym (ap spaced (take_more ns i 0 h) ∙ spaced_push (take i ns) (get_or ns i 0))

pub spaced_none : (ns : List ℕ) → spaced (take 0 ns) ≡ []
unfolding spaced
spaced_none ns = refl

pub spaced_all : (ns : List ℕ) (i : ℕ) → length ns ≤ i → spaced (take i ns) ≡ spaced ns
spaced_all ns i h = ap spaced (take_all i ns h)
