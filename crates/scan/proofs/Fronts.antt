-- The bytes of a kind that are taken off the front, and the number that digits write.
use Rattle.std.proofs.Common.{◌≡◌, ℕ, ◌+◌, ◌-◌, ◌*◌, min, List, length, take, fold, refl, arith}
use Rattle.std.proofs.lemmas.List.Folds.{fold_along, length-prefix_len}
use Rattle.scan.specs.Words.{is_kind, front, value_on}
use Rattle.scan.specs.declared.Kind.{Kind}

-- what is taken off has as many bytes as stand in front
pub taken_length : (k : Kind) (bs : List ℕ) → length (take (front k bs) bs) ≡ front k bs
unfolding front
taken_length k bs = length-prefix_len (is_kind k) bs

-- a number that is too large stays too large, so it need not be known
pub value_capped : (m : ℕ) (bs : List ℕ) → min (fold (λ v b. min v m * 10 + (b - 48)) 0 bs) m ≡ min (value_on 0 bs) m
unfolding value_on
value_capped m bs = fold_along (λ v b. min v m * 10 + (b - 48)) (λ v b. 10 * v + (b - 48)) (λ v w. min v m ≡ min w m) (λ v w b e. omega arith) 0 0 bs refl
