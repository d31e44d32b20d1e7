-- Lists of the first records of a table: the same, one more, one changed.
use Rattle.std.proofs.Common.{◌≡◌, ℕ, ◌+◌, ◌<◌, [], ◌∷◌, ◌++◌, length, get_or, set, sym, ap, ◌∙◌, subst, inl, inr, arith}
use Rattle.std.proofs.lemmas.Bool.{cases_eq}
use Rattle.std.proofs.lemmas.List.{length-set, get_or-set_same, get_or-set_other}
use Rattle.std.proofs.lemmas.List.FromFn.{length-map-range_with_len, get_or-map-range_with_len, map-range_with_len_more, fill_by_all}
use Rattle.store.specs.Words.{table}

pub length_table : {X : Type 0} (f : ℕ → X) (n : ℕ) → length (table f n) ≡ n
length_table f n = length-map-range_with_len f 0 n

pub at_table : {X : Type 0} (f : ℕ → X) (n k : ℕ) (d : X) → k < n → get_or (table f n) k d ≡ f k
at_table f n k d h = get_or-map-range_with_len f 0 n k k d h (omega arith)

pub same_table : {X : Type 0} (f g : ℕ → X) (n : ℕ) → ((k : ℕ) → k < n → g k ≡ f k) → table g n ≡ table f n
same_table f g n h = fill_by_all f (table g n) n (f 0) (length_table g n) (λ k l. at_table g n k (f 0) l ∙ h k l)

pub push_table : {X : Type 0} (f g : ℕ → X) (n : ℕ) → ((k : ℕ) → k < n → g k ≡ f k) → table g (n + 1) ≡ table f n ++ (g n ∷ [])
push_table f g n h = map-range_with_len_more g 0 n n (omega arith) ∙ ap (λ v. v ++ (g n ∷ [])) (same_table f g n h)

pub set_table : {X : Type 0} (f g : ℕ → X) (n k : ℕ) → k < n → ((j : ℕ) → (j ≡ k → ⊥) → g j ≡ f j) → table g n ≡ set (table f n) k (g k)
set_table f g n k l h = sym (fill_by_all g (set (table f n) k (g k)) n (f 0) (length-set (table f n) k (g k) ∙ length_table f n) each)
  where
    each : (j : ℕ) → j < n → get_or (set (table f n) k (g k)) j (f 0) ≡ g j
    each j m = elim (cases_eq j k) [
      | inl e ↦ subst (λ v. get_or (set (table f n) k (g k)) v (f 0) ≡ g v) (sym e) (get_or-set_same (table f n) k (g k) (f 0) (omega (arith, length_table f n)))
      | inr ne ↦ get_or-set_other (table f n) k j (g k) (f 0) ne ∙ at_table f n j (f 0) m ∙ sym (h j ne)
    ]
