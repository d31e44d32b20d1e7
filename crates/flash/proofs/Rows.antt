-- Rows of a chip's bytes: how a page is read from its row, and one row put in the place of another.
use Rattle.std.proofs.Common.{◌≡◌, ℕ, ◌+◌, ◌*◌, ◌<◌, ◌≤◌, eqb, ◌⊎◌, List, [], ◌∷◌, ◌++◌, length, set, sym, refl, ap, ◌∙◌, inl, inr, append-nil, arith, rules}
use borrow.Rule.Slice.PartMut.{put_mid}
use Rattle.std.proofs.lemmas.List.{drop_all, places}
use Rattle.std.proofs.lemmas.Bool.{cases_order, eq-eqb, ne_eqb}
use Rattle.meaning.specs.Lines.{pick}
use Rattle.records.proofs.Parts.{stored, others}
use Rattle.flash.specs.Pages.{row_at, RowPut}

-- a row that was filled
pub filled : (row bs : List ℕ) (how : ℕ) → length row ≡ 513 → put_mid 1 512 (set row 0 how) bs ≡ how ∷ bs
filled [] bs how e = absurd (omega arith)
filled (x ∷ row) bs how e = ap (λ r. how ∷ (bs ++ r)) (drop_all 512 row (omega arith)) ∙ ap (λ r. how ∷ r) (append-nil bs)

-- a row put in the place of row k
pub put : (k a n : ℕ) (w row : List ℕ) → k * 513 + 513 ≤ length w → length row ≡ 513 → a ≡ k * 513 → n ≡ 513 → RowPut k row w (put_mid a n w row)
put k a n w row h l p q = record { as_long = search (rules, places); rows = λ j. at j (cases_order j k) }
  where
    at : (j : ℕ) → (j ≡ k) ⊎ ((j < k) ⊎ (k < j)) → row_at (put_mid a n w row) j ≡ pick (eqb j k) row (row_at w j)
    at j (inl e) =
        ap (row_at (put_mid a n w row)) e ∙ (stored (λ x. x) 513 513 k a n w row row refl (omega arith) h l p q ∙ ap (λ b. pick b row (row_at w j)) (sym (eq-eqb j k e)))
    at j (inr o) =
        let ne : j ≡ k → ⊥ = λ e. elim o [ inl lt ↦ omega arith | inr gt ↦ omega arith ] in
        others (λ x. x) 513 513 k a n w row j ne (omega arith) h l p q ∙ ap (λ b. pick b row (row_at w j)) (sym (ne_eqb j k ne))
