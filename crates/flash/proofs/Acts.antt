-- What was written and erased is an act that was done, or one that was torn.
use Rattle.std.proofs.Common.{◌≡◌, ℕ, ◌+◌, ◌-◌, ◌*◌, ◌/◌, ◌%◌, ◌<◌, ◌≤◌, Bool, true, eqb, ◌⊎◌, List, length, sym, refl, ap, ◌∙◌, inl, inr, arith}
use Rattle.std.proofs.lemmas.Bool.{cases_eq, cases_lt, eq-eqb, ne_eqb}
use Rattle.meaning.specs.Lines.{pick}
use Rattle.meaning.specs.Chip.{Page, blank, spoilt, write, wipe, written_on, done, Torn}
use Rattle.flash.specs.Pages.{chip_in, left_of, write_leaves, page_erased, erase_leaves, ChipIs, Acted}
use Rattle.flash.specs.declared.Left.{Left}
use Rattle.flash.specs.declared.Left.TheVariants.{AsBefore, Done, Spoilt}

-- as before, done, or spoilt
left_cases : (how : Left) (p q : Page) → (left_of how p q ≡ p) ⊎ ((left_of how p q ≡ q) ⊎ (left_of how p q ≡ spoilt))
left_cases AsBefore p q = inl refl
left_cases Done p q = inr (inl refl)
left_cases Spoilt p q = inr (inr refl)

pub acted_write : (k : ℕ) (how : Left) (bs old new : List ℕ) (held : Bool) → (held ≡ true → how ≡ Done) → ChipIs (write_leaves (chip_in old) k bs how) old new → Acted (write k bs) old new held
unfolding done Torn
acted_write k how bs old new held whole c = record {
  as_long = c.as_long;
  whole = λ e j. c.pages j ∙ ap (λ n. write_leaves (chip_in old) k bs n j) (whole e);
  torn = λ _ j. at j (cases_eq j k);
}
  where
    at : (j : ℕ) → (j ≡ k) ⊎ (j ≡ k → ⊥) → (chip_in new j ≡ chip_in old j) ⊎ ((j ≡ k) × ((chip_in new j ≡ written_on (chip_in old j) bs) ⊎ (chip_in new j ≡ spoilt)))
    at j (inr n) = inl (c.pages j ∙ ap (λ b. pick b (left_of how (chip_in old j) (written_on (chip_in old j) bs)) (chip_in old j)) (ne_eqb j k n))
    at j (inl e) =
        let p : chip_in new j ≡ left_of how (chip_in old j) (written_on (chip_in old j) bs) = c.pages j ∙ ap (λ b. pick b (left_of how (chip_in old j) (written_on (chip_in old j) bs)) (chip_in old j)) (eq-eqb j k e) in
        elim (left_cases how (chip_in old j) (written_on (chip_in old j) bs)) [
          | inl q ↦ inl (p ∙ q)
          | inr (inl q) ↦ inr (e, inl (p ∙ q))
          | inr (inr q) ↦ inr (e, inr (p ∙ q))
        ]

pub acted_erase : (b : ℕ) (how : ℕ → Left) (old new : List ℕ) (held : Bool) → (held ≡ true → (i : ℕ) → how i ≡ Done) → ChipIs (erase_leaves (chip_in old) b how) old new → Acted (wipe b) old new held
unfolding done Torn
acted_erase b how old new held whole c = record {
  as_long = c.as_long;
  whole = λ e j. c.pages j ∙ ap (λ n. pick (eqb (j / 16) b) (left_of n (chip_in old j) blank) (chip_in old j)) (whole e (j % 16));
  torn = λ _ j. at j (cases_eq (j / 16) b);
}
  where
    at : (j : ℕ) → (j / 16 ≡ b) ⊎ (j / 16 ≡ b → ⊥) → (chip_in new j ≡ chip_in old j) ⊎ ((j / 16 ≡ b) × ((chip_in new j ≡ blank) ⊎ (chip_in new j ≡ spoilt)))
    at j (inr n) = inl (c.pages j ∙ ap (λ x. pick x (left_of (how (j % 16)) (chip_in old j) blank) (chip_in old j)) (ne_eqb (j / 16) b n))
    at j (inl e) =
        let p : chip_in new j ≡ left_of (how (j % 16)) (chip_in old j) blank = c.pages j ∙ ap (λ x. pick x (left_of (how (j % 16)) (chip_in old j) blank) (chip_in old j)) (eq-eqb (j / 16) b e) in
        elim (left_cases (how (j % 16)) (chip_in old j) blank) [
          | inl q ↦ inl (p ∙ q)
          | inr (inl q) ↦ inr (e, inl (p ∙ q))
          | inr (inr q) ↦ inr (e, inr (p ∙ q))
        ]

-- ERASING A BLOCK page by page: the first i pages are what the act leaves of them, all others as they were
pub record ErasedTo (b i : ℕ) (how : ℕ → Left) (old new : List ℕ) : Type 0 where
  pub as_long : length new ≡ length old
  pub gone : (j : ℕ) → b * 16 ≤ j → j < b * 16 + i → chip_in new j ≡ left_of (how (j - b * 16)) (chip_in old j) blank
  pub kept : (j : ℕ) → (j < b * 16) ⊎ (b * 16 + i ≤ j) → chip_in new j ≡ chip_in old j

pub none_erased : (b : ℕ) (how : ℕ → Left) (w : List ℕ) → ErasedTo b 0 how w w
none_erased b how w = record { as_long = refl; gone = λ j ge lt. absurd (omega arith); kept = λ j o. refl }

pub one_erased : (b i : ℕ) (how : ℕ → Left) (old mid new : List ℕ) → ErasedTo b i how old mid → ChipIs (page_erased (chip_in mid) (b * 16 + i) (how i)) mid new → ErasedTo b (i + 1) how old new
one_erased b i how old mid new e c = record { as_long = c.as_long ∙ e.as_long; gone = λ j ge lt. at j ge lt (cases_eq j (b * 16 + i)); kept = λ j o. beside j (apart j o) ∙ e.kept j (wider j o) }
  where
    beside : (j : ℕ) → (j ≡ b * 16 + i → ⊥) → chip_in new j ≡ chip_in mid j
    beside j n = c.pages j ∙ ap (λ x. pick x (left_of (how i) (chip_in mid j) blank) (chip_in mid j)) (ne_eqb j (b * 16 + i) n)

    apart : (j : ℕ) → (j < b * 16) ⊎ (b * 16 + (i + 1) ≤ j) → j ≡ b * 16 + i → ⊥
    apart j (inl l) q = omega arith
    apart j (inr g) q = omega arith

    wider : (j : ℕ) → (j < b * 16) ⊎ (b * 16 + (i + 1) ≤ j) → (j < b * 16) ⊎ (b * 16 + i ≤ j)
    wider j (inl l) = inl l
    wider j (inr g) = inr (omega arith)

    at : (j : ℕ) → b * 16 ≤ j → j < b * 16 + (i + 1) → (j ≡ b * 16 + i) ⊎ (j ≡ b * 16 + i → ⊥) → chip_in new j ≡ left_of (how (j - b * 16)) (chip_in old j) blank
    at j ge lt (inr n) = beside j n ∙ e.gone j ge (omega arith)
    at j ge lt (inl q) =
        let place : i ≡ j - b * 16 = omega arith in
        c.pages j
        ∙ (ap (λ x. pick x (left_of (how i) (chip_in mid j) blank) (chip_in mid j)) (eq-eqb j (b * 16 + i) q)
        ∙ (ap (λ p. left_of (how i) p blank) (e.kept j (inr (omega arith))) ∙ ap (λ n. left_of (how n) (chip_in old j) blank) place))

pub all_erased : (b : ℕ) (how : ℕ → Left) (old new : List ℕ) → ErasedTo b 16 how old new → ChipIs (erase_leaves (chip_in old) b how) old new
all_erased b how old new e = record { as_long = e.as_long; pages = λ j. at j (cases_eq (j / 16) b) }
  where
    at : (j : ℕ) → (j / 16 ≡ b) ⊎ (j / 16 ≡ b → ⊥) → chip_in new j ≡ erase_leaves (chip_in old) b how j
    at j (inl q) =
        let place : j - b * 16 ≡ j % 16 = omega arith in
        e.gone j (omega arith) (omega arith)
        ∙ (ap (λ n. left_of (how n) (chip_in old j) blank) place ∙ ap (λ x. pick x (left_of (how (j % 16)) (chip_in old j) blank) (chip_in old j)) (sym (eq-eqb (j / 16) b q)))
    at j (inr n) =
        e.kept j (outside j n) ∙ ap (λ x. pick x (left_of (how (j % 16)) (chip_in old j) blank) (chip_in old j)) (sym (ne_eqb (j / 16) b n))
      where
        outside : (j : ℕ) → (j / 16 ≡ b → ⊥) → (j < b * 16) ⊎ (b * 16 + 16 ≤ j)
        outside j n = elim (cases_lt j (b * 16)) [ inl l ↦ inl l | inr g ↦ inr (elim (cases_lt j (b * 16 + 16)) [ inl l ↦ absurd (n (omega arith)) | inr h ↦ h ]) ]
