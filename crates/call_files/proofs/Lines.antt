-- The first line that is not passed over, line by line.
use Rattle.std.proofs.Common.{◌≡◌, ℕ, zero, suc, ◌-◌, ◌<◌, ◌≤◌, true, false, List, [], ◌∷◌, length, sym, refl, ap, ◌∙◌, ap₂, arith, min, ◌+◌}
use Rattle.std.proofs.lemmas.List.{length-drop}
use Rattle.scan.specs.declared.Kind.TheVariants as kind
use Rattle.meaning.specs.Lines.{pick}
use Rattle.scan.specs.Words.{front, line_of, past_line}
use Rattle.call_files.specs.Lines.{passed_over}
use Rattle.call_files.specs.Lines.{first_in}

-- a line that is passed over
pub line_over : (n : ℕ) (bs rest : List ℕ) → 0 < length bs → length bs ≤ n → rest ≡ past_line bs → passed_over (line_of bs) ≡ true → first_in n bs ≡ first_in (n - 1) rest
unfolding first_in
line_over zero bs rest some few e p = absurd (omega arith)
line_over (suc n) [] rest some few e p = absurd (omega arith)
line_over (suc n) (b ∷ bs) rest some few e p =
    let z : n ≡ suc n - 1 = omega arith in
    ap (λ t. pick t (first_in n (past_line (b ∷ bs))) (line_of (b ∷ bs), past_line (b ∷ bs))) p ∙ ap₂ first_in z (sym e)

-- the first that is not
pub line_found : (n : ℕ) (bs line rest : List ℕ) → 0 < length bs → length bs ≤ n → line ≡ line_of bs → rest ≡ past_line bs → passed_over (line_of bs) ≡ false → first_in n bs ≡ (line, rest)
unfolding first_in
line_found zero bs line rest some few d e p = absurd (omega arith)
line_found (suc n) [] line rest some few d e p = absurd (omega arith)
line_found (suc n) (b ∷ bs) line rest some few d e p =
    ap (λ t. pick t (first_in n (past_line (b ∷ bs))) (line_of (b ∷ bs), past_line (b ∷ bs))) p ∙ ap₂ (λ x y. (x, y)) (sym d) (sym e)

-- there is none
pub no_line : (n : ℕ) (bs : List ℕ) → length bs ≡ 0 → first_in n bs ≡ (bs, bs)
unfolding first_in
no_line zero [] e = refl
no_line (suc n) [] e = refl
no_line n (b ∷ bs) e = absurd (omega arith)

-- what stands behind a line is shorter
pub line_shorter : (bs : List ℕ) → 0 < length bs → length (past_line bs) < length bs
line_shorter bs some = omega (arith, length-drop (min (length bs) (front kind.InLine bs + 1)) bs)
