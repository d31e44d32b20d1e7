-- The words of a tear, one word at a time: one more number, and the first word that is none.
use Rattle.std.proofs.Common.{◌≡◌, ℕ, zero, suc, ◌+◌, ◌-◌, ◌<◌, Bool, true, false, cond, List, [], ◌∷◌, ◌++◌, length, get_or, take, drop, map, set, replicate, Some, None, Option, refl, sym, ap, subst, append_assoc, add-one, ◌∙◌, arith, length-drop, drop-cons}
use Rattle.std.specs.List.{find}
use Rattle.std.specs.Option.{unwrap_or, option_or}
use Rattle.std.proofs.lemmas.List.{take_more, length-take-le, map-append, length-append, length-map}
use Rattle.std.proofs.Math.Seq.{set-append_seam}
use Rattle.std.proofs.lemmas.List.Folds.{find-append}
use Rattle.arguments.specs.Words.{number_of, tear_of}

-- what is left of a list from i on, where something is left: what stands at i, and the rest
pub at_drop : {X : Type 0} (xs : List X) (i : ℕ) (d x : X) (rest : List X) → drop i xs ≡ x ∷ rest → (i < length xs) × (get_or xs i d ≡ x) × (drop (i + 1) xs ≡ rest)
at_drop xs i d x rest e =
    let within : i < length xs = omega (arith, ap length e, length-drop i xs) in
    let parts = sym (drop-cons xs i d within) ∙ e in
    (within, cc, ap (λ n. drop n xs) (add-one i) ∙ cc)

-- what was passed over is none, and what comes behind it is the same
passed : (b : Bool) (x : List ℕ) (o : Option (List ℕ)) → cond b (Some x) o ≡ None → (b ≡ false) × (o ≡ None)
passed true x o h = cc
passed false x o h = (refl, h)

-- the first that passes, where none of those before it does
pub first_here : (p : List ℕ → Bool) (ts : List (List ℕ)) (i m : ℕ) → find p (take i ts) ≡ None → i < length ts → i < m → p (get_or ts i []) ≡ true → find p (take m ts) ≡ Some (get_or ts i [])
first_here p [] i m h within below here = absurd (omega arith)
first_here p (x ∷ xs) i zero h within below here = absurd (omega arith)
first_here p (x ∷ xs) zero (suc m) h within below here = ap (λ (b : Bool). cond b (Some x) (find p (take m xs))) here
first_here p (x ∷ xs) (suc i) (suc m) h within below here =
    let both = passed (p x) x (find p (take i xs)) h in
    ap (λ (b : Bool). cond b (Some x) (find p (take m xs))) both.0 ∙ first_here p xs i m both.1 (omega arith) (omega arith) here

-- one more that does not pass
pub none_more : (p : List ℕ → Bool) (ts : List (List ℕ)) (i : ℕ) → find p (take i ts) ≡ None → i < length ts → p (get_or ts i []) ≡ false → find p (take (i + 1) ts) ≡ None
none_more p ts i h within here =
    ap (find p) (take_more ts i [] within)
    ∙ find-append p (take i ts) (get_or ts i [] ∷ [])
    ∙ ap (λ (o : Option (List ℕ)). option_or o (find p (get_or ts i [] ∷ []))) h
    ∙ ap (λ (b : Bool). cond b (Some (get_or ts i [])) None) here

-- one more number, in the place of the first 0 that stands for none
grown : (xs : List (List ℕ)) (w : List ℕ) (n i k : ℕ) → number_of w ≡ Some n → length xs ≡ i → i + suc k ≡ 16 → set (tear_of xs) i n ≡ tear_of (xs ++ w ∷ [])
grown xs w n i k e long room =
    let f : List ℕ → ℕ = λ v. unwrap_or (number_of v) 0 in
    let left_over : 16 - length xs ≡ suc k = omega arith in
    let then_left : 16 - length (xs ++ w ∷ []) ≡ k = omega (arith, length-append xs (w ∷ [])) in
    let at : length (map f xs) ≡ i = length-map xs f ∙ long in
    let put : set (map f xs ++ 0 ∷ replicate k 0) i n ≡ map f xs ++ n ∷ replicate k 0 =
    subst (λ (j : ℕ). set (map f xs ++ 0 ∷ replicate k 0) j n ≡ map f xs ++ n ∷ replicate k 0) at (set-append_seam (map f xs) 0 (replicate k 0) n) in
    let grows : tear_of (xs ++ w ∷ []) ≡ map f xs ++ n ∷ replicate k 0 =
    ap (λ (j : ℕ). map f (xs ++ w ∷ []) ++ replicate j 0) then_left
    ∙ ap (λ (ys : List ℕ). ys ++ replicate k 0) (map-append f xs (w ∷ []))
    ∙ append_assoc (map f xs) (f w ∷ []) (replicate k 0)
    ∙ ap (λ (o : Option ℕ). map f xs ++ unwrap_or o 0 ∷ replicate k 0) e in
    ap (λ (j : ℕ). set (map f xs ++ replicate j 0) i n) left_over ∙ put ∙ sym grows

-- the numbers of one more word
pub tear_more : (ts : List (List ℕ)) (i n : ℕ) → i < length ts → i < 16 → number_of (get_or ts i []) ≡ Some n → set (tear_of (take i ts)) i n ≡ tear_of (take (i + 1) ts)
tear_more ts i n within below e =
    grown (take i ts) (get_or ts i []) n i (15 - i) e (length-take-le i ts (omega arith)) (omega arith)
    ∙ ap tear_of (sym (take_more ts i [] within))
