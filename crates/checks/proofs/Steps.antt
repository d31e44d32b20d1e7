-- Each check is the meaning's own test, which goes over the list in the same way.
use Rattle.std.proofs.Common.{◌≡◌, ℕ, zero, suc, ◌<◌, ◌≤◌, Bool, true, false, not, ◌&&◌, ◌||◌, eqb, ltb, leb, List, [], ◌∷◌, length, get_or, take, drop, add-one, refl, sym, ap, ◌∙◌, subst, arith}
use Rattle.std.specs.List.{list_all, list_any, IsAllAdjacentAnswer}
use Rattle.std.specs.Slice.Iter.{windows_rest, windows_size, windows_steps}
use Rattle.std.specs.declared.slice.Windows.{Windows}
use Rattle.std.proofs.lemmas.Bool.{and_parts, and_right, ltb-true}
use Rattle.std.proofs.lemmas.Iterator.{YieldsList}
use Rattle.std.proofs.lemmas.Iterator.Splits.{YieldsList-from_shown_while}
use Rattle.meaning.specs.Lines.{Leg, leg, follows}
use Rattle.meaning.specs.House.{goes}
use Rattle.meaning.specs.Calls.{all_there, all_to, falling, no_twice}
use Rattle.checks.specs.Lists.{leg_there, legs_join}

-- a list's windows of two
abbrev pub twos : List ℕ → List (List ℕ)
twos [] = []
twos (i ∷ []) = []
twos (i ∷ (j ∷ is)) = (i ∷ (j ∷ [])) ∷ twos (j ∷ is)

-- limits that are small
pub small_is : (m : ℕ) (ls : List ℕ) → all_to m ls ≡ list_all (λ x. leb x m) ls
unfolding all_to
small_is m [] = refl
small_is m (x ∷ ls) = ap (λ b. leb x m && b) (small_is m ls)

-- limits that never rise
falls : (ls : List ℕ) → ((k : ℕ) → suc k < length ls → true ≡ leb (get_or ls (suc k) 0) (get_or ls k 0)) → true ≡ falling ls
unfolding falling
falls [] f = refl
falls (a ∷ []) f = refl
falls (a ∷ (b ∷ ls)) f = λ d. f 0 (omega arith) d && falls (b ∷ ls) (λ k l. f (suc k) (omega arith)) d

rises : (ls : List ℕ) (k : ℕ) → suc k < length ls → false ≡ leb (get_or ls (suc k) 0) (get_or ls k 0) → false ≡ falling ls
unfolding falling
rises [] k l e = absurd (omega arith)
rises (a ∷ []) k l e = absurd (omega arith)
rises (a ∷ (b ∷ ls)) zero l e = ap (λ t. t && falling (b ∷ ls)) e
rises (a ∷ (b ∷ ls)) (suc k) l e = sym (and_right (leb b a) (falling (b ∷ ls)) (sym (rises (b ∷ ls) k (omega arith) e)))

pub sorted_is : (r : Bool) (ls : List ℕ) → IsAllAdjacentAnswer (λ x y b. b ≡ leb y x) ls r → r ≡ falling ls
sorted_is true ls h = falls ls (λ k l. h k 0 (omega arith) ∙ ap (λ j. leb (get_or ls j 0) (get_or ls k 0)) (add-one k))
sorted_is false ls (k, l, f) = rises ls k (omega arith) (f 0 ∙ ap (λ j. leb (get_or ls j 0) (get_or ls k 0)) (add-one k))

-- a leg that is among others
pub goes_is : (is : List ℕ) (i : ℕ) → goes is i ≡ list_any (λ j. eqb j i) is
unfolding goes
goes_is [] i = refl
goes_is (j ∷ is) i = ap (λ b. eqb j i || b) (goes_is is i)

-- no leg twice: the first is not among the others, and none of them is there twice
pub apart_is : (is js : List ℕ) (i : ℕ) → is ≡ i ∷ js → no_twice is ≡ (not (list_any (λ j. eqb j i) js) && no_twice js)
unfolding no_twice
apart_is is js i e = ap no_twice e ∙ ap (λ b. not b && no_twice js) (goes_is js i)

pub none_apart : (is : List ℕ) → length is ≡ 0 → true ≡ no_twice is
unfolding no_twice
none_apart [] e = refl
none_apart (i ∷ is) e = absurd (omega arith)

-- legs that are there
pub there_is : (ls : List Leg) (c : ℕ) (is : List ℕ) → all_there ls c is ≡ list_all (leg_there ls c) is
unfolding all_there
there_is ls c [] = refl
there_is ls c (i ∷ is) = ap (λ b. leg_there ls c i && b) (there_is ls c is)

module _ (ls : List Leg) (class : ℕ) where
  pub there_tells : (is : List ℕ) → all_there ls class is ≡ true → (x : ℕ) → x < length is → get_or is x 0 < length ls
  unfolding all_there
  there_tells [] e x h = absurd (omega arith)
  there_tells (i ∷ is) e zero h = ltb-true _ _ (and_parts _ _ (and_parts (ltb i (length ls) && ltb class (length (leg ls i).limits)) _ e).0).0
  there_tells (i ∷ is) e (suc x) h = there_tells is (and_parts (ltb i (length ls) && ltb class (length (leg ls i).limits)) _ e).1 x (omega arith)

-- legs that follow each other
pub follows_is : (ls : List Leg) (gap : ℕ) (is : List ℕ) → follows ls gap is ≡ list_all (λ w. legs_join ls gap (get_or w 0 0) (get_or w 1 0)) (twos is)
unfolding follows
follows_is ls gap [] = refl
follows_is ls gap (i ∷ []) = refl
follows_is ls gap (i ∷ (j ∷ is)) = ap (λ b. legs_join ls gap i j && b) (follows_is ls gap (j ∷ is))

twos_step : (is w : List ℕ) → 2 ≤ length is → w ≡ take 2 is → twos is ≡ w ∷ twos (drop 1 is)
twos_step [] w h e = absurd (omega arith)
twos_step (i ∷ []) w h e = absurd (omega arith)
twos_step (i ∷ (j ∷ is)) w h e = ap (λ (v : List ℕ). v ∷ twos (j ∷ is)) (sym e)

twos_end : (is : List ℕ) → length is < 2 → length (twos is) ≡ 0
twos_end [] h = refl
twos_end (i ∷ []) h = refl
twos_end (i ∷ (j ∷ is)) h = absurd (omega arith)

-- what `windows(2)` gives
pub windows_two : (s : Windows ℕ) (is : List ℕ) → windows_size s ≡ 2 → windows_rest s ≡ is → YieldsList windows_steps (λ w. w.now) s (twos is)
windows_two s is e r = subst (λ v. YieldsList windows_steps (λ w. w.now) s (twos v)) r
    (YieldsList-from_shown_while windows_steps (λ w. w.now) (λ t. twos (windows_rest t)) (λ t. windows_size t ≡ 2)
    (λ a b p h. twos_end (windows_rest a) (omega (arith, h.1.0)))
    (λ a x b p h. (h.0 ∙ p, twos_step (windows_rest a) x.now (omega (arith, h.1.0)) (h.1.1 ∙ ap (λ n. take n (windows_rest a)) p) ∙ ap (λ v. x.now ∷ twos v) (sym h.1.2)))
    s e)

-- a window of two, of a list whose numbers are all below n
pub record Two (w : List ℕ) (n : ℕ) : Type 0 where
  pub long : length w ≡ 2
  pub first : get_or w 0 0 < n
  pub next : get_or w 1 0 < n

pub twos_within : (is w : List ℕ) (n k : ℕ) → ((x : ℕ) → x < length is → get_or is x 0 < n) → k < length (twos is) → w ≡ get_or (twos is) k w → Two w n
twos_within [] w n k h l e = absurd (omega arith)
twos_within (i ∷ []) w n k h l e = absurd (omega arith)
twos_within (i ∷ (j ∷ is)) w n zero h l e = subst (λ (v : List ℕ). Two v n) (sym e) (record { long = refl; first = h 0 (omega arith); next = h 1 (omega arith) })
twos_within (i ∷ (j ∷ is)) w n (suc k) h l e = twos_within (j ∷ is) w n k (λ x p. h (suc x) (omega arith)) (omega arith) e
