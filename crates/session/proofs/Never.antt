-- No call of a house that is open is refused by 3.
use Rattle.std.proofs.Common.{◌≡◌, ℕ, Bool, true, false, eqb, sym, refl, arith}
use Rattle.std.proofs.lemmas.Bool.Decides.{nat_tests}
use Rattle.std.proofs.lemmas.Bool.{eqb-false}
use Rattle.meaning.specs.Lines.{pick}
use Rattle.meaning.specs.House.{House}
use Rattle.meaning.specs.Calls.{Call, opens, files, books, pays, cancels, limits_to, ticks, free, price_of, booking, leg_is, garbled, Limits, refused, turned, turned_by, told, place, good_call}
use Rattle.session.specs.Opening.{NeverThree}
use Rattle.session.proofs.Changes.{told_so}

abbrev NotThree : ℕ → Type 0
NotThree n = n ≡ 3 → ⊥

either : (b : Bool) (x y : ℕ) → NotThree x → NotThree y → NotThree (pick b x y)
either true x y p q = p
either false x y p q = q

no : (n : ℕ) → eqb n 3 ≡ false → NotThree n
no n e q = eqb-false n 3 e q

by_list : (l : Limits) (h : House) (c : Call) → NotThree (turned_by l h c)
unfolding turned_by
by_list l h (opens a b c d ls) = λ e. grind (arith, nat_tests)
by_list l h (files a b c m p) = λ e. grind (arith, nat_tests)
by_list l h (books c m is) = λ e. grind (arith, nat_tests)
by_list l h (pays k) = λ e. grind (arith, nat_tests)
by_list l h (cancels k) = λ e. grind (arith, nat_tests)
by_list l h (limits_to i ls) = λ e. grind (arith, nat_tests)
by_list l h (ticks m) = λ e. grind (arith, nat_tests)
by_list l h (free i c) = λ e. grind (arith, nat_tests)
by_list l h (price_of c is) = λ e. grind (arith, nat_tests)
by_list l h (booking k) = λ e. grind (arith, nat_tests)
by_list l h (leg_is i) = λ e. grind (arith, nat_tests)
by_list l h (garbled m) = no 1 refl

pub never_three : NeverThree
never_three l h c p e = go (eqb (turned l h c) 0) e
  where
    go : (t : Bool) → pick t (told h c) (refused (turned l h c) (place c (turned l h c))) ≡ refused 3 p → ⊥
    go true q = told_so h c 3 p (sym q)
    go false q = let z : turned l h c ≡ 3 = cc in either (good_call l c) (turned_by l h c) 2 (by_list l h c) (no 2 refl) z
