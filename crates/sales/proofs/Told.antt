-- The list that a question about a leg is answered with is what is taken on it.
use Rattle.std.proofs.Common.{◌≡◌, ℕ, ◌<◌, List, length, IfOk, Ok, Err, string_bytes, Result, String, sym, refl, ap, ◌∙◌, arith}
use Rattle.std.proofs.lemmas.Bool.Decides.{nat_tests}
use Rattle.meaning.specs.Lines.{Leg, leg}
use Rattle.meaning.specs.House.{House}
use Rattle.meaning.specs.Calls.{changed, each_class, good_fields, leg_is, sold, told, turned_by}
use Rattle.meaning.specs.Promise.{whole}
use Rattle.limits.specs.declared.Limits.{Limits}
use Rattle.protocol.specs.Forms.{answer_of}
use Rattle.protocol.specs.declared.Answer.{Answer as Coded}
use Rattle.protocol.specs.declared.Answer.TheVariants as coded
use Rattle.checks.specs.Meant.{Meant}
use Rattle.checks.proofs.Verdicts.{takes}
use Rattle.std.specs.declared.alloc.AllocError.{AllocError}
use Rattle.std.specs.declared.alloc.Global.{Global}
use Rattle.sales.specs.Lines.{LineTold, leg_line, sold_line}

list_is : (a : Coded) (ns ms : List ℕ) → answer_of a ns ≡ sold ms → ns ≡ ms
list_is (coded.Refused n p) ns ms e = let z : ◌≡◌ {A = ℕ} 0 1 = cc in absurd (omega arith)
list_is (coded.Number n) ns ms e = let z : ◌≡◌ {A = ℕ} 0 1 = cc in absurd (omega arith)
list_is (coded.Booked k s) ns ms e = let z : ◌≡◌ {A = ℕ} 0 1 = cc in absurd (omega arith)
list_is (coded.Stands s u p) ns ms e = let z : ◌≡◌ {A = ℕ} 0 1 = cc in absurd (omega arith)
list_is coded.Sold ns ms e = cc

-- what is taken on a leg that is there is the answer to the question about it
so_sold : (l : Limits) (h : House) (i : ℕ) (ns : List ℕ) → i < length h.legs → ns ≡ each_class h.bookings i 0 (length (leg h.legs i).limits) → Meant l h (leg_is i) (sold ns) h
unfolding good_fields turned_by told changed
so_sold l h i ns q e = takes l h (leg_is i) (sold ns) h refl (λ can. grind (arith, nat_tests, q)) (ap sold e) refl

pub sold_on : (l : Limits) (h : House) (i : ℕ) (a : Coded) (ns : List ℕ) → i < length h.legs → Meant l h (leg_is i) (answer_of a ns) h → ns ≡ each_class h.bookings i 0 (length (leg h.legs i).limits)
sold_on l h i a ns q m = list_is a ns _ (m.says whole refl ∙ sym ((so_sold l h i _ q refl).says whole refl))

-- the line of a leg, from what the code has of it
pub line_is : (h : House) (i : ℕ) (g : Leg) (ns : List ℕ) → g ≡ leg h.legs i → ns ≡ each_class h.bookings i 0 (length (leg h.legs i).limits) →
    sold_line i g.from g.to g.leaves g.arrives ns g.limits ≡ leg_line h i
line_is h i g ns e f =
    ap (λ (k : Leg). sold_line i k.from k.to k.leaves k.arrives ns k.limits) e
    ∙ ap (λ (ks : List ℕ). sold_line i (leg h.legs i).from (leg h.legs i).to (leg h.legs i).leaves (leg h.legs i).arrives ks (leg h.legs i).limits) f

pub line_told : (r : Result (String Global) AllocError) (xs : List ℕ) (h : House) (i : ℕ) → IfOk r (λ s. string_bytes s ≡ xs) → xs ≡ leg_line h i → LineTold r h i
line_told (Ok s) xs h i e f = e ∙ f
line_told (Err x) xs h i e f = tt
