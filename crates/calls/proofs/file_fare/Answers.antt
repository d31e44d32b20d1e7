-- Out of range, one too many, or filed.
use Rattle.std.proofs.Common.{sym, refl, ap, arith}
use Rattle.std.proofs.lemmas.Bool.Decides.{nat_tests}
use Rattle.meaning.specs.Calls.{number, good_fields, turned_by, place, changed, told}
use Rattle.limits.specs.declared.Limits.{Limits}
use Rattle.store.proofs.Ranges.{fare_fine}
use Rattle.checks.proofs.Verdicts.{out_of_range, refuses, takes}
use Rattle.calls.proofs.file_fare.Goals as goal

pub returns-then-not-fare_in_range-clause-meant : goal.returns-then-not-fare_in_range-clause-meant
unfolding good_fields place
returns-then-not-fare_in_range-clause-meant c = out_of_range _ _ _ _ c.at.ensures refl (sym c.if-not-fare_in_range.ensures)

pub returns-in_default-clause-meant : goal.returns-in_default-clause-meant
unfolding good_fields turned_by place
returns-in_default-clause-meant c = refuses _ _ _ _ _ _ c.at-in_default.ensures refl refl (sym c.if-not-fare_in_range.ensures) (λ can. grind (arith, nat_tests, c.in_default.ensures, c.fare_count.ensures, ap (λ (l : Limits). l.fares) c.limits.ensures))

pub push_fare-requires : goal.push_fare-requires
unfolding good_fields
push_fare-requires c = record {
  space = omega (arith, c.in-Some.ensures.0, c.in-Some.ensures.1, c.fare_count.ensures, ap (λ (l : Limits). l.fares) c.limits.ensures);
  fine = fare_fine c.args.fare.now (sym c.if-not-fare_in_range.ensures);
}

pub returns-clause-meant : goal.returns-clause-meant
unfolding good_fields turned_by changed told
returns-clause-meant c =
    takes _ _ _ _ _ (sym c.if-not-fare_in_range.ensures) (λ can. grind (arith, nat_tests, c.in-Some.ensures.1, c.fare_count.ensures, ap (λ (l : Limits). l.fares) c.limits.ensures))
    (ap number (omega (arith, c.in-Some.ensures.0, c.fare_count.ensures))) c.push_fare.ensures.house
