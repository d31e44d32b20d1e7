-- The laws of the three sorts of records.
use Rattle.std.proofs.Common.{refl, arith}
use Rattle.journal_rows.specs.Sorts.{IsSort, leg_sort, fare_sort, booking_sort}
use Rattle.journal_rows.proofs.Says.{says_legs, are_legs, says_fares, are_fares, says_bookings, are_bookings}
use Rattle.journal_rows.proofs.Told.{limits_counted, legs_counted}
use Rattle.std.specs.Prelude.{length}

pub leg_laws : IsSort leg_sort
leg_laws = record {
  same = λ h. refl;
  over = λ h xs ys. refl;
  gets = λ h xs. refl;
  done = λ l h xs. refl;
  fine = λ h xs x f. f;
  bytes = λ xs. refl;
  some = omega arith;
  fits = omega arith;
  says = says_legs;
  are = are_legs;
  counted = λ h bs xs f e k lt. limits_counted bs xs f e k lt;
}

pub fare_laws : IsSort fare_sort
fare_laws = record {
  same = λ h. refl;
  over = λ h xs ys. refl;
  gets = λ h xs. refl;
  done = λ l h xs. refl;
  fine = λ h xs x f. f;
  bytes = λ xs. refl;
  some = omega arith;
  fits = omega arith;
  says = says_fares;
  are = are_fares;
  counted = λ h bs xs f e k lt. tt;
}

pub booking_laws : IsSort booking_sort
booking_laws = record {
  same = λ h. refl;
  over = λ h xs ys. refl;
  gets = λ h xs. refl;
  done = λ l h xs. refl;
  fine = λ h xs x f. f;
  bytes = λ xs. refl;
  some = omega arith;
  fits = omega arith;
  says = says_bookings;
  are = are_bookings;
  counted = λ h bs xs f e k lt. legs_counted bs (length h.legs) xs f e k lt;
}
