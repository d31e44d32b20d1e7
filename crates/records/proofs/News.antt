-- What a new leg and a new booking mean: just what they are made of.
use Rattle.std.proofs.Common.{◌≡◌, ℕ, ◌-◌, List, length, take, replicate, refl}
use Rattle.std.proofs.lemmas.List.{take_at}
use Rattle.records.specs.Means.{leg_means, booking_means}
use Rattle.records.specs.Words.{padded, leg_of, booking_of}

-- what stands in front of the zeros
pub unpadded : (n : ℕ) (xs : List ℕ) → take (length xs) (padded n xs) ≡ xs
unpadded n xs = take_at xs (replicate (n - length xs) 0) (length xs) refl

pub leg_of_means : (a b c d : ℕ) (ls : List ℕ) → leg_means (leg_of a b c d ls) ≡ record { from = a; to = b; leaves = c; arrives = d; limits = ls }
leg_of_means a b c d ls = λ i. record { from = a; to = b; leaves = c; arrives = d; limits = unpadded 26 ls i }

pub booking_of_means : (c n : ℕ) (is : List ℕ) → booking_means (booking_of c n is) ≡ record { legs = is; class = c; seats = n; stands = 0; until = 0; paid = 0 }
booking_of_means c n is = λ i. record { legs = unpadded 8 is i; class = c; seats = n; stands = 0; until = 0; paid = 0 }
