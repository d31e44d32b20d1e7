-- Nothing of a call is lost by taking it apart.
use Rattle.std.proofs.Common.{refl, arith}
use Rattle.std.proofs.lemmas.Bool.{true≢false}
use Rattle.meaning.specs.Calls.{opens, files, books, pays, cancels, limits_to, ticks, free, price_of, booking, leg_is, garbled, call_number}
use Rattle.protocol.specs.Forms.{NothingLost}

pub nothing_lost : NothingLost
unfolding call_number
nothing_lost (opens a b c d ls) h = record { back = refl; counted = refl; unlisted = λ e. absurd (true≢false e) }
nothing_lost (files a b c n p) h = record { back = refl; counted = refl; unlisted = λ _. refl }
nothing_lost (books c n is) h = record { back = refl; counted = refl; unlisted = λ e. absurd (true≢false e) }
nothing_lost (pays k) h = record { back = refl; counted = refl; unlisted = λ _. refl }
nothing_lost (cancels k) h = record { back = refl; counted = refl; unlisted = λ _. refl }
nothing_lost (limits_to i ls) h = record { back = refl; counted = refl; unlisted = λ e. absurd (true≢false e) }
nothing_lost (ticks n) h = record { back = refl; counted = refl; unlisted = λ _. refl }
nothing_lost (free i c) h = record { back = refl; counted = refl; unlisted = λ _. refl }
nothing_lost (price_of c is) h = record { back = refl; counted = refl; unlisted = λ e. absurd (true≢false e) }
nothing_lost (booking k) h = record { back = refl; counted = refl; unlisted = λ _. refl }
nothing_lost (leg_is i) h = record { back = refl; counted = refl; unlisted = λ _. refl }
nothing_lost (garbled n) h = absurd (omega arith)
