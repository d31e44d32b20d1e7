use Rattle.std.proofs.Common.{◌≡◌, ℕ, ◌+◌, ◌∙◌, arith}
use Rattle.store.specs.Whole.{house}
use Rattle.journal_rows.specs.Layout.{leg_pages, fare_pages, booking_pages, head, pages}
use Rattle.session.proofs.Counts.{few_counts, few_pages}
use Rattle.session.proofs.pages_now.Goals as goal

pub overflow_cast-leg_count : goal.overflow_cast-leg_count
overflow_cast-leg_count c = omega (arith, c.leg_count.ensures, (few_counts c.args.m.now c.requires).0)

pub overflow_cast-fare_count : goal.overflow_cast-fare_count
overflow_cast-fare_count c = omega (arith, c.fare_count.ensures, (few_counts c.args.m.now c.requires).1)

pub overflow_cast-booking_count : goal.overflow_cast-booking_count
overflow_cast-booking_count c = omega (arith, c.booking_count.ensures, (few_counts c.args.m.now c.requires).2)

pub checkpoint_pages-requires : goal.checkpoint_pages-requires
checkpoint_pages-requires c =
    let f = few_counts c.args.m.now c.requires in
    (omega (arith, c.leg_count.ensures, f.0), omega (arith, c.fare_count.ensures, f.1), omega (arith, c.booking_count.ensures, f.2))

pub returns : goal.returns
returns c =
    let e : c.checkpoint_pages.result ≡ pages (head (house c.args.m.now)) =
    c.checkpoint_pages.ensures.pages ∙ same c.leg_count.ensures c.fare_count.ensures c.booking_count.ensures in
    let f = few_pages c.args.m.now c.requires in
    record { pages = e; few = (omega (arith, e, f.0), omega (arith, e, f.1)) }
  where
    same : {a b d e f g : ℕ} → a ≡ e → b ≡ f → d ≡ g → leg_pages a + (fare_pages b + booking_pages d) ≡ leg_pages e + (fare_pages f + booking_pages g)
    same p q r = cc
