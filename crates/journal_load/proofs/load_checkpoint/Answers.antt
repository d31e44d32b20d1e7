-- A page of legs, of fares or of bookings, by its number.
use Rattle.std.proofs.Common.{◌≡◌, length, arith}
use Rattle.std.proofs.lemmas.Result.{on_ok_weaker, on_err_weaker}
use Rattle.store.specs.Whole.{house}
use Rattle.journal_load.specs.Pages.{head_of}
use Rattle.journal_load.proofs.Sorts.{grown_legs, grown_fares, grown_bookings}
use Rattle.journal_load.proofs.Shares.{refused_legs, refused_fares, refused_bookings, one_of_legs, one_of_fares, one_of_bookings}
use Rattle.journal_load.proofs.load_checkpoint.Goals as goal

pub returns-then-n-leg_pages : goal.returns-then-n-leg_pages
returns-then-n-leg_pages c =
    let s = head_of c.args.commit.now in
    let h = house c.args.m.now in
    let g = house c.load.new.m in
    record {
      loads = c.load.ensures.loads;
      loaded = on_ok_weaker c.load.result (λ e. one_of_legs s c.args.n c.min-count.result h g c.requires.before c.if-n-leg_pages.true c.min-count.ensures (grown_legs c.args.page.now h g c.min-count.result e)) c.load.ensures.came;
      refused = on_err_weaker c.load.result (λ e l was good is bs r. refused_legs c.args.commit.now l was good is c.args.n c.args.page.now bs r c.if-n-leg_pages.true c.min-count.result c.min-count.ensures h e) c.load.ensures.refused;
      sound = c.load.ensures.sound;
      lent = c.load.ensures.lent;
    }

pub returns-then-behind_legs-fare_pages : goal.returns-then-behind_legs-fare_pages
returns-then-behind_legs-fare_pages c =
    let s = head_of c.args.commit.now in
    let h = house c.args.m.now in
    let n = c.min-count-then-behind_legs-fare_pages.result in
    let is = c.min-count-then-behind_legs-fare_pages.ensures in
    let load = c.load-then-behind_legs-fare_pages in
    let g = house c.load-then-behind_legs-fare_pages.new.m in
    record {
      loads = load.ensures.loads;
      loaded = on_ok_weaker load.result (λ e. one_of_fares s c.args.n n h g c.requires.before c.if-n-leg_pages.false c.if-behind_legs-fare_pages.true is (grown_fares c.args.page.now h g n e)) load.ensures.came;
      refused = on_err_weaker load.result (λ e l was good so bs r. refused_fares c.args.commit.now l was good so c.args.n c.args.page.now bs r c.if-n-leg_pages.false c.if-behind_legs-fare_pages.true n is h e) load.ensures.refused;
      sound = load.ensures.sound;
      lent = load.ensures.lent;
    }

pub returns : goal.returns
returns c =
    let s = head_of c.args.commit.now in
    let h = house c.args.m.now in
    let n = c.min-count-2.result in
    let is = c.min-count-2.ensures in
    let g = house c.load-2.new.m in
    let all : length h.legs ≡ c.args.commit.now.legs = omega (arith, c.requires.before.legs, c.if-n-leg_pages.false) in
    record {
      loads = c.load-2.ensures.loads;
      loaded = on_ok_weaker c.load-2.result (λ e. one_of_bookings s c.args.n n h g c.requires.before c.if-n-leg_pages.false c.if-behind_legs-fare_pages.false is (grown_bookings c.args.page.now h g n e)) c.load-2.ensures.came;
      refused = on_err_weaker c.load-2.result (λ e l was good so bs r. refused_bookings c.args.commit.now l was good so c.args.n c.args.page.now bs r c.if-n-leg_pages.false c.if-behind_legs-fare_pages.false n is h all e) c.load-2.ensures.refused;
      sound = c.load-2.ensures.sound;
      lent = c.load-2.ensures.lent;
    }
