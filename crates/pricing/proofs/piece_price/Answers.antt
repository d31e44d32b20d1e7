-- The chain goes over all fares of the house, and takes the least price of those for the stretch.
use Rattle.std.proofs.Common.{◌≡◌, ℕ, min, List, length, get_or, map, drop, refl, sym, ap, ◌∙◌, arith, rules, tests}
use Rattle.std.specs.List.{range_with_len, reduce}
use Rattle.std.proofs.lemmas.Iterator.{YieldsList-from_range, YieldsList-from_map, YieldsList-from_map_by}
use Rattle.std.proofs.lemmas.Iterator.Consumers.{YieldsList-at, YieldsList-from_filter, min_from_yields_List}
use Rattle.std.proofs.lemmas.List.FromFn.{fill_by_all}
use Rattle.meaning.specs.Lines.{Fare}
use Rattle.records.specs.Means.{fare_means}
use Rattle.store.specs.Whole.{house}
use Rattle.pricing.proofs.Cuts.{asked_for, piece_is, prices}
use Rattle.pricing.proofs.piece_price.Goals as goal

-- what stands in the place of a fare that is not there
abbrev none : Fare
none = record { origin = 0; goal = 0; class = 0; most_legs = 0; price = 0 }

pub returns-clause-value : goal.returns-clause-value
returns-clause-value c =
    let fs : List Fare = (house c.args.m.now).fares in
    let at : ℕ → Fare = λ k. get_or fs k none in
    let s = c.stretch_of-asked.result in
    let all : fs ≡ map at (range_with_len 0 (length fs)) = fill_by_all at fs (length fs) none refl (λ k h. refl) in
    let road =
    min_from_yields_List c.map-2.result c.min.result c.min.ensures.ran
    (YieldsList-from_map _ (λ (f : Fare). f.price)
    (YieldsList-at c.map-2.ensures.source
    (YieldsList-from_filter _ (λ f. asked_for f s)
    (YieldsList-at c.filter.ensures.source
    (YieldsList-from_map_by _ fare_means at
    (YieldsList-at c.map.ensures.source (YieldsList-from_range 0 c.fare_count.result (length fs) refl (omega (arith, c.fare_count.ensures))))
    c.map.ensures.closure (λ x r q k. search (rules, tests))))
    c.filter.ensures.closure (λ x b q k. search (rules, tests))))
    c.map-2.ensures.closure (λ x r q k. search (rules, tests))) in
    piece_is (house c.args.m.now).legs c.args.class (get_or c.args.part.now 0 0) (drop 1 c.args.part.now) fs s c.stretch_of-asked.ensures c.min.result (road ∙ ap (λ v. reduce min (prices s v)) (sym all))
