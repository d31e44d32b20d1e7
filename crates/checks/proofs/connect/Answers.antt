-- Each window's two legs are legs of the journey, so they are there; and all windows are all neighbours.
use Rattle.std.proofs.Common.{length, get_or, refl, sym, ◌∙◌, rules, tests}
use Rattle.std.proofs.iter.Serving.{same}
use Rattle.std.proofs.lemmas.Iterator.Consumers.{YieldsList-turn}
use Rattle.std.proofs.lemmas.Iterator.Search.{all_from_yields_List}
use Rattle.store.specs.Whole.{house}
use Rattle.checks.specs.Lists.{legs_join}
use Rattle.checks.proofs.Steps.{Two, follows_is, twos_within, windows_two}
use Rattle.checks.proofs.connect.Goals as goal

pub all-requires-clause-callable : goal.all-requires-clause-callable
all-requires-clause-callable c = record {
  at = λ xs t q x u y f s.
      let is = c.args.journey.now in
      let turn = YieldsList-turn (windows_two c.windows.result is c.windows.ensures.size c.windows.ensures.rest) xs t y _ u x refl s in
      let two : Two x.now (length (house c.args.m.now).legs) = twos_within is x.now _ (length xs) c.requires.there turn.0 turn.1 in
      let kept = same _ (λ p a r k. search rules) xs _ q f in
      let long = two.long in
      let first = two.first in
      let next = two.next in
      rw kept (search rules);
}

pub returns : goal.returns
returns c =
    all_from_yields_List (λ w. legs_join (house c.args.m.now).legs (house c.args.m.now).gap (get_or w 0 0) (get_or w 1 0)) _ _ c.all.result c.all.ensures.ran
    (windows_two c.windows.result c.args.journey.now c.windows.ensures.size c.windows.ensures.rest) (λ x b q k. search (rules, tests))
    ∙ sym (follows_is (house c.args.m.now).legs (house c.args.m.now).gap c.args.journey.now)
