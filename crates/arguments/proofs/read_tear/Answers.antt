-- The text of the word at hand is the text at its place, so each word adds to what is known of those before it.
use Rattle.std.proofs.Common.{◌≡◌, ◌∷◌, [], map, set, drop, string_bytes, ℕ, true, List, get_or, Some, sym, ap, ◌∙◌}
use Rattle.std.specs.Option.{is_none}
use Rattle.std.proofs.lemmas.List.{drop-map}
use Rattle.arguments.specs.Words.{number_of, no_number}
use Rattle.arguments.proofs.Tears.{at_drop, first_here, none_more, tear_more}
use Rattle.arguments.proofs.read_tear.Goals as goal

pub returns-in_default-tear_number : goal.returns-in_default-tear_number
returns-in_default-tear_number c =
    let ts = map string_bytes c.args.words.now in
    let i = c.loop-number.number-index in
    let left : drop i ts ≡ c.as_str-word.result.now ∷ map string_bytes c.in-Some.others.now =
    drop-map string_bytes i c.args.words.now ∙ ap (map string_bytes) (sym c.loop-number.invariant.left ∙ c.in-Some.ensures.cases.0) ∙ ap (λ w. w ∷ map string_bytes c.in-Some.others.now) (sym c.as_str-word.ensures.value) in
    let here = at_drop ts i [] _ _ left in
    let wrong : no_number (get_or ts i []) ≡ true = ap no_number here.1 ∙ ap is_none (sym c.tear_number.ensures ∙ c.in_default-tear_number.is) in
    first_here no_number ts i 16 c.loop-number.invariant.right here.0 c.loop-number-test.true wrong ∙ ap Some here.1

pub loop-number-preserved : goal.loop-number-preserved
loop-number-preserved c =
    let ts = map string_bytes c.args.words.now in
    let i = c.loop-number.number-index in
    let left : drop i ts ≡ c.as_str-word.result.now ∷ map string_bytes c.in-Some.others.now =
    drop-map string_bytes i c.args.words.now ∙ ap (map string_bytes) (sym c.loop-number.invariant.left ∙ c.in-Some.ensures.cases.0) ∙ ap (λ w. w ∷ map string_bytes c.in-Some.others.now) (sym c.as_str-word.ensures.value) in
    let here = at_drop ts i [] _ _ left in
    let number : number_of (get_or ts i []) ≡ Some c.in-Some-tear_number.how = ap number_of here.1 ∙ sym c.tear_number.ensures ∙ c.in-Some-tear_number.is in
    record {
      right = none_more no_number ts i c.loop-number.invariant.right here.0 (ap is_none number);
      tear = ap (λ (tear : List ℕ). set tear i c.in-Some-tear_number.how) c.loop-number.invariant.tear ∙ tear_more ts i c.in-Some-tear_number.how here.0 c.loop-number-test.true number;
      left = sym ((at_drop c.args.words.now i c.in-Some.word.now _ _ (sym c.loop-number.invariant.left ∙ c.in-Some.ensures.cases.0)).2);
    }
