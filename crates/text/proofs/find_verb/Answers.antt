-- The first verb whose word this is.
use Rattle.std.proofs.Common.{rules, sym, ◌∙◌}
use Rattle.std.proofs.lemmas.Iterator.{YieldsList-from_slice}
use Rattle.std.proofs.lemmas.Iterator.Adapters.{option_map_id}
use Rattle.std.proofs.lemmas.Iterator.Consumers.{YieldsList-from_copied}
use Rattle.std.proofs.lemmas.Iterator.Search.{find_from_yields_List}
use Rattle.std.specs.Str.{bytes_eq}
use Rattle.text.proofs.Verbs.{all_verbs, word_of, found}
use Rattle.text.proofs.find_verb.Goals as goal

pub returns : goal.returns
returns c =
    let ran = find_from_yields_List (λ v. bytes_eq c.args.word.now (word_of v)) _ _ c.find.result c.find.ensures.ran (YieldsList-from_copied (YieldsList-from_slice all_verbs cc)) (λ x b q k. search rules) in
    rw (sym (option_map_id c.find.result) ∙ ran) (found c.args.word.now)
