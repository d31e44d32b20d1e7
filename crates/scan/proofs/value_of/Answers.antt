use Rattle.std.proofs.Common.{◌≡◌, ◌+◌, ◌-◌, ◌*◌, min, fold, rules, ap, ◌∙◌}
use Rattle.scan.proofs.Fronts.{value_capped}
use Rattle.scan.proofs.value_of.Goals as goal

pub returns : goal.returns
returns c =
    let mirrored : c.fold-value.result ≡ fold (λ v b. min v 4294967296 * 10 + (b - 48)) 0 c.args.digits.now = search rules in
    c.min.ensures ∙ ap (λ v. min v 4294967296) mirrored ∙ value_capped 4294967296 c.args.digits.now
