use Rattle.std.proofs.Common.{◌∷◌, ◌∙◌, ap₂}
use Rattle.flash.proofs.Rows.{filled}
use Rattle.flash.proofs.fill_row.Goals as goal

pub returns : goal.returns
returns c = filled c.args.row.now c.copy_from_slice.new.self c.from.result c.requires ∙ ap₂ (λ n bs. n ∷ bs) c.from.ensures c.copy_from_slice.ensures.after
