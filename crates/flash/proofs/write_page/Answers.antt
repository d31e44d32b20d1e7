-- The act was done where power held, and torn where it failed.
use Rattle.std.proofs.Common.{get_or, ap, ◌∙◌}
use Rattle.meaning.specs.Lines.{pick}
use Rattle.flash.specs.Pages.{left_by}
use Rattle.flash.specs.declared.Left.TheVariants.{Done}
use Rattle.flash.proofs.Acts.{acted_write}
use Rattle.flash.proofs.write_page.Goals as goal

pub returns-clause-acted : goal.returns-clause-acted
returns-clause-acted c = acted_write c.args.k _ c.args.bytes.now _ _ _ (λ e. c.left_if.ensures ∙ ap (λ held. pick held Done (left_by (get_or c.spend-held.new.self.tear 0 0))) e) c.write_as.ensures
