-- An act that the mirror has done, or that was torn there, is one that counts as torn where the file could not be written.
use Rattle.std.proofs.Common.{◌≡◌, Bool, true, false, List, [], ◌∷◌, ◌++◌, sym, ap, ◌∙◌, subst, append-nil}
use Rattle.meaning.specs.Calls.{Answer}
use Rattle.meaning.specs.Chip.{Chip}
use Rattle.journal.specs.Acts.{Act, Torn, said}
use Rattle.driver.specs.Played.{Acted}
use Rattle.chips.proofs.Tears.{done_is_torn}

pub counts_as_torn : (d e : Chip) (ts us : List Answer) (x : Act Answer) (held : Bool) → said (x ∷ []) ≡ [] → Acted d ts x e us held → Acted d ts x e us false
counts_as_torn d e ts us x true quiet a = (subst (Torn d x) (sym a.0) (done_is_torn d x), a.1 ∙ ap (λ r. ts ++ r) quiet ∙ append-nil ts)
counts_as_torn d e ts us x false quiet a = a
