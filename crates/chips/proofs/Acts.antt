-- An act in lent bytes is one on the chip that they are; and what stands on a page that was read.
use Rattle.std.proofs.Common.{◌≡◌, ℕ, Bool, true, false, List, [], ◌∷◌, ◌++◌, map, if◌then◌else◌, sym, refl, ap, ◌∙◌, append-nil}
use mathlib.Core.Path.{fun_ext}
use Rattle.std.proofs.lemmas.List.{map-append}
use Rattle.meaning.specs.Calls.{Answer}
use Rattle.meaning.specs.Chip as house
use Rattle.meaning.specs.Chip.{Chip, done as house_done, Torn as HouseTorn}
use Rattle.journal.specs.Acts.{Act, write, wipe, say, done, Torn, said}
use Rattle.flash.specs.Pages as flash
use Rattle.flash.specs.Pages.{chip_in}
use Rattle.driver.specs.Played.{Acted}
use Rattle.chips.specs.Recorded.{said_means}
use Rattle.chips.specs.declared.said.Said.{Said}

-- the house's act as one of any machine
abbrev pub as_any : house.Act → Act Answer
as_any (house.write k bs) = write k bs
as_any (house.wipe b) = wipe b
as_any (house.say a) = say a

-- it does the same, and is torn in the same ways
same_done : (d : Chip) (x : house.Act) (j : ℕ) → house_done d x j ≡ done d (as_any x) j
unfolding house_done done
same_done d (house.write k bs) j = refl
same_done d (house.wipe b) j = refl
same_done d (house.say a) j = refl

same_torn : (d e : Chip) (x : house.Act) → HouseTorn d x e → Torn d (as_any x) e
unfolding HouseTorn Torn
same_torn d e (house.write k bs) t = t
same_torn d e (house.wipe b) t = t
same_torn d e (house.say a) t = t

-- an act that gives no answer
pub acted_in : (x : house.Act) (old new : List ℕ) (ts : List Answer) (held : Bool) → said (as_any x ∷ []) ≡ [] → flash.Acted x old new held → Acted (chip_in old) ts (as_any x) (chip_in new) ts held
acted_in x old new ts true quiet a = (fun_ext (λ j. a.whole refl j ∙ same_done (chip_in old) x j), sym (ap (λ r. ts ++ r) quiet ∙ append-nil ts))
acted_in x old new ts false quiet a = (same_torn (chip_in old) (chip_in new) x (a.torn refl), refl)

pub quiet_write : (k : ℕ) (bs : List ℕ) → said {A = Answer} (write k bs ∷ []) ≡ []
unfolding said
quiet_write k bs = refl

pub quiet_wipe : (b : ℕ) → said {A = Answer} (wipe b ∷ []) ≡ []
unfolding said
quiet_wipe b = refl

-- an answer that was given changes no page
pub given : (d : Chip) (ts us : List Answer) (a : Answer) → us ≡ ts ++ (a ∷ []) → Acted d ts (say a) d us true
unfolding done said
given d ts us a e = (refl, e)

-- nor does one in whose act power fails
pub not_given : (d : Chip) (ts us : List Answer) (a : Answer) → us ≡ ts → Acted d ts (say a) d us false
unfolding Torn
not_given d ts us a e = (λ j. refl, e)

-- one answer more was recorded, or none: as the call that records it says
pub told_more : (d : Chip) (before after : List Said) (s : Said) (a : Answer) (held pushed : Bool) → held ≡ pushed → after ≡ (if pushed then before ++ (s ∷ []) else before) → said_means s ≡ a → Acted d (map said_means before) (say a) d (map said_means after) held
told_more d before after s a true true q e m = given d _ _ a (ap (map said_means) e ∙ map-append said_means before (s ∷ []) ∙ ap (λ r. map said_means before ++ (r ∷ [])) m)
told_more d before after s a true false q e m = cc
told_more d before after s a false true q e m = cc
told_more d before after s a false false q e m = not_given d _ _ a (ap (map said_means) e)
