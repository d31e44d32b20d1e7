-- the first leg stands in the first place, the last one in the last
use Rattle.std.proofs.Common.{◌≡◌, ℕ, suc, List, length, get_or, drop, sym, ap, ◌∙◌, arith}
use Rattle.std.proofs.lemmas.List.{length-drop}
use Rattle.meaning.specs.Lines.{Leg, leg, last_of}
use Rattle.store.specs.Whole.{house}
use Rattle.pricing.proofs.Cuts.{last_is}
use Rattle.pricing.proofs.stretch_of.Goals as goal

pub returns : goal.returns
returns c =
    let ls : List Leg = (house c.args.m.now).legs in
    let p : List ℕ = c.args.part.now in
    let from : c.leg.result.from ≡ (leg ls (get_or p 0 0)).from = ap (λ (g : Leg). g.from) c.leg.ensures.means in
    let to : c.leg-2.result.to ≡ (leg ls (last_of (get_or p 0 0) (drop 1 p))).to =
    ap (λ (g : Leg). g.to) c.leg-2.ensures.means ∙ ap (λ (i : ℕ). (leg ls i).to) (sym (last_is p c.requires.some)) in
    let n : length p ≡ suc (length (drop 1 p)) = omega (arith, length-drop 1 p) in
    λ d. record { from = from d; to = to d; class = c.args.class; legs = n d }
