-- What every change keeps holds of every house that is reached.
use Rattle.std.proofs.Common.{◌≡◌, ℕ, Bool, true, false, eqb, List, [], ◌∷◌, refl, ap, subst}
use Rattle.std.proofs.lemmas.Bool.{eqb-true}
use Rattle.meaning.specs.Lines.{pick}
use Rattle.meaning.specs.House.{House}
use Rattle.meaning.specs.Calls.{Call, Limits, turned, after, changed, ran, new_house}
use Rattle.meaning.specs.Statements.{Reached}

-- after a call the house is the same, or changed by a call that is not turned away
pub after_is : (l : Limits) (h : House) (x : Call) (P : House → Type 0) → P h → (turned l h x ≡ 0 → P (changed h x)) → P (after l h x)
after_is l h x P p f = go (eqb (turned l h x) 0) refl
  where
    go : (t : Bool) → eqb (turned l h x) 0 ≡ t → P (pick t (changed h x) h)
    go true e = f (eqb-true _ _ e)
    go false e = p

pub after_taken : (l : Limits) (h : House) (x : Call) → turned l h x ≡ 0 → after l h x ≡ changed h x
after_taken l h x e = ap (λ (t : ℕ). pick (eqb t 0) (changed h x) h) e

module _ (l : Limits) (P : House → Type 0) (step : (h : House) (x : Call) → turned l h x ≡ 0 → P h → P (changed h x)) where
  ran_keeps : (h : House) (cs : List Call) → P h → P (ran l h cs)
  unfolding ran
  ran_keeps h [] p = p
  ran_keeps h (c ∷ cs) p = ran_keeps (after l h c) cs (after_is l h c P p (λ e. step h c e p))

  pub reached : P (new_house l) → (h : House) → Reached l h → P h
  reached p h r = subst P r.1 (ran_keeps (new_house l) r.0 p)
