-- A call is done as the meaning says: refused for its range, refused by what the house holds, or taken.
use Rattle.std.proofs.Common.{◌≡◌, ℕ, Bool, true, false, ◌||◌, eqb, [], refl, sym, ap, ◌∙◌, subst}
use Rattle.std.proofs.lemmas.Bool.{and_from, and_right, or_right}
use Rattle.meaning.specs.Lines.{pick}
use Rattle.meaning.specs.House.{House}
use Rattle.meaning.specs.Calls.{Call, Answer, refused, call_number, good_fields, good_call, turned_by, turned, place, changed, told}
use Rattle.limits.specs.Opening.{limits_mean}
use Rattle.limits.specs.declared.Limits.{Limits}
use Rattle.protocol.specs.Forms.{answer_of}
use Rattle.protocol.specs.declared.Answer as code
use Rattle.protocol.specs.declared.Answer.TheVariants as answer
use Rattle.checks.specs.Meant.{Meant}

module _ (l : Limits) (h : House) (x : Call) where
  -- refused by t at every stage that can do the call; 0: taken
  abbrev Turned : ℕ → Type 0
  Turned t = (can : ℕ → Bool) → can (call_number x) ≡ true → turned (limits_mean can l) h x ≡ t

  -- the same of the checks against the house
  abbrev pub Checked : ℕ → Type 0
  Checked t = (can : ℕ → Bool) → turned_by (limits_mean can l) h x ≡ t

  in_range : (t : ℕ) → good_fields x ≡ true → Checked t → Turned t
  in_range t g f can e =
      let good : good_call (limits_mean can l) x ≡ true = and_from (eqb (call_number x) 255 || can (call_number x)) (good_fields x) (or_right (eqb (call_number x) 255) (can (call_number x)) e) g in
      ap (λ (b : Bool). pick b (turned_by (limits_mean can l) h x) 2) good ∙ f can

  not_in_range : good_fields x ≡ false → Turned 2
  not_in_range g can e =
      ap (λ (b : Bool). pick b (turned_by (limits_mean can l) h x) 2) (and_right (eqb (call_number x) 255 || can (call_number x)) (good_fields x) g)

  -- refused by t at place p, whatever way the answer was made
  refused_by : (r : code.Answer) (t p : ℕ) → r ≡ answer.Refused t p → eqb t 0 ≡ false → place x t ≡ p → Turned t → Meant l h x (answer_of r []) h
  refused_by r t p s z q f = subst (λ (a : code.Answer). Meant l h x (answer_of a []) h) (sym s) (record {
    says = λ can e. sym (ap (λ (v : ℕ). pick (eqb v 0) (told h x) (refused v (place x v))) (f can e) ∙ (λ d. pick (z d) (told h x) (refused t (q d))));
    leaves = λ can e. sym (ap (λ (v : ℕ). pick (eqb v 0) (changed h x) h) (f can e) ∙ ap (λ (b : Bool). pick b (changed h x) h) z);
  })

  pub out_of_range : (r : code.Answer) → r ≡ answer.Refused 2 0 → place x 2 ≡ 0 → good_fields x ≡ false → Meant l h x (answer_of r []) h
  out_of_range r s q g = refused_by r 2 0 s refl q (not_in_range g)

  pub refuses : (r : code.Answer) (t p : ℕ) → r ≡ answer.Refused t p → eqb t 0 ≡ false → place x t ≡ p → good_fields x ≡ true → Checked t → Meant l h x (answer_of r []) h
  refuses r t p s z q g f = refused_by r t p s z q (in_range t g f)

  pub takes : (a : Answer) (k : House) → good_fields x ≡ true → Checked 0 → a ≡ told h x → k ≡ changed h x → Meant l h x a k
  takes a k g f s t = record {
    says = λ can e. s ∙ sym (ap (λ (v : ℕ). pick (eqb v 0) (told h x) (refused v (place x v))) (in_range 0 g f can e));
    leaves = λ can e. t ∙ sym (ap (λ (v : ℕ). pick (eqb v 0) (changed h x) h) (in_range 0 g f can e));
  }
