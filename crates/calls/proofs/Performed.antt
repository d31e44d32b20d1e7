-- A call that is done as the meaning says leaves a house that calls lead to, in which nobody waits for what is free; and what can't be done at a stage is refused by 2.
use Rattle.std.proofs.Common.{◌≡◌, ℕ, ◌+◌, ◌<◌, Bool, true, false, ◌&&◌, ◌||◌, eqb, List, [], ◌∷◌, ◌++◌, length, get_or, take, sym, refl, ap, ◌∙◌, subst}
use Rattle.std.proofs.lemmas.List.{take_more}
use Rattle.meaning.specs.Lines.{pick}
use Rattle.meaning.specs.House.{House}
use Rattle.meaning.specs.Calls as meaning
use Rattle.meaning.specs.Calls.{Call, garbled, refused, call_number, good_fields, turned_by, place, changed, told, after, ran, new_house}
use Rattle.meaning.specs.Promise.{thin}
use Rattle.meaning.specs.Statements.{Reached, some_could, SoldOnce, NobodyWaits, InTime, PaidStays, FirstServed, FreeIsFree, Untouched, TurnedAway}
use Rattle.meaning.proofs.Cheap.{cheapest}
use Rattle.meaning.proofs.Count.{untouched}
use Rattle.meaning.proofs.First.{first_served}
use Rattle.meaning.proofs.Free.{free_is_free}
use Rattle.meaning.proofs.Paid.{paid_stays}
use Rattle.meaning.proofs.Sold.{sold_once}
use Rattle.meaning.proofs.Time.{in_time}
use Rattle.meaning.proofs.Turned.{turned_away}
use Rattle.meaning.proofs.Waits.{idle_after, nobody_waits}
use Rattle.limits.specs.Opening.{limits_mean}
use Rattle.limits.specs.declared.Limits.{Limits}
use Rattle.protocol.specs.Forms.{answer_of, call_of}
use Rattle.protocol.specs.declared.Call as code
use Rattle.protocol.specs.declared.Answer.{Answer}
use Rattle.protocol.specs.declared.Answer.TheVariants as answer
use Rattle.store.specs.Whole.{Lent, house}
use Rattle.store.specs.declared.Memory.{Memory}
use Rattle.store.proofs.Lents.{lent_none}
use Rattle.checks.specs.Meant.{Meant}
use Rattle.calls.specs.Stage.{Answered, Done, Idle, Promised, stage, stage_at}

-- one call more at the end
ran_next : (l : meaning.Limits) (h : House) (cs : List Call) (x : Call) → ran l h (cs ++ (x ∷ [])) ≡ after l (ran l h cs) x
unfolding ran
ran_next l h [] x = refl
ran_next l h (c ∷ cs) x = ran_next l (after l h c) cs x

pub reached_next : (l : meaning.Limits) (h g : House) (x : Call) → Reached l h → g ≡ after l h x → Reached l g
reached_next l h g x (cs, r) e = (cs ++ (x ∷ []), ran_next l (new_house l) cs x ∙ ap (λ (v : House). after l v x) r ∙ sym e)

-- nobody waits for what is free
pub idle : (l : meaning.Limits) (m : Memory) → Reached l (house m) → Idle m
unfolding NobodyWaits
idle l m r = nobody_waits l (house m) r

module _ (can : ℕ → Bool) (m n : Memory) (x : Call) (a : Answer) (list : List ℕ) where
  -- what is answered as the meaning says keeps that nobody waits for what is free, and that calls lead to the house
  pub kept : Idle m → Answered can m n x a list → Done can m n x a list
  kept i d = record {
    says = d.says;
    leaves = d.leaves;
    idle = subst (λ (h : House). some_could h h.bookings ≡ false) (sym d.leaves) (idle_after (stage_at can m) (house m) x i);
    reached = λ r. subst (λ (l : Limits). Reached (limits_mean can l) (house n)) (sym d.lent.limits) (reached_next (stage_at can m) (house m) (house n) x r d.leaves);
    lent = d.lent;
  }

  -- what is done as the meaning says at every stage that can do the call is answered so at this one
  pub meant : can (call_number x) ≡ true → Meant m.limits (house m) x (answer_of a list) (house n) → Lent m n → Answered can m n x a list
  meant e d t = record { says = d.says can e; leaves = d.leaves can e; lent = t }

  pub done : can (call_number x) ≡ true → Idle m → Meant m.limits (house m) x (answer_of a list) (house n) → Lent m n → Done can m n x a list
  done e i d t = kept i (meant e d t)

-- a question leaves memory as it is
pub answered : (can : ℕ → Bool) (m : Memory) (x : Call) (a : Answer) (list : List ℕ) → can (call_number x) ≡ true → Idle m → Meant m.limits (house m) x (answer_of a list) (house m) → Done can m m x a list
answered can m x a list e i d = done can m m x a list e i d (lent_none m)

-- what is done of a call is done of any that is the same
pub as_call : (can : ℕ → Bool) (m n : Memory) (a : Answer) (list ns : List ℕ) (c d : code.Call) → c ≡ d → Done can m n (call_of d ns) a list → Done can m n (call_of c ns) a list
as_call can m n a list ns c d e x = subst (λ (v : code.Call). Done can m n (call_of v ns) a list) (sym e) x

-- a call that can't be done yet
pub later : (m : Memory) (x : Call) (a : Answer) → a ≡ answer.Refused 2 0 → (eqb (call_number x) 255 || thin (call_number x)) ≡ false → place x 2 ≡ 0 → Answered thin m m x a []
later m x a r e p =
    let turned : pick ((eqb (call_number x) 255 || thin (call_number x)) && good_fields x) (turned_by (stage m) (house m) x) 2 ≡ 2 = ap (λ (b : Bool). pick (b && good_fields x) (turned_by (stage m) (house m) x) 2) e in
    record {
      says = ap (λ (v : Answer). answer_of v []) r ∙ sym (ap (λ (t : ℕ). pick (eqb t 0) (told (house m) x) (refused t (place x t))) turned ∙ ap (refused 2) p);
      leaves = sym (ap (λ (t : ℕ). pick (eqb t 0) (changed (house m) x) (house m)) turned);
      lent = lent_none m;
    }

-- bytes that are no call
pub not_read : (can : ℕ → Bool) (m : Memory) (a : Answer) (n : ℕ) → a ≡ answer.Refused 1 n → Idle m → Done can m m (garbled n) a []
unfolding call_number good_fields turned_by place
not_read can m a n r i = kept can m m (garbled n) a [] i (record { says = ap (λ (v : Answer). answer_of v []) r; leaves = refl; lent = lent_none m })

-- what is promised of every house that calls lead to
pub promised : (l : meaning.Limits) (h : House) → Reached l h → Promised l h
unfolding SoldOnce NobodyWaits InTime PaidStays FirstServed FreeIsFree Untouched TurnedAway
promised l h r = record {
  reached = r;
  sold_once = λ x i c. sold_once l h x i c r;
  nobody_waits = nobody_waits l h r;
  in_time = λ g. in_time l h g r;
  paid_stays = λ x k. paid_stays l h x k r;
  first_served = λ x j k. first_served l h x j k r;
  cheapest = cheapest;
  free_is_free = λ i c n. free_is_free l h i c n r;
  untouched = λ x i c. untouched l h x i c r;
  turned_away = λ x cs. turned_away l h x cs;
}

-- one row more
pub rows_more : (l : meaning.Limits) (h : House) (xs : List Call) (i : ℕ) (x : Call) → i < length xs → x ≡ get_or xs i x → ran l h (take (i + 1) xs) ≡ after l (ran l h (take i xs)) x
rows_more l h xs i x b e = ap (ran l h) (take_more xs i x b) ∙ ran_next l h (take i xs) (get_or xs i x) ∙ ap (after l (ran l h (take i xs))) (sym e)
