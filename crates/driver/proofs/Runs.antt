-- Acts one after the other, on a chip.
use Rattle.std.proofs.Common.{◌≡◌, ℕ, suc, ◌+◌, ◌<◌, Bool, true, false, List, [], ◌∷◌, ◌++◌, length, take, sym, refl, ap, ◌∙◌, subst, append_assoc, append-nil, arith, length-append}
use Rattle.meaning.specs.Calls.{Answer, Call}
use Rattle.meaning.specs.Chip.{Chip}
use Rattle.journal.specs.Acts.{Act, done, all_done, Torn, LeftAfter, said}
use Rattle.journal.proofs.Machine.{said-++}
use Rattle.journal.proofs.Runs.{all-done-++}
use Rattle.store.specs.declared.Memory.{Memory}
use Rattle.journal_steps.specs.declared.Work.{Work}
use Rattle.journal_steps.specs.declared.Work.TheVariants as work
use Rattle.limits.specs.Opening.{limits_mean}
use Rattle.limits.specs.declared.Limits.{Limits}
use Rattle.store.specs.Whole.{house}
use Rattle.every_call.specs.Stage.{stage, stage_calls}
use Rattle.journal_steps.specs.Steps.{journal_of, owed}
use Rattle.journal_steps.specs.declared.Journal.{Journal}
use Rattle.session.specs.Acts.{Takes, answer_kept, at_rest, call_kept, pending, rests}
use Rattle.session.specs.declared.Session.{Session}
use Rattle.driver.specs.Played.{CallPlayed, Finished, Kept, OneAct, Progress, Stopped}

-- power that fails after some acts were done
pub left_later : (d e : Chip) (xs ys : List (Act Answer)) (k : ℕ) → LeftAfter (all_done d xs) ys k e → LeftAfter d (xs ++ ys) (length xs + k) e
unfolding LeftAfter all_done
left_later d e [] ys k l = let z : 0 + k ≡ k = omega arith in subst (λ (i : ℕ). LeftAfter d ys i e) (sym z) l
left_later d e (x ∷ xs) ys k l = let z : suc (length xs + k) ≡ suc (length xs) + k = omega arith in subst (λ (i : ℕ). LeftAfter d (x ∷ (xs ++ ys)) i e) z (left_later (done d x) e xs ys k l)

-- and the acts before
pub take_later : {X : Type 0} (xs ys : List X) (k : ℕ) → take (length xs + k) (xs ++ ys) ≡ xs ++ take k ys
take_later [] ys k = let z : 0 + k ≡ k = omega arith in ap (λ (i : ℕ). take i ys) z
take_later (x ∷ xs) ys k = let z : suc (length xs) + k ≡ suc (length xs + k) = omega arith in ap (λ (i : ℕ). take i (x ∷ (xs ++ ys))) z ∙ ap (λ r. x ∷ r) (take_later xs ys k)

-- nothing is done yet
pub none_done : (d : Chip) (ts : List Answer) (xs : List (Act Answer)) → Progress d ts xs xs d ts
unfolding all_done said
none_done d ts xs = record { past = []; split = refl; chip = refl; heard = sym (append-nil ts) }

-- one act more
pub one_more : (d : Chip) (ts : List Answer) (before now after : List (Act Answer)) (e f : Chip) (us vs : List Answer) → Progress d ts before now e us → OneAct e us now after f vs true → Progress d ts before after f vs
unfolding all_done
one_more d ts before now after e f us vs p o = record {
  past = p.past ++ (o.act ∷ []);
  split = p.split ∙ ap (λ r. p.past ++ r) o.first ∙ sym (append_assoc p.past (o.act ∷ []) after);
  chip = o.acted.0 ∙ ap (λ c. done c o.act) p.chip ∙ sym (all-done-++ d p.past (o.act ∷ []));
  heard = o.acted.1 ∙ ap (λ r. r ++ said (o.act ∷ [])) p.heard ∙ append_assoc ts (said p.past) (said (o.act ∷ [])) ∙ ap (λ r. ts ++ r) (sym (said-++ p.past (o.act ∷ [])));
}

-- power fails in the next one
pub stops : (d : Chip) (ts : List Answer) (before now after : List (Act Answer)) (e f : Chip) (us vs : List Answer) → Progress d ts before now e us → OneAct e us now after f vs false → Stopped d ts before f vs
unfolding LeftAfter
stops d ts before now after e f us vs p o =
    let all : before ≡ p.past ++ (o.act ∷ after) = p.split ∙ ap (λ r. p.past ++ r) o.first in
    let z : length p.past + 0 ≡ length p.past = omega arith in
    record {
      at = length p.past + 0;
      in_it = subst (λ r. length p.past + 0 < length r) (sym all) (omega (arith, length-append p.past (o.act ∷ after)));
      left = subst (λ r. LeftAfter d r (length p.past + 0) f) (sym all) (left_later d f p.past (o.act ∷ after) 0 (subst (λ c. Torn c o.act f) p.chip o.acted.0));
      heard = o.acted.1 ∙ p.heard ∙ ap (λ r. ts ++ said r) (sym (ap (take (length p.past + 0)) all ∙ take_later p.past (o.act ∷ after) 0 ∙ append-nil p.past));
    }

-- nothing is left
pub all_of : (d : Chip) (ts : List Answer) (before now : List (Act Answer)) (e : Chip) (us : List Answer) → Progress d ts before now e us → now ≡ [] → Finished d ts before e us true
all_of d ts before now e us p q =
    let all : p.past ≡ before = sym (append-nil p.past) ∙ ap (λ r. p.past ++ r) (sym q) ∙ sym p.split in
    (p.chip ∙ ap (all_done d) all, p.heard ∙ ap (λ r. ts ++ said r) all)

-- at rest nothing is owed
pub rest_owes : (s : Session) (m : Memory) → at_rest s ≡ true → pending s m ≡ []
rest_owes s m = go s.work
  where
    go : (w : Work) → rests w ≡ true → owed (stage m) s.journal (house m) w (call_kept s) (answer_kept s) ≡ []
    go work.Resting e = refl
    go work.Answering e = let z : ◌≡◌ {A = ℕ} 0 1 = cc in absurd (omega arith)
    go (work.Logging k) e = let z : ◌≡◌ {A = ℕ} 0 1 = cc in absurd (omega arith)
    go (work.LoggingNow k) e = let z : ◌≡◌ {A = ℕ} 0 1 = cc in absurd (omega arith)
    go work.Opening e = let z : ◌≡◌ {A = ℕ} 0 1 = cc in absurd (omega arith)
    go work.OpeningMore e = let z : ◌≡◌ {A = ℕ} 0 1 = cc in absurd (omega arith)
    go work.Erasing e = let z : ◌≡◌ {A = ℕ} 0 1 = cc in absurd (omega arith)
    go (work.Filling k) e = let z : ◌≡◌ {A = ℕ} 0 1 = cc in absurd (omega arith)
    go (work.FillingNow k) e = let z : ◌≡◌ {A = ℕ} 0 1 = cc in absurd (omega arith)

-- a call that was begun, and what it owed
pub played : (s b t : Session) (m n : Memory) (c : Call) (d e : Chip) (ts us : List Answer) (held : Bool) → Takes s b m n c → Finished d ts (pending b n) e us held → Kept b t n → (held ≡ true → at_rest t ≡ true) →
    CallPlayed s t m n c d ts e us held
played s b t m n c d e ts us held k f q r = record {
  next = ap (λ (j : Journal). journal_of (stage m) j (house n)) q.journal ∙ k.next;
  acts = subst (λ (xs : List (Act Answer)). Finished d ts xs e us held) (ap (λ (l : Limits). owed (limits_mean stage_calls l) b.journal (house n) b.work (call_kept b) (answer_kept b)) k.lent.limits ∙ k.acts) f;
  ready = q.ready;
  rests = r;
  lent = k.lent;
}
