-- One step: the first of the acts that are owed, and what is left.
use Rattle.std.proofs.Common.{◌≡◌, ℕ, ◌≤◌, List, ◌++◌, length, sym, refl, ap, ◌∙◌, subst, arith}
use Rattle.meaning.specs.Calls as meaning
use Rattle.journal.specs.Acts as chip
use Rattle.limits.specs.declared.Limits.{Limits}
use Rattle.protocol.specs.Forms.{answer_of}
use Rattle.protocol.specs.declared.Answer.{Answer}
use Rattle.protocol.specs.declared.Answer.TheVariants as answers
use Rattle.store.specs.Whole.{house}
use Rattle.store.specs.declared.Memory.{Memory}
use Rattle.wire_answers.specs.Answers.{listed}
use Rattle.every_call.specs.Stage.{stage, stage_calls}
use Rattle.journal_rows.specs.Layout.{head, pages}
use Rattle.journal_steps.specs.Steps.{ActFits, Gives, WorkFits, acts_of}
use Rattle.journal_steps.specs.declared.Act.{Act}
use Rattle.journal_steps.specs.declared.Work.{Work}
use Rattle.session.specs.Acts.{LentBytes, OnChip, OnlyAtRest, Ready, Stepped, answer_kept, call_kept, effects, pending}
use Rattle.session.specs.declared.Session.{Session}
use Rattle.session.specs.declared.Effect.{Effect}

-- the same session with other work
abbrev pub with_work : Session → Work → Session
with_work s v = record { journal = s.journal; work = v; call = s.call; length = s.length; answer = s.answer; sold = s.sold; listed = s.listed }

-- the list of an answer is no longer than the one beside it
pub listed_few : (a : Answer) (list : List ℕ) → listed (answer_of a list) ≤ length list
unfolding listed
listed_few (answers.Refused n p) list = omega arith
listed_few (answers.Number n) list = omega arith
listed_few (answers.Booked k s) list = omega arith
listed_few (answers.Stands s u p) list = omega arith
listed_few answers.Sold list = omega arith

module _ (s : Session) (m : Memory) (r : Ready s m) (l : Limits) (n : ℕ) (x : Act) (v : Work) (here : l ≡ m.limits) (many : n ≡ pages (head (house m)))
    (gives : Gives l s.journal n s.work x v) (left : WorkFits l n v) (on : ActFits l n s.work x) where
  -- the act, in range
  pub act_in : ActFits m.limits n s.work x
  act_in = subst (λ (u : Limits). ActFits u n s.work x) here on

  work_in : WorkFits m.limits (pages (head (house m))) v
  work_in = subst (λ (i : ℕ). WorkFits m.limits i v) many (subst (λ (u : Limits). WorkFits u n v) here left)

  owes : pending s m ≡ acts_of (stage m) s.journal (house m) (call_kept s) (answer_kept s) x ++ pending (with_work s v) m
  owes = subst (λ (u : Limits). Gives u s.journal n s.work x v) here gives stage_calls (house m) (call_kept s) (answer_kept s) (sym many)

  pub stepped : (page page' out out' : List ℕ) (e : Effect) → acts_of (stage m) s.journal (house m) (call_kept s) (answer_kept s) x ≡ effects (answer_kept s) page' e →
      LentBytes (answer_kept s) page page' out out' e → OnChip m.limits e → OnlyAtRest s e → Stepped s (with_work s v) m page page' out out' e
  stepped page page' out out' e q b o t = record {
    acts = owes ∙ ap (λ (xs : List (chip.Act meaning.Answer)). xs ++ pending (with_work s v) m) q;
    bytes = b;
    on_chip = o;
    rest = t;
    journal = refl;
    answer = refl;
    ready = record { sound = r.sound; idle = r.idle; fits = r.fits; work = work_in; listed = r.listed; length = r.length; whole = r.whole };
  }
