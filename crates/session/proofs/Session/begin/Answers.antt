-- A call is begun as the program takes it.
use Rattle.std.proofs.Common.{◌≡◌, ℕ, true, false, List, length, take, sym, ap, ◌∙◌, subst, arith}
use Rattle.meaning.specs.Calls.{answer}
use Rattle.limits.specs.declared.Limits.{Limits}
use Rattle.store.specs.Whole.{house}
use Rattle.wire.specs.Rows.{encoded, decoded}
use Rattle.every_call.specs.Stage.{stage, stage_calls}
use Rattle.journal_rows.specs.Layout.{changes}
use Rattle.journal_steps.specs.Steps.{Advanced, Fits, WorkFits}
use Rattle.journal_steps.specs.declared.Work.{Work}
use Rattle.session.proofs.Begins.{row_whole, same_next, same_acts, changed_next, changed_acts}
use Rattle.session.proofs.Session.begin.Goals as goal

pub keep_call-requires : goal.keep_call-requires
keep_call-requires c =
    let m = c.args.m.now in
    let e = sym (c.is_change.ensures.changed (stage m) (house m) (take c.answer_row-reply.result.listed c.answer_row-reply.new.sold) c.answer_row-reply.ensures.done.says) ∙ c.if-not-is_change.false in
    omega (arith, (row_whole (stage m) (house m) c.args.row.now c.is_change.ensures.bytes e).1)

pub returns-then-not-is_change : goal.returns-then-not-is_change
returns-then-not-is_change c =
    let m = c.args.m.now in
    let n = c.answer_row-reply.new.m in
    let d = c.answer_row-reply.ensures.done in
    let x = decoded c.args.row.now in
    let e : changes (stage m) (house m) x ≡ false = sym (c.is_change.ensures.changed (stage m) (house m) (take c.answer_row-reply.result.listed c.answer_row-reply.new.sold) d.says) ∙ c.if-not-is_change.true in
    record {
      next = same_next (stage m) c.args.self.now.journal (house m) (house n) x d.leaves e;
      acts = same_acts (stage m) c.args.self.now.journal (house m) (house n) x d.leaves _ x e d.says;
      ready = record {
        sound = n.sound;
        idle = d.idle;
        fits = subst (λ (l : Limits). Fits l c.args.self.now.journal) (sym d.lent.limits) c.requires.fits;
        work = tt;
        listed = c.answer_row-reply.ensures.listed;
        length = c.requires.length;
        whole = c.requires.whole;
      };
      lent = d.lent;
    }

pub returns : goal.returns
returns c =
    let m = c.args.m.now in
    let n = c.answer_row-reply.new.m in
    let d = c.answer_row-reply.ensures.done in
    let j = c.args.self.now.journal in
    let k = c.advance-self.new.self in
    let bs = c.args.row.now in
    let x = decoded bs in
    let e : changes (stage m) (house m) x ≡ true = sym (c.is_change.ensures.changed (stage m) (house m) (take c.answer_row-reply.result.listed c.answer_row-reply.new.sold) d.says) ∙ c.if-not-is_change.false in
    let limits : c.new-layout.result.limits ≡ m.limits = (c.new-layout.ensures ∙ c.limits.ensures) ∙ d.lent.limits in
    let adv : Advanced m.limits c.pages_now.result j k c.advance-self.result = subst (λ (l : Limits). Advanced l c.pages_now.result j k c.advance-self.result) limits c.advance-self.ensures.advanced in
    let q = adv.journal stage_calls (house m) (house n) (sym c.pages_now.ensures.pages) in
    let w = row_whole (stage m) (house m) bs c.is_change.ensures.bytes e in
    let kept : take (length bs) c.keep_call.new.call ≡ bs = c.keep_call.ensures in
    record {
      next = changed_next (stage m) j (house m) (house n) x d.leaves k e q;
      acts = changed_acts (stage m) j (house m) (house n) x d.leaves k c.advance-self.result _ _ e q (ap decoded kept) d.says (adv.work stage_calls (house m) x (answer (stage m) (house m) x));
      ready = record {
        sound = n.sound;
        idle = d.idle;
        fits = subst (λ (l : Limits). Fits l k) (c.new-layout.ensures ∙ c.limits.ensures) c.advance-self.ensures.fits;
        work = moved c.advance-self.result (c.new-layout.ensures ∙ c.limits.ensures) c.pages_now.ensures.pages c.advance-self.ensures.work;
        listed = c.answer_row-reply.ensures.listed;
        length = omega (arith, w.1);
        whole = ap (λ (b : List ℕ). encoded (decoded b)) kept ∙ w.0 ∙ sym kept;
      };
      lent = d.lent;
    }
  where
    moved : {l v : Limits} {p q : ℕ} (w : Work) → l ≡ v → p ≡ q → WorkFits l p w → WorkFits v q w
    moved {v = v} {p = p} w a b f = subst (λ (i : ℕ). WorkFits v i w) b (subst (λ (u : Limits). WorkFits u p w) a f)
