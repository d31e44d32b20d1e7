-- Each act is what its arm does.
use Rattle.std.proofs.Common.{◌≡◌, ℕ, ◌-◌, ◌≤◌, List, [], ◌∷◌, length, take, Some, sym, refl, ap, ◌∙◌, subst, arith, length-take}
use borrow.Rule.Slice.PartMut.{mid_of}
use Rattle.meaning.specs.Calls as meaning
use Rattle.journal.specs.Acts as chip
use Rattle.journal.specs.Acts.{write}
use Rattle.protocol.specs.Forms.{answer_of}
use Rattle.store.specs.Whole.{house}
use Rattle.every_call.specs.Stage.{stage, stage_calls}
use Rattle.journal_rows.specs.Bytes.{call_page}
use Rattle.journal_steps.specs.Steps.{ActFits, acts_of}
use Rattle.journal_steps.specs.declared.Act.{Act}
use Rattle.wire_answers.specs.Answers.{AnswerWritten}
use Rattle.session.specs.Acts.{answer_kept, call_kept, rests}
use Rattle.session.proofs.Steps.{act_in, listed_few, stepped}
use Rattle.session.proofs.Session.step.Goals as goal

abbrev written : ℕ → List ℕ → List (chip.Act meaning.Answer)
written k bs = write k bs ∷ []

-- the part of a list from its beginning on
front : (n : ℕ) (xs : List ℕ) → mid_of 0 (n - 0) xs ≡ take n xs
front n xs = ap (λ (k : ℕ). take k xs) (omega arith)

length_mid : (n : ℕ) (xs : List ℕ) → length (mid_of 0 (n - 0) xs) ≤ n
length_mid n xs = omega (arith, ap length (front n xs), length-take n xs)

pub unreachable-requires : goal.unreachable-requires
unreachable-requires c = omega (arith, c.in_default.ensures.0, listed_few c.args.self.now.answer (mid_of 0 (c.args.self.now.listed - 0) c.args.self.now.sold), length_mid c.args.self.now.listed c.args.self.now.sold, c.requires.listed)

pub fill_checkpoint-requires : goal.fill_checkpoint-requires
fill_checkpoint-requires c =
    let f = subst (ActFits c.new-layout.result.limits c.pages_now.result c.args.self.now.work) c.in-WriteCheckpoint.is c.next-next.ensures.act in
    record { sound = c.requires.sound; there = omega (arith, f.1, c.pages_now.ensures.pages) }

pub returns-in-Rest : goal.returns-in-Rest
returns-in-Rest c =
    let s = c.args.self.now in
    let m = c.args.m.now in
    let on = act_in s m c.requires _ _ c.next-next.result.act c.next-next.result.work (c.new-layout.ensures ∙ c.limits.ensures) c.pages_now.ensures.pages c.next-next.ensures.gives c.next-next.ensures.work c.next-next.ensures.act in
    stepped s m c.requires _ _ c.next-next.result.act c.next-next.result.work (c.new-layout.ensures ∙ c.limits.ensures) c.pages_now.ensures.pages c.next-next.ensures.gives c.next-next.ensures.work c.next-next.ensures.act _ _ _ _ _
    (ap (λ (x : Act). acts_of (stage m) s.journal (house m) (call_kept s) (answer_kept s) x) c.in-Rest.is) (refl, refl) tt (ap rests (subst (ActFits m.limits _ s.work) c.in-Rest.is on))

pub returns-in-Some : goal.returns-in-Some
returns-in-Some c =
    let s = c.args.self.now in
    let m = c.args.m.now in
    let w = subst (λ (list : List ℕ). AnswerWritten (answer_of s.answer list) c.args.out.now c.encode_answer.new.out (Some c.in-Some.length)) (front s.listed s.sold) c.in-Some.ensures in
    stepped s m c.requires _ _ c.next-next.result.act c.next-next.result.work (c.new-layout.ensures ∙ c.limits.ensures) c.pages_now.ensures.pages c.next-next.ensures.gives c.next-next.ensures.work c.next-next.ensures.act _ _ _ _ _
    (ap (λ (x : Act). acts_of (stage m) s.journal (house m) (call_kept s) (answer_kept s) x) c.in-Say.is) (refl, w.1, w.2) tt tt

pub returns-in-Erase : goal.returns-in-Erase
returns-in-Erase c =
    let s = c.args.self.now in
    let m = c.args.m.now in
    let on = act_in s m c.requires _ _ c.next-next.result.act c.next-next.result.work (c.new-layout.ensures ∙ c.limits.ensures) c.pages_now.ensures.pages c.next-next.ensures.gives c.next-next.ensures.work c.next-next.ensures.act in
    stepped s m c.requires _ _ c.next-next.result.act c.next-next.result.work (c.new-layout.ensures ∙ c.limits.ensures) c.pages_now.ensures.pages c.next-next.ensures.gives c.next-next.ensures.work c.next-next.ensures.act _ _ _ _ _
    (ap (λ (x : Act). acts_of (stage m) s.journal (house m) (call_kept s) (answer_kept s) x) c.in-Erase.is) (refl, refl) (subst (ActFits m.limits _ s.work) c.in-Erase.is on) tt

pub returns-in-WriteCall : goal.returns-in-WriteCall
returns-in-WriteCall c =
    let s = c.args.self.now in
    let m = c.args.m.now in
    let on = act_in s m c.requires _ _ c.next-next.result.act c.next-next.result.work (c.new-layout.ensures ∙ c.limits.ensures) c.pages_now.ensures.pages c.next-next.ensures.gives c.next-next.ensures.work c.next-next.ensures.act in
    let bytes = ap call_page (c.requires.whole ∙ sym (front s.length s.call)) ∙ sym c.fill_call.ensures in
    stepped s m c.requires _ _ c.next-next.result.act c.next-next.result.work (c.new-layout.ensures ∙ c.limits.ensures) c.pages_now.ensures.pages c.next-next.ensures.gives c.next-next.ensures.work c.next-next.ensures.act _ _ _ _ _
    (ap (λ (x : Act). acts_of (stage m) s.journal (house m) (call_kept s) (answer_kept s) x) c.in-WriteCall.is ∙ ap (written c.in-WriteCall.place) bytes) refl (subst (ActFits m.limits _ s.work) c.in-WriteCall.is on) tt

pub returns-in-WriteCheckpoint : goal.returns-in-WriteCheckpoint
returns-in-WriteCheckpoint c =
    let s = c.args.self.now in
    let m = c.args.m.now in
    let on = act_in s m c.requires _ _ c.next-next.result.act c.next-next.result.work (c.new-layout.ensures ∙ c.limits.ensures) c.pages_now.ensures.pages c.next-next.ensures.gives c.next-next.ensures.work c.next-next.ensures.act in
    stepped s m c.requires _ _ c.next-next.result.act c.next-next.result.work (c.new-layout.ensures ∙ c.limits.ensures) c.pages_now.ensures.pages c.next-next.ensures.gives c.next-next.ensures.work c.next-next.ensures.act _ _ _ _ _
    (ap (λ (x : Act). acts_of (stage m) s.journal (house m) (call_kept s) (answer_kept s) x) c.in-WriteCheckpoint.is ∙ ap (written c.in-WriteCheckpoint.place) (sym c.fill_checkpoint.ensures)) refl (subst (ActFits m.limits _ s.work) c.in-WriteCheckpoint.is on).0 tt

pub returns-in-WriteCommit : goal.returns-in-WriteCommit
returns-in-WriteCommit c =
    let s = c.args.self.now in
    let m = c.args.m.now in
    let on = act_in s m c.requires _ _ c.next-next.result.act c.next-next.result.work (c.new-layout.ensures ∙ c.limits.ensures) c.pages_now.ensures.pages c.next-next.ensures.gives c.next-next.ensures.work c.next-next.ensures.act in
    stepped s m c.requires _ _ c.next-next.result.act c.next-next.result.work (c.new-layout.ensures ∙ c.limits.ensures) c.pages_now.ensures.pages c.next-next.ensures.gives c.next-next.ensures.work c.next-next.ensures.act _ _ _ _ _
    (ap (λ (x : Act). acts_of (stage m) s.journal (house m) (call_kept s) (answer_kept s) x) c.in-WriteCommit.is ∙ ap (written c.in-WriteCommit.place) (sym (c.fill_commit.ensures stage_calls))) refl (subst (ActFits m.limits _ s.work) c.in-WriteCommit.is on) tt
