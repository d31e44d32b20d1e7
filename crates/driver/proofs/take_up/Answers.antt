-- Page after page, as the definition of a start takes them.
use Rattle.std.proofs.Common.{◌≤◌, sym, ◌∙◌, subst}
use Rattle.meaning.specs.Promise.{room_for, whole}
use Rattle.limits.specs.declared.Limits.{Limits}
use Rattle.store.specs.Whole.{house}
use Rattle.store.proofs.Lents.{lent_none, lent_both}
use Rattle.journal_start.specs.Stages.{StageFits}
use Rattle.journal_start.specs.declared.Stage.{Stage}
use Rattle.journal_start.proofs.Follows.{Follows}
use Rattle.journal_steps.specs.Steps.{chip_limits}
use Rattle.driver.proofs.Taking.{Wanted, on_chip, no_refusal, page_on, page_less, none_left, started}
use Rattle.driver.proofs.take_up.Goals as goal

pub loop-number-init : goal.loop-number-init
loop-number-init g c = (c.requires.sound, record { ranges = tt; holds = c.requires.fresh }, lent_none c.args.m.now, tt)

pub read-state-requires : goal.read-state-requires
read-state-requires g c =
    let m = c.loop-number.m in
    let i = c.loop-number.invariant in
    let w = subst (λ (l : Limits). Wanted l c.loop-number.start c.in-Some.number) (c.new-layout.ensures ∙ c.limits.ensures ∙ sym i.2.limits) c.in-Some.ensures in
    on_chip (g.D.Device.chip c.args.device.now) m c.loop-number.start c.in-Some.number i.0 i.1 i.3 w _ (subst (λ (l : Limits). room_for (chip_limits l) ≤ g.D.Device.blocks c.args.device.now) (sym i.2.limits) c.requires.size)

pub returns-in_default-take_page : goal.returns-in_default-take_page
returns-in_default-take_page g c =
    let m = c.loop-number.m in
    let i = c.loop-number.invariant in
    let w = subst (λ (l : Limits). Wanted l c.loop-number.start c.in-Some.number) (c.new-layout.ensures ∙ c.limits.ensures ∙ sym i.2.limits) c.in-Some.ensures in
    record {
      taken = no_refusal (g.D.Device.chip c.args.device.now) m c.loop-number.start c.in-Some.number i.0 i.1 i.3 w _ c.read-state.ensures c.take_page.new.m c.take_page.ensures.lent c.in_default-take_page.ensures.taken;
      lent = lent_both c.args.m.now m c.take_page.new.m i.2 c.take_page.ensures.lent;
    }

pub loop-number-smaller : goal.loop-number-smaller
loop-number-smaller g c =
    let m = c.loop-number.m in
    let i = c.loop-number.invariant in
    let w = subst (λ (l : Limits). Wanted l c.loop-number.start c.in-Some.number) (c.new-layout.ensures ∙ c.limits.ensures ∙ sym i.2.limits) c.in-Some.ensures in
    page_less (g.D.Device.chip c.args.device.now) m c.loop-number.start c.in-Some.number i.0 i.1 i.3 w _ c.read-state.ensures c.take_page.new.m c.take_page.ensures.lent c.take_page.new.stage c.in-Ok.ensures.taken

pub loop-number-preserved : goal.loop-number-preserved
loop-number-preserved g c =
    let m = c.loop-number.m in
    let i = c.loop-number.invariant in
    let at = c.in-Ok.ensures.taken in
    let w = subst (λ (l : Limits). Wanted l c.loop-number.start c.in-Some.number) (c.new-layout.ensures ∙ c.limits.ensures ∙ sym i.2.limits) c.in-Some.ensures in (
      c.take_page.ensures.sound,
      at.fits,
      lent_both c.args.m.now m c.take_page.new.m i.2 c.take_page.ensures.lent,
      page_on (g.D.Device.chip c.args.device.now) m c.loop-number.start c.in-Some.number i.0 i.1 i.3 w _ c.read-state.ensures c.take_page.new.m c.take_page.ensures.lent c.take_page.new.stage at,
    )

pub unreachable-requires : goal.unreachable-requires
unreachable-requires g c = none_left c.new-layout.result.limits c.loop-number.start (house c.loop-number.m) (c.in_default.ensures whole (house c.loop-number.m)) (λ f e. c.in_default-start.not-Ready f e)

pub returns : goal.returns
returns g c =
    let m = c.loop-number.m in
    let i = c.loop-number.invariant in
    record {
      taken = started (g.D.Device.chip c.args.device.now) m c.in-Ready.journal c.new.result i.0 (subst (StageFits m) c.in-Ready.is i.1) (subst (λ (s : Stage). Follows (g.D.Device.chip c.args.device.now) m s) c.in-Ready.is i.3) c.new.ensures;
      lent = i.2;
    }
