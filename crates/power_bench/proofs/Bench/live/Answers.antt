-- Memory that fits is opened as a new house, and the chip has the blocks that its limits ask for; the run on it is the life.
use Rattle.std.proofs.Common.{◌≡◌, ℕ, ◌/◌, ◌≤◌, List, [], ◌++◌, map, length, Result, sym, ap, ◌∙◌, subst}
use Rattle.meaning.specs.Calls.{Call, Answer, new_house}
use Rattle.meaning.specs.Chip.{Chip}
use Rattle.meaning.specs.Promise.{room_for, thin}
use Rattle.journal_steps.specs.Steps.{chip_limits}
use Rattle.limits.specs.Opening.{limits_mean}
use Rattle.limits.specs.declared.Limits.{Limits}
use Rattle.flash.specs.Pages.{chip_in}
use Rattle.every_call.specs.Stage.{stage_calls}
use Rattle.chips.specs.Recorded.{chip_of, said_means}
use Rattle.player.specs.Texts.{RunEnded}
use Rattle.player.specs.declared.Unfinished.{Unfinished}
use Rattle.power_bench.proofs.Bench.live.Goals as goal

-- a run, by other words for its limits, its chip and its answers
same_run : (k l : Limits) (cs : List Call) (d p e : Chip) (ts us vs : List Answer) (x : Result (Unit {0}) Unfinished) → k ≡ l → d ≡ p → ts ≡ [] → us ≡ vs →
    RunEnded (limits_mean stage_calls k) cs d ts e us x → RunEnded (limits_mean stage_calls l) cs p [] e vs x
same_run k l cs d p e ts us vs x f g h i r =
    subst (λ (q : List Answer). RunEnded (limits_mean stage_calls l) cs p [] e q x) i
    (subst (λ (q : List Answer). RunEnded (limits_mean stage_calls l) cs p q e us x) h
    (subst (λ (q : Chip). RunEnded (limits_mean stage_calls l) cs q ts e us x) g
    (subst (λ (q : Limits). RunEnded (limits_mean stage_calls q) cs d ts e us x) f r)))

pub run-ending-requires : goal.run-ending-requires
run-ending-requires c =
    let asked : room_for (chip_limits c.open-m.result.limits) ≡ c.block_count.result =
    ap (λ (l : Limits). room_for (chip_limits l)) c.open-m.ensures.limits ∙ sym c.block_count.ensures.count in
    let enough = c.if-pages-block_count.false in
    record {
      sound = c.open-m.result.sound;
      fresh = c.open-m.ensures.house thin ∙ ap (λ (l : Limits). new_house (limits_mean thin l)) (sym c.open-m.ensures.limits);
      size = subst (λ (bs : List ℕ). room_for (chip_limits c.open-m.result.limits) ≤ length bs / 8208) (sym c.new-device.ensures.bytes) (subst (λ (n : ℕ). n ≤ length c.as_mut_slice-pages.result.now / 8208) (sym asked) enough);
    }

pub returns : goal.returns
returns c =
    let said = c.in_ok-extend_from_slice.ensures.items ∙ ap (λ xs. xs ++ c.said.result.now) c.new-said.ensures.items ∙ c.said.ensures in (
      chip_of c.run-ending.new.device,
      same_run _ _ _ _ _ _ _ _ _ _ c.open-m.ensures.limits (c.new-device.ensures.chip ∙ ap chip_in c.as_mut_slice-pages.ensures.value) c.new-device.ensures.told (ap (map said_means) (sym said)) c.run-ending.ensures.promise,
    )
