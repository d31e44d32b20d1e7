-- Memory that fits is opened as a new house, which no call has led to yet.
use Rattle.std.proofs.Common.{[], sym, ap, ◌∙◌}
use Rattle.meaning.specs.Calls.{ran, new_house}
use Rattle.meaning.specs.Promise.{thin}
use Rattle.limits.specs.Opening.{limits_mean}
use Rattle.limits.specs.declared.Limits.{Limits}
use Rattle.house.proofs.play_house.Goals as goal

pub play_calls-requires : goal.play_calls-requires
unfolding ran
play_calls-requires c = ([], ap (λ (l : Limits). new_house (limits_mean thin l)) c.open-m.ensures.limits ∙ sym (c.open-m.ensures.house thin))
