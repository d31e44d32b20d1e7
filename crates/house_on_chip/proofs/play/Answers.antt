-- A house that can be opened has memory, and its chip is as large as its file.
use Rattle.std.proofs.Common.{length, ap, ◌∙◌}
use Rattle.house_on_chip.proofs.Sizes.{opens, chip_suffices}
use Rattle.house_on_chip.proofs.play.Goals as goal

pub whole_chip-requires : goal.whole_chip-requires
whole_chip-requires c = (opens c.args.limits _ c.requires).1

pub play_house-requires : goal.play_house-requires
play_house-requires c =
    let can = opens c.args.limits _ c.requires in
    record {
      memory = can.0;
      times = can.2;
      size = chip_suffices c.args.limits _ (ap length (c.new-chip.ensures.bytes ∙ c.as_mut_slice.ensures.value) ∙ c.in-Ok.ensures.0);
    }
