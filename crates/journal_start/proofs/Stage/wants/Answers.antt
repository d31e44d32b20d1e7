-- A page of the log stands behind both slots, and the log goes round.
use Rattle.std.proofs.Common.{◌+◌, ◌*◌, Some, ap, arith}
use Rattle.journal.specs.Slots.{ring_page, around}
use Rattle.journal_start.proofs.Stage.wants.Goals as goal

pub returns-in-Replaying : goal.returns-in-Replaying
unfolding ring_page
returns-in-Replaying c can h =
    let s = c.slot_blocks-in-Replaying.ensures.blocks can in
    let r = c.ring_blocks-ring.ensures.blocks can in
    let v = ap (λ n. around (16 * n) (c.in-Replaying.in_use.commit.begins + c.in-Replaying.page)) r in
    let g = c.goes_round-place.ensures.0 in
    rw c.in-Replaying.is (ap Some (omega arith))
