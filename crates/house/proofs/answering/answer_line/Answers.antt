-- A line is a call, whose bytes are done, or none, which is refused where it ceases to be one.
use Rattle.calls.specs.Stage.{stage}
use Rattle.calls.proofs.Performed.{idle}
use Rattle.house.proofs.Lines.{not_a_call}
use Rattle.house.proofs.answering.answer_line.Goals as goal

pub returns-in-Err : goal.returns-in-Err
returns-in-Err c = not_a_call c.args.m.now c.args.line.now c.args.sold.now c.in-Err.unread c.refuse_line.result c.requires c.in-Err.ensures c.refuse_line.ensures

pub answer_row-requires : goal.answer_row-requires
answer_row-requires c = record { idle = idle (stage c.args.m.now) c.args.m.now c.requires }
