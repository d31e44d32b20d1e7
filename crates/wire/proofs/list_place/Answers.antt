-- Where a list begins, of a verb that has one and of one that has none.
use Rattle.std.proofs.Common.{arith}
use Rattle.protocol.specs.Verbs.{verb_number}
use Rattle.wire.proofs.Decoding.{list_at_listed, list_at_plain}
use Rattle.wire.proofs.list_place.Goals as goal

pub returns-then-takes_list-clause-place : goal.returns-then-takes_list-clause-place
returns-then-takes_list-clause-place c = omega (arith, list_at_listed (verb_number c.args.verb) _ c.field_count.ensures.counted c.if-takes_list.ensures)

pub returns-else-takes_list-clause-place : goal.returns-else-takes_list-clause-place
returns-else-takes_list-clause-place c = omega (arith, list_at_plain (verb_number c.args.verb) _ c.field_count.ensures.counted c.if-takes_list.ensures)
