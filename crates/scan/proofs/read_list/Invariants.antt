use Rattle.std.proofs.Common.{◌≡◌, ◌-◌, vec_items}
use Rattle.scan.specs.Words.{list_in, onto}
use Rattle.scan.proofs.read_list.Given as goal

abbrev pub invariant-loop : goal.invariant-loop
invariant-loop l = list_in 255 l.line ≡ onto (vec_items l.list) (list_in (255 - l.counter) l.rest)
