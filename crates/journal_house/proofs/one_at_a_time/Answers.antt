-- One act and one page at a time.
use Rattle.journal_house.proofs.Right.{by_plan, by_page}
use Rattle.journal_house.proofs.one_at_a_time.Goals as goal

pub returns : goal.returns
returns c = (by_plan, by_page)
