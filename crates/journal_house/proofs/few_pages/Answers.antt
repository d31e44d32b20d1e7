-- A start looks at few pages.
use Rattle.journal_house.proofs.Right.{few_pages}
use Rattle.journal_house.proofs.few_pages.Goals as goal

pub returns : goal.returns
returns c = few_pages
