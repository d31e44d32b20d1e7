-- A checkpoint's page by its number.
use Rattle.journal_house.proofs.Number.{by_number}
use Rattle.journal_house.proofs.page_by_number.Goals as goal

pub returns : goal.returns
returns c = by_number
