use Rattle.d64_leftovers.proofs.FileRows.{files_alone}
use Rattle.d64_leftovers.proofs.row_laws.files_alone_are_the_inventory.Goals as goal

pub returns : goal.returns
returns c = files_alone
