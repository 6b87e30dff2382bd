use Rattle.d64_inventory.proofs.KeptContents.{none_kept}
use Rattle.d64_inventory.proofs.content_table.ContentTable.empty.Goals as goal

pub returns : goal.returns
returns c = none_kept 768 c.args.image.now
