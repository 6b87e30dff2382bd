use Rattle.d64_inventory.proofs.ReadContents.{content_is_read}
use Rattle.d64_inventory.proofs.content_laws.contents_are_what_is_read.Goals as goal

pub returns : goal.returns
returns c = content_is_read
