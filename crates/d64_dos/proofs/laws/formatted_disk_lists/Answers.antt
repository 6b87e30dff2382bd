use Rattle.d64_dos.proofs.FormattedListings.{listed}
use Rattle.d64_dos.proofs.laws.formatted_disk_lists.Goals as goal

pub returns : goal.returns
returns c = listed
