use Rattle.host_names.proofs.SafeNames.{name_ends}
use Rattle.host_names.proofs.laws.names_keep_their_ending.Goals as goal

pub returns : goal.returns
returns c = name_ends
