use Rattle.host_storage.proofs.PrintedNames.{names_are_printed}
use Rattle.host_storage.proofs.laws.no_name_makes_a_line.Goals as goal

pub returns : goal.returns
returns c = names_are_printed
