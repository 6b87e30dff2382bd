use Rattle.std.proofs.Common.{◌∙◌}
use Rattle.host_names.proofs.Records.{found_is_taken}
use Rattle.host_names.proofs.taken_names.is_taken.Goals as goal

pub returns : goal.returns
returns c = c.is_some.ensures ∙ found_is_taken c.args.names.now c.args.name.now c.find.result c.find.ensures.within c.find.ensures.found
