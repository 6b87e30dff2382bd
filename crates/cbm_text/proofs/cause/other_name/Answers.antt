use Rattle.std.proofs.Common.{rules}
use Rattle.cbm_text.proofs.OtherNames.{byte_in-parts}
use Rattle.cbm_text.proofs.cause.other_name.Goals as goal

-- each part has been asked
pub returns : goal.returns
returns c = search (rules, byte_in-parts)
