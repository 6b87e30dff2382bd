use Rattle.cmd_extract_contents.proofs.Written.{parts_change_nothing}
use Rattle.cmd_extract_contents.proofs.extract_laws.parts_change_no_content.Goals as goal

pub returns : goal.returns
returns c = parts_change_nothing
