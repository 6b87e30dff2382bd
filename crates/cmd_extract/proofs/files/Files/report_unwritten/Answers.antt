use Rattle.std.proofs.Common.{rules}
use Rattle.cmd_extract.specs.Progress.{reported_progress}
use Rattle.cmd_extract.proofs.files.Files.report_unwritten.Goals as goal

pub returns : goal.returns
unfolding reported_progress
returns c = search rules
