use Rattle.std.proofs.Common.{rules}
use Rattle.d64_files.specs.Writing.{empty_directory}
use Rattle.d64_files.proofs.writing.empty_directory.Goals as goal

pub returns : goal.returns
unfolding empty_directory
returns c = search rules
