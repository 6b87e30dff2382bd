use Rattle.cmd_extract_contents.proofs.Written.{written_is_read, nothing_of_unclosed}
use Rattle.cmd_extract_contents.proofs.extract_laws.contents_are_written.Goals as goal

pub returns-clause-read : goal.returns-clause-read
returns-clause-read c = written_is_read c.contents_are_what_is_read.ensures

pub returns-clause-unclosed : goal.returns-clause-unclosed
returns-clause-unclosed c = nothing_of_unclosed
