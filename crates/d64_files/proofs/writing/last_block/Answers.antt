use Rattle.d64_files.proofs.WrittenBytes.{last_from_parts}
use Rattle.d64_files.proofs.writing.last_block.Goals as goal

pub returns : goal.returns
returns c = last_from_parts c.write_at.new.block c.args.bytes.now _ c.write_at.ensures
