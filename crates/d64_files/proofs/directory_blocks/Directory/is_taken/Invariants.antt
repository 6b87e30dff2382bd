use Rattle.std.proofs.Common.{◌≡◌, drop}
use Rattle.d64_files.specs.Directory.{slots, slots_in, is_name_taken}
use Rattle.d64_files.proofs.directory_blocks.Directory.is_taken.Given as goal

abbrev pub invariant-loop-block : goal.invariant-loop-block
invariant-loop-block l = is_name_taken l.name (slots_in l.self (drop l.block-index l.block-items)) ≡ is_name_taken l.name (slots l.self)
