use Rattle.d64_g64.proofs.GoodDumps.{is_dump}
use Rattle.d64_g64.proofs.laws.any_bytes_make_a_dump.Goals as goal

pub returns : goal.returns
returns c = λ file. is_dump file
