use Rattle.d64_effects.proofs.ComeBack.{comes-back}
use Rattle.d64_effects.proofs.laws.deleted_file_comes_back.Goals as goal

pub returns : goal.returns
returns c = comes-back
