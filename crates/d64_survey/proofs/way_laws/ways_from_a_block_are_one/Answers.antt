use Rattle.d64_survey.proofs.Traced.{same_way}
use Rattle.d64_survey.proofs.way_laws.ways_from_a_block_are_one.Goals as goal

pub returns : goal.returns
returns c = λ image pair other block found also_found. same_way image pair other block found also_found
