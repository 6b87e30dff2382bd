use Rattle.std.proofs.Common.{arith}
use Rattle.d64_survey.proofs.Traced.{bounded}
use Rattle.d64_survey.proofs.Trails.{lies}
use Rattle.d64_survey.proofs.way_laws.ways_are_bounded.Goals as goal

pub returns-clause-distinct : goal.returns-clause-distinct
returns-clause-distinct c = λ image pair. let b = bounded image pair in b.trail.distinct

pub returns-clause-within : goal.returns-clause-within
returns-clause-within c = λ image pair. let b = bounded image pair in lies _ _ _ b.trail

pub returns-clause-len : goal.returns-clause-len
returns-clause-len c = λ image pair. let b = bounded image pair in let counted = b.trail.counted in omega arith
