use Rattle.d64_survey.proofs.Traced.{bounded}
use Rattle.d64_survey.proofs.way_laws.ways_are_chains_where_they_end.Goals as goal

pub returns-clause-exists : goal.returns-clause-exists
returns-clause-exists c = λ image pair. let b = bounded image pair in (λ e. (b.chain e).1, λ some. b.end some)

pub returns-clause-chain : goal.returns-clause-chain
returns-clause-chain c = λ image pair e. let b = bounded image pair in (b.chain e).0
