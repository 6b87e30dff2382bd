use Rattle.d64_files.proofs.Chains.{begins, distinct, bounded, all_within}
use Rattle.d64_files.proofs.chain_laws.chains_are_bounded.Goals as goal

pub returns-clause-start : goal.returns-clause-start
returns-clause-start c = begins

pub returns-clause-distinct : goal.returns-clause-distinct
returns-clause-distinct c = distinct

pub returns-clause-within : goal.returns-clause-within
returns-clause-within c = all_within

pub returns-clause-len : goal.returns-clause-len
returns-clause-len c = bounded
