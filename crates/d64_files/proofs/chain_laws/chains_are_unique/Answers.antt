use Rattle.d64_files.proofs.Chains.{unique, chain-is, not_empty, is_chain}
use Rattle.d64_files.proofs.chain_laws.chains_are_unique.Goals as goal

pub returns-clause-unique : goal.returns-clause-unique
returns-clause-unique c = unique

pub returns-clause-function : goal.returns-clause-function
returns-clause-function c = λ image start blocks.
    (λ h. (chain-is image start blocks h, not_empty image start blocks h), λ e. is_chain image start blocks e.0 e.1)
