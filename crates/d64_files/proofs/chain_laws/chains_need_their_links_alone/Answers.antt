use Rattle.std.proofs.Common.{refl}
use Rattle.d64_files.specs.Chain.{chain}
use Rattle.d64_files.proofs.Chains.{kept_by_blocks, chain-is, is_chain}
use Rattle.d64_files.proofs.chain_laws.chains_need_their_links_alone.Goals as goal

pub returns-clause-chain : goal.returns-clause-chain
returns-clause-chain c = kept_by_blocks

pub returns-clause-function : goal.returns-clause-function
returns-clause-function c = λ image other start some long alike.
    chain-is other start (chain image start) (kept_by_blocks image other start (chain image start) (is_chain image start (chain image start) refl some) long alike)
