use Rattle.std.proofs.Common.{◌≡◌, ◌≢◌, true, ◌↔◌, ℕ, List, [], Option, sym, ap, ◌∙◌, subst}
use Rattle.std.specs.Option.{option_map_or}
use Rattle.d64_files.specs.Chain.{chain, chain_from}
use Rattle.d64_files.proofs.Chains.{chain-is, exists}
use Rattle.d64_files.proofs.chain.fill_from.Goals as goal
use Rattle.d64_files.proofs.chain.fill_from.Goals.{After-follow}

-- the chain is that from the block of the pair
from : (c : After-follow) → chain c.args.image.now c.in-Some.start ≡ chain_from c.args.image.now c.args.track c.args.sector
from c = ap (λ (start : Option ℕ). option_map_or (chain c.args.image.now) start []) (sym c.in-Some.is ∙ c.block_in.ensures.block)

pub returns-in-Some-clause-value : goal.returns-in-Some-clause-value
returns-in-Some-clause-value c found = sym (chain-is c.args.image.now c.in-Some.start c.follow.new.blocks (c.follow.ensures.found found)) ∙ from c

pub returns-in-Some-clause-exists : goal.returns-in-Some-clause-exists
returns-in-Some-clause-exists c =
    subst (λ (blocks : List ℕ). (c.follow.result ≡ true) ↔ (blocks ≢ [])) (from c)
    (exists c.args.image.now c.in-Some.start c.follow.result c.follow.new.blocks c.follow.ensures.found c.follow.ensures.missing)
