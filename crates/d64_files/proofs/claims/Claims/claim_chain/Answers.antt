use Rattle.std.proofs.Common.{◌≡◌, ℕ, List, [], ◌∷◌, ◌++◌, refl, sym, ap, ◌∙◌, arith}
use Rattle.d64_files.specs.Claims.{claims_of}
use Rattle.d64_files.specs.Ownership.{chain_at}
use Rattle.d64_image.proofs.Sizes.{size_most}
use Rattle.d64_files.proofs.Chains.{linked_within}
use Rattle.d64_files.proofs.Following.{at_start, one_more, claimed_there, chain_at-followed, chain_at-broken, chain_at-endless, chain_at-some}
use Rattle.d64_files.proofs.claims.Claims.claim_chain.Goals as goal

-- the chain is the path and the last block
whole : (c : goal.In-End) → chain_at c.args.image.now c.args.root ≡ c.loop.invariant.followed.path ++ c.loop.last ∷ []
whole c = chain_at-followed _ _ _ _ _ _ _ c.in-Some.ensures.block c.loop.invariant.followed c.loop.invariant.inside (sym c.in-End.ensures)

pub returns-in-End-clause-chain : goal.returns-in-End-clause-chain
returns-in-End-clause-chain c = chain_at-some _ _ _ _ (whole c)

pub returns-in-End-clause-claimed : goal.returns-in-End-clause-claimed
returns-in-End-clause-claimed c before is =
    claimed_there _ _ _ _ _ _ _ c.loop.invariant.followed c.claim.ensures before is ∙ ap (λ (blocks : List ℕ). claims_of (before ++ blocks)) (sym (whole c))

pub returns-in-Broken-clause-chain : goal.returns-in-Broken-clause-chain
returns-in-Broken-clause-chain c = (refl, chain_at-broken _ _ _ _ _ _ _ c.in-Some.ensures.block c.loop.invariant.followed (sym c.in-Broken.ensures))

pub loop-preserved : goal.loop-preserved
loop-preserved c =
    let link = sym c.in-To.ensures in
    record { followed = one_more _ _ _ _ _ _ _ _ c.loop.invariant.followed c.loop.invariant.inside link c.claim.ensures; inside = linked_within _ _ _ link }

-- the walk begins at a block that the image has
pub loop-init : goal.loop-init
loop-init c = record {
  followed = at_start _ _ _;
  inside = c.in-Some.ensures.held;
}

pub returns-clause-chain : goal.returns-clause-chain
returns-clause-chain c =
    let most = size_most _ c.known_image.ensures.size in
    (refl, chain_at-endless _ _ _ _ _ _ _ c.in-Some.ensures.block c.loop.invariant.followed (omega arith))
