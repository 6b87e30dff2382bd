use Rattle.std.proofs.Common.{◌≡◌, ℕ, ◌+◌, List, ◌∷◌, ◌++◌, [], sym, ap, ◌∙◌, subst, arith}
use Rattle.std.specs.Ordering.{nat_cmp}
use Rattle.std.specs.FinSet as set
use Rattle.d64_image.specs.declared.block.TheConstants.{BLOCKS}
use Rattle.d64_files.proofs.Chains.{linked_within}
use Rattle.d64_files.proofs.Walks.{Walked, started, stepped, has_room, added_within, whole_chain, no_chain_back, no_chain_off, path_bounded}
use Rattle.d64_files.proofs.chain.follow.Goals as goal

pub loop-init : goal.loop-init
loop-init c =
    let seen : c.add.new.self ≡ set.insert set.empty c.args.start =
    c.add.ensures.value ∙ ap (λ (s : set.FinSet nat_cmp). set.insert s c.args.start) c.empty-seen.ensures.value in
    let first : c.push.new.self ≡ c.args.start ∷ [] = c.push.ensures ∙ ap (λ (path : List ℕ). path ++ c.args.start ∷ []) c.clear.ensures in
    record {
      walked = subst (λ (path : List ℕ). Walked c.args.image.now c.args.start c.args.start 0 BLOCKS path c.add.new.self) (sym first)
          (started c.args.image.now c.args.start BLOCKS c.add.new.self seen c.add.ensures.blocks);
      inside = c.requires;
    }

-- the path is the chain
pub returns-in-End-clause-found : goal.returns-in-End-clause-found
returns-in-End-clause-found c _ = whole_chain _ _ _ _ _ _ _ c.loop.invariant.walked c.loop.invariant.inside (sym c.in-End.ensures)

-- a link leads off the disk
pub returns-in-Broken-clause-missing : goal.returns-in-Broken-clause-missing
returns-in-Broken-clause-missing c _ = no_chain_off _ _ _ _ _ _ _ c.loop.invariant.walked (sym c.in-Broken.ensures)

-- a link leads back
pub returns-then-has-clause-missing : goal.returns-then-has-clause-missing
returns-then-has-clause-missing c _ = no_chain_back _ _ _ _ _ _ _ _ c.loop.invariant.walked (sym c.in-To.ensures) (sym c.has.ensures.value ∙ c.if-has.true)

pub push-requires-in-To : goal.push-requires-in-To
push-requires-in-To c =
    has_room _ _ _ c.in-To.next _ _ _ _ c.loop.invariant.walked (sym c.has.ensures.value ∙ c.if-has.false)
    (added_within c.in-To.next BLOCKS c.loop.seen c.add-in-To.new.self c.add-in-To.ensures.value c.add-in-To.ensures.blocks)

pub loop-preserved : goal.loop-preserved
loop-preserved c =
    let link = sym c.in-To.ensures in
    record {
      walked = subst (λ (path : List ℕ). Walked c.args.image.now c.args.start c.in-To.next (c.loop.counter + 1) BLOCKS path c.add-in-To.new.self) (sym c.push-in-To.ensures)
          (stepped _ _ _ _ _ _ _ _ _ c.loop.invariant.walked c.loop.invariant.inside link (sym c.has.ensures.value ∙ c.if-has.false) c.add-in-To.ensures.value c.add-in-To.ensures.blocks);
      inside = linked_within _ _ _ link;
    }

-- there are no more links to follow than blocks
pub returns-clause-missing : goal.returns-clause-missing
returns-clause-missing c _ = absurd (let bounded = path_bounded _ _ _ _ _ _ _ c.loop.invariant.walked in omega arith)
