use Rattle.std.proofs.Common.{ℕ, ◌+◌, ◌≤◌, List, ◌∷◌, [], take, subst, arith}
use Rattle.std.proofs.lemmas.List.{take_all}
use Rattle.d64_survey.specs.Owners.{owned_as}
use Rattle.d64_survey.specs.OwnerTables.{owner_kept, owner_row_of, Adds}
use Rattle.d64_survey.specs.declared.owner.Owner.{Owner}
use Rattle.d64_survey.proofs.OwnerLists.{then_added}
use Rattle.d64_survey.proofs.OwnerRows.{owned_more}
use Rattle.d64_survey.proofs.owner_table.OwnerTable.claim_all.Goals as goal

pub loop-block-preserved : goal.loop-block-preserved
loop-block-preserved c =
    let owner = owner_kept c.args.claimant in
    let k = c.loop-block.block-index in
    record {
      listed = subst (λ (owned : List (ℕ × Owner)). Adds c.args.self.now owned c.claim.new.self)
          (owned_more owner c.args.blocks.now k _ _ c.loop-block-test.true c.block-item.is)
          (then_added c.args.self.now c.loop-block.self c.claim.new.self (owned_as owner (take k c.args.blocks.now)) (_ ∷ []) c.loop-block.invariant.listed c.claim.ensures.listed);
      few = λ (b : ℕ).
          let before = c.loop-block.invariant.few b in
          let more = c.claim.ensures.few b in
          let goes : (owner_row_of c.claim.new.self b).count ≤ (owner_row_of c.args.self.now b).count + (k + 1) = omega arith in goes;
    }

pub returns-clause-listed : goal.returns-clause-listed
returns-clause-listed c =
    subst (λ (bs : List ℕ). Adds c.args.self.now (owned_as (owner_kept c.args.claimant) bs) c.loop-block.self)
    (take_all c.loop-block.block-index c.args.blocks.now c.loop-block-test.false) c.loop-block.invariant.listed
