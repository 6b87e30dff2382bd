use Rattle.std.proofs.Common.{◌≡◌, ℕ, List, subst, rules}
use Rattle.std.specs.Prelude.{MatchResult}
use Rattle.std.specs.Ordering.{nat_cmp}
use Rattle.std.specs.FinSet as set
use Rattle.d64_files.specs.Directory.{owned_blocks, AllHold, IsFirstFault}
use Rattle.d64_files.proofs.FirstFaults.{owning_first, owning_fault}
use Rattle.d64_files.proofs.Verdicts.{dir_fault_first}
use Rattle.d64_files.proofs.soundness.owned.Goals as goal

pub returns-clause-verdict : goal.returns-clause-verdict
returns-clause-verdict c =
    subst (λ (image : List (List ℕ)). MatchResult c.owned.result
    (λ (blocks : set.FinSet nat_cmp). AllHold image 2 5 × (blocks ≡ set.from_list (owned_blocks image))) (IsFirstFault image 2 5))
    c.in_ok-of.ensures.image c.owned.ensures

pub returns-clause-first : goal.returns-clause-first
returns-clause-first c =
    owning_fault c.args.image.now (λ (blocks : set.FinSet nat_cmp). blocks ≡ set.from_list (owned_blocks c.args.image.now)) c.owned.result (returns-clause-verdict c)

pub returns-in_err-of-clause-verdict : goal.returns-in_err-of-clause-verdict
returns-in_err-of-clause-verdict c =
    let known : IsFirstFault c.args.image.now 2 5 c.in_err-of.field-0.0 = dir_fault_first c.args.image.now c.in_err-of.field-0.0 c.in_err-of.ensures.conditions in
    search rules

pub returns-in_err-of-clause-first : goal.returns-in_err-of-clause-first
returns-in_err-of-clause-first c =
    let fault = c.in_err-of.field-0.0 in
    let known = owning_first c.args.image.now fault (dir_fault_first c.args.image.now fault c.in_err-of.ensures.conditions) in
    search rules
