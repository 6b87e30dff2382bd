use Rattle.std.proofs.Common.{ℕ, List, subst}
use Rattle.d64_files.specs.Directory.{AllHold}
use Rattle.d64_files.proofs.Conditions.{both_hold}
use Rattle.d64_files.proofs.directory_blocks.Directory.blocks.Goals as goal

pub returns-clause-conditions : goal.returns-clause-conditions
returns-clause-conditions c =
    subst (λ (image : List (List ℕ)). AllHold image 2 3) c.self.view_is (both_hold c.self.inside.image.now c.self.invariant.1 c.self.invariant.2)
