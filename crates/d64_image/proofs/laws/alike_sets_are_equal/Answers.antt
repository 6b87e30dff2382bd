use Rattle.std.specs.Cmp.{nat_cmp_total}
use Rattle.std.specs.FinSet.{same_set, nat_cmp-IsAntisymmetric}
use Rattle.d64_image.specs.Marks.{Decides-same_members}
use Rattle.d64_image.proofs.laws.alike_sets_are_equal.Goals as goal

pub returns-clause-members : goal.returns-clause-members
returns-clause-members c = same_set nat_cmp_total nat_cmp-IsAntisymmetric

pub returns-clause-test : goal.returns-clause-test
returns-clause-test c = Decides-same_members
