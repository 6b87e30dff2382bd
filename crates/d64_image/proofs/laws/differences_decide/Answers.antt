use Rattle.d64_image.proofs.Differences.{differences-from, differences-to, equal_images}
use Rattle.d64_image.proofs.laws.differences_decide.Goals as goal

pub returns-clause-members : goal.returns-clause-members
returns-clause-members c = λ image other block. (differences-from image other block, λ h. differences-to image other block h.0 h.1)

pub returns-clause-none : goal.returns-clause-none
returns-clause-none c = equal_images
