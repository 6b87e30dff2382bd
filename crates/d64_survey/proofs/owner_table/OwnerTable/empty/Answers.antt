use Rattle.std.proofs.Common.{[]}
use Rattle.std.specs.Prelude.{replicate}
use Rattle.d64_image.specs.declared.block.TheConstants.{BLOCKS}
use Rattle.d64_survey.specs.declared.owner_table.Claimant.TheVariants.{Map}
use Rattle.d64_survey.proofs.OwnerRows.{none_listed, none_counted}
use Rattle.d64_survey.proofs.owner_table.OwnerTable.empty.Goals as goal

pub returns-clause-listed : goal.returns-clause-listed
returns-clause-listed c = λ block within. none_listed _ _ _ block within

pub returns-clause-few : goal.returns-clause-few
returns-clause-few c = λ block. none_counted BLOCKS (replicate 8 Map) [] block
