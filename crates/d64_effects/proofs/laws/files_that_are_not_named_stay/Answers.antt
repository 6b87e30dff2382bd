use Rattle.d64_effects.proofs.KeptFiles.{writing-keeps, deleting-keeps, renaming-keeps, naming-keeps, validating-keeps, undeleting-keeps}
use Rattle.d64_effects.proofs.laws.files_that_are_not_named_stay.Goals as goal

pub returns-clause-writing : goal.returns-clause-writing
returns-clause-writing c = writing-keeps

pub returns-clause-deleting : goal.returns-clause-deleting
returns-clause-deleting c = deleting-keeps

pub returns-clause-renaming : goal.returns-clause-renaming
returns-clause-renaming c = renaming-keeps

pub returns-clause-validating : goal.returns-clause-validating
returns-clause-validating c = validating-keeps

pub returns-clause-naming : goal.returns-clause-naming
returns-clause-naming c = naming-keeps

pub returns-clause-undeleting : goal.returns-clause-undeleting
returns-clause-undeleting c = undeleting-keeps
