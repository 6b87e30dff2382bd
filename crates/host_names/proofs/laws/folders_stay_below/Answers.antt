use Rattle.host_names.proofs.Folders.{folders_stay, image_stays, partial_stays}
use Rattle.host_names.proofs.laws.folders_stay_below.Goals as goal

pub returns-clause-folders : goal.returns-clause-folders
returns-clause-folders c = folders_stay

pub returns-clause-image : goal.returns-clause-image
returns-clause-image c = λ path. (image_stays path, partial_stays path)
