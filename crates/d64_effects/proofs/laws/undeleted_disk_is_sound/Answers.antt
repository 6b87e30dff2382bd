use Rattle.d64_effects.proofs.UndeletedDisks.{undeleted-is_image, undeleted-is_sound, undeleted-shows}
use Rattle.d64_effects.proofs.laws.undeleted_disk_is_sound.Goals as goal

pub returns-clause-image : goal.returns-clause-image
returns-clause-image c = undeleted-is_image

pub returns-clause-sound : goal.returns-clause-sound
returns-clause-sound c = undeleted-is_sound

pub returns-clause-view : goal.returns-clause-view
returns-clause-view c = undeleted-shows
