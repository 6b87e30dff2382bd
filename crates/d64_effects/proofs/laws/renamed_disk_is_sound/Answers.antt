use Rattle.d64_effects.proofs.RenamedDisks.{renamed-is_image, renamed-is_sound, renamed-shows}
use Rattle.d64_effects.proofs.laws.renamed_disk_is_sound.Goals as goal

pub returns-clause-image : goal.returns-clause-image
returns-clause-image c = renamed-is_image

pub returns-clause-sound : goal.returns-clause-sound
returns-clause-sound c = renamed-is_sound

pub returns-clause-view : goal.returns-clause-view
returns-clause-view c = renamed-shows
