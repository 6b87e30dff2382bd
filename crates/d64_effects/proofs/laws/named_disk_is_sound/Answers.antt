use Rattle.d64_effects.proofs.NamedDisks.{named-is_image, named-is_sound, named-shows}
use Rattle.d64_effects.proofs.laws.named_disk_is_sound.Goals as goal

pub returns-clause-image : goal.returns-clause-image
returns-clause-image c = named-is_image

pub returns-clause-sound : goal.returns-clause-sound
returns-clause-sound c = named-is_sound

pub returns-clause-view : goal.returns-clause-view
returns-clause-view c = named-shows
