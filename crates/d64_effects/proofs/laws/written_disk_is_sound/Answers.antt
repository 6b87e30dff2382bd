use Rattle.d64_effects.proofs.WrittenDisks.{written-is_image, written-is_sound, written-shows}
use Rattle.d64_effects.proofs.laws.written_disk_is_sound.Goals as goal

pub returns-clause-image : goal.returns-clause-image
returns-clause-image c = written-is_image

pub returns-clause-sound : goal.returns-clause-sound
returns-clause-sound c = written-is_sound

pub returns-clause-view : goal.returns-clause-view
returns-clause-view c = written-shows
