use Rattle.d64_effects.proofs.ValidatedDisks.{validated-is_image, validated-is_sound, validated-shows}
use Rattle.d64_effects.proofs.laws.validated_disk_is_sound.Goals as goal

pub returns-clause-image : goal.returns-clause-image
returns-clause-image c = validated-is_image

pub returns-clause-sound : goal.returns-clause-sound
returns-clause-sound c = validated-is_sound

pub returns-clause-view : goal.returns-clause-view
returns-clause-view c = validated-shows
