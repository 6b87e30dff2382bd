use Rattle.d64_effects.proofs.ScratchedDisks.{scratched-is_image, scratched-is_sound, scratched-shows, scratched-are_counted}
use Rattle.d64_effects.proofs.laws.scratched_disk_is_sound.Goals as goal

pub returns-clause-image : goal.returns-clause-image
returns-clause-image c = scratched-is_image

pub returns-clause-sound : goal.returns-clause-sound
returns-clause-sound c = scratched-is_sound

pub returns-clause-view : goal.returns-clause-view
returns-clause-view c = scratched-shows

pub returns-clause-count : goal.returns-clause-count
returns-clause-count c = scratched-are_counted
