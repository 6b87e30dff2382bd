use Rattle.d64_effects.proofs.EmptyDisks.{IsImage-formatted_disk, free_blocks-formatted_disk, counts-formatted_disk, blocks_free-formatted_disk}
use Rattle.d64_effects.proofs.FormattedDisks.{holds-formatted_disk, view-formatted_disk}
use Rattle.d64_effects.proofs.laws.formatted_disk_is_sound_and_empty.Goals as goal

pub returns-clause-image : goal.returns-clause-image
returns-clause-image c = λ count name id size. IsImage-formatted_disk count size name id

pub returns-clause-blocks_free : goal.returns-clause-blocks_free
returns-clause-blocks_free c = λ count name id size. blocks_free-formatted_disk count size name id

pub returns-clause-sound : goal.returns-clause-sound
returns-clause-sound c = λ count name id size fault from to. holds-formatted_disk count size name id fault

pub returns-clause-view : goal.returns-clause-view
returns-clause-view c = λ count name id size. view-formatted_disk count size name id

pub returns-clause-free : goal.returns-clause-free
returns-clause-free c = λ count name id size. free_blocks-formatted_disk count size name id

pub returns-clause-counts : goal.returns-clause-counts
returns-clause-counts c = λ count name id size. counts-formatted_disk count size name id
