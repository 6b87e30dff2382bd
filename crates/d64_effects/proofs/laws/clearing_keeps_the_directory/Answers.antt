use Rattle.d64_effects.proofs.Clearing.{clearing-keeps_the_image, clearing-keeps_the_directory, clearing-keeps_the_number_of_slots, one_more_slot-counts, slots_where-are_slots}
use Rattle.d64_effects.proofs.laws.clearing_keeps_the_directory.Goals as goal

pub returns-clause-image : goal.returns-clause-image
returns-clause-image c = clearing-keeps_the_image

pub returns-clause-directory : goal.returns-clause-directory
returns-clause-directory c = clearing-keeps_the_directory

pub returns-clause-slots : goal.returns-clause-slots
returns-clause-slots c = clearing-keeps_the_number_of_slots

pub returns-clause-one_more : goal.returns-clause-one_more
returns-clause-one_more c = one_more_slot-counts

pub returns-clause-below : goal.returns-clause-below
returns-clause-below c = slots_where-are_slots
