-- the effects keep the number of blocks
use Rattle.std.proofs.Common.{◌≡◌, ℕ, List, [], ◌∷◌, length, Option, Some, None, refl, ◌∙◌}
use Rattle.std.proofs.lemmas.List.{length-set}
use Rattle.d64_map.proofs.Maps.{length-with_map}
use Rattle.d64_files.specs.Clearing.{with_cleared_slot, with_name}
use Rattle.d64_files.specs.Directory.{slots}
use Rattle.d64_files.specs.Writing.{with_bytes, first_unused, with_growth}
use Rattle.d64_files.specs.declared.kind.Kind.{Kind}
use Rattle.d64_effects.specs.Clear.{with_cleared}
use Rattle.d64_effects.specs.Delete.{without_files, scratched_disk, scratched_slots}
use Rattle.d64_effects.specs.Rename.{first_of_name, with_name_in, renamed_disk}
use Rattle.d64_effects.specs.Validate.{unclosed_slots, validated_disk}
use Rattle.d64_effects.specs.Write.{directory_grown, with_entry_in, with_new_entry, with_file, written_disk}
use Rattle.d64_effects.proofs.DirectoryEntries.{length-with_entry}
use Rattle.d64_effects.proofs.FileChains.{length-with_chain}

length-with_bytes : (image : List (List ℕ)) (block start : ℕ) (part : List ℕ) → length (with_bytes image block start part) ≡ length image
length-with_bytes image block start part = length-set image block _

length-with_cleared_slot : (image : List (List ℕ)) (slot : ℕ) → length (with_cleared_slot image slot) ≡ length image
unfolding with_cleared_slot
length-with_cleared_slot image slot = length-set image _ _

pub length-with_cleared : (image : List (List ℕ)) (numbers : List ℕ) → length (with_cleared image numbers) ≡ length image
length-with_cleared image [] = refl
length-with_cleared image (slot ∷ numbers) = length-with_cleared (with_cleared_slot image slot) numbers ∙ length-with_cleared_slot image slot

pub length-with_growth : (image : List (List ℕ)) (new : ℕ) → length (with_growth image new) ≡ length image
unfolding with_growth
length-with_growth image new = length-set _ _ _ ∙ length-set image _ _

length-entry_in : (image : List (List ℕ)) (slot : Option ℕ) (grown entry : List ℕ) → length (with_entry_in image slot grown entry) ≡ length image
length-entry_in image (Some slot) grown entry = length-with_entry image slot entry
length-entry_in image None [] entry = refl
length-entry_in image None (new ∷ grown) entry = length-with_bytes (with_growth image new) new 2 entry ∙ length-with_growth image new

pub length-with_new_entry : (image : List (List ℕ)) (entry : List ℕ) → length (with_new_entry image entry) ≡ length image
unfolding with_new_entry
length-with_new_entry image entry = length-entry_in image (first_unused (slots image)) (directory_grown image) entry

pub length-written_disk : (image : List (List ℕ)) (name : List ℕ) (kind : Kind) (bytes : List ℕ) → length (written_disk image name kind bytes) ≡ length image
unfolding written_disk with_file
length-written_disk image name kind bytes = length-with_map _ _ ∙ length-with_chain _ _ bytes ∙ length-with_new_entry image _

without_files-long : (image : List (List ℕ)) (numbers : List ℕ) → length (without_files image numbers) ≡ length image
without_files-long image [] = refl
without_files-long image (slot ∷ numbers) = length-with_map _ _ ∙ length-with_cleared image (slot ∷ numbers)

pub length-scratched_disk : (image patterns : List (List ℕ)) → length (scratched_disk image patterns) ≡ length image
unfolding scratched_disk
length-scratched_disk image patterns = without_files-long image (scratched_slots image patterns)

pub length-validated_disk : (image : List (List ℕ)) → length (validated_disk image) ≡ length image
unfolding validated_disk
length-validated_disk image = length-with_map _ _ ∙ length-with_cleared image (unclosed_slots image)

renamed-long : (image : List (List ℕ)) (slot : Option ℕ) (name : List ℕ) → length (with_name_in image slot name) ≡ length image
unfolding with_name
renamed-long image None name = refl
renamed-long image (Some slot) name = length-set image _ _

pub length-renamed_disk : (image : List (List ℕ)) (old new : List ℕ) → length (renamed_disk image old new) ≡ length image
unfolding renamed_disk
length-renamed_disk image old new = renamed-long image (first_of_name old (slots image)) new
