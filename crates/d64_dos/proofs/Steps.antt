-- accepted file commands leave sound disks
use Rattle.std.proofs.Common.{◌≡◌, ◌≢◌, ℕ, ◌||◌, Bool, true, false, not, cond, leb, List, [], length, Option, Some, None, refl, sym, ap, ◌∙◌, subst, arith}
use Rattle.std.specs.Prelude.{is_some, Result, Ok, Err, IfOk, OnOk, OnErr}
use Rattle.std.specs.Option.{option_map, option_or}
use Rattle.std.proofs.lemmas.Bool.{and_parts}
use Rattle.std.proofs.lemmas.Bool.Decides.{nat_tests}
use Rattle.d64_map.specs.Map.{free_blocks}
use Rattle.d64_map.specs.Plan.{room}
use Rattle.d64_files.specs.Directory.{slots, is_name_taken, AllHold}
use Rattle.d64_files.specs.FirstFault.{first_fault, owning_conditions, sound_conditions}
use Rattle.d64_files.proofs.FirstFaults.{owning_decides, sound_decides}
use Rattle.d64_files.specs.Writing.{blocks_for, first_unused, dir_last}
use Rattle.d64_files.specs.declared.dir_fault.DirFault.{DirFault}
use Rattle.d64_files.specs.declared.kind.Kind.{Kind}
use Rattle.d64_files.specs.declared.kind.Kind.TheVariants.{Del, Seq, Prg, Usr, Rel}
use Rattle.d64_files.specs.Name.{IsName}
use Rattle.d64_effects.specs.Format.{formatted_disk}
use Rattle.d64_effects.specs.Laws.{AreTwoBytes, HasRoom, IsWritable}
use Rattle.d64_effects.specs.View.{IsSound, view}
use Rattle.d64_effects.specs.ViewAfter.{formatted_view}
use Rattle.d64_effects.specs.Write.{next_of_directory}
use Rattle.d64_effects.proofs.EmptyDisks.{IsImage-formatted_disk}
use Rattle.d64_effects.proofs.FormattedDisks.{holds-formatted_disk, view-formatted_disk}
use Rattle.d64_effects.proofs.NamedDisks.{named-is_image, named-is_sound, named-shows}
use Rattle.d64_effects.proofs.RenamedDisks.{renamed-is_image, renamed-is_sound, renamed-shows}
use Rattle.d64_effects.proofs.ScratchedDisks.{scratched-is_image, scratched-is_sound, scratched-shows, scratched-are_counted}
use Rattle.d64_effects.proofs.UndeletedDisks.{undeleted-is_image, undeleted-is_sound, undeleted-shows}
use Rattle.d64_effects.proofs.ValidatedDisks.{validated-is_image, validated-is_sound, validated-shows}
use Rattle.d64_effects.proofs.WrittenDisks.{written-is_image, written-is_sound, written-shows}
use Rattle.d64_image.specs.Image.{IsImage}
use Rattle.d64_image.specs.Patch.{Kept, restored_image}
use Rattle.d64_dos.specs.Change.{Change, Format, Write, Delete, Undelete, Rename, Name, Validate, BlockWrite}
use Rattle.d64_dos.specs.Command.{image_after, reply_to, refusal_of, IsFileCommand, LeavesSound, StartsFrom}
use Rattle.d64_dos.specs.FileRefusals.{rename_refusal, validate_refusal}
use Rattle.d64_dos.specs.Refusal.{refused_by}
use Rattle.d64_dos.specs.Step.{FileCommandsKeepDisksSound, IsMade, Leaves}
use Rattle.d64_dos.specs.declared.command.Reply.{Reply}
use Rattle.d64_dos.specs.declared.command.Reply.TheVariants.{Scratched}
use Rattle.d64_dos.specs.Undelete.{slot_to_undelete}
use Rattle.d64_dos.specs.WriteRefusal.{has_room, is_writable, write_refusal}
use Rattle.d64_dos.proofs.Restored.{chosen, can_come_back, undeletable, some_slot, disk_back, view_back}
use Rattle.d64_dos.specs.declared.refusal.Refusal.{Refusal}
use Rattle.d64_dos.specs.declared.refusal.Refusal.TheVariants.{Exists, WrongType, NotFound, Directory, DiskFull}

-- what holds if no refusal of a write applies
none_applies : (writable taken fits : Bool) (fault : Option DirFault)
    → cond (not writable) (Some WrongType) (option_or (option_map Directory fault) (cond taken (Some Exists) (cond fits None (Some DiskFull)))) ≡ None
    → (writable ≡ true) × (fits ≡ true)
none_applies false taken fits fault h = absurd (cc)
none_applies true taken fits (Some fault) h = absurd (cc)
none_applies true true fits None h = absurd (cc)
none_applies true false false None h = absurd (cc)
none_applies true false true None h = (refl, refl)

-- a write that no refusal stops has a kind that can be written, and room
accepted : (image : List (List ℕ)) (name : List ℕ) (kind : Kind) (bytes : ℕ) → write_refusal image name kind bytes ≡ None
    → (is_writable kind ≡ true) × (has_room image bytes ≡ true)
unfolding write_refusal
accepted image name kind bytes h =
    none_applies (is_writable kind) (is_name_taken name (slots image)) (has_room image bytes) (first_fault image sound_conditions) h

-- files of such a kind are SEQ, PRG or USR
pub writable : (kind : Kind) → is_writable kind ≡ true → IsWritable kind
writable Del h = absurd (cc)
writable Seq h = (λ e. cc, λ e. cc)
writable Prg h = (λ e. cc, λ e. cc)
writable Usr h = (λ e. cc, λ e. cc)
writable Rel h = absurd (cc)

-- one of two tests passes, and the first doesn't
second_passes : (a b : Bool) → (a || b) ≡ true → a ≡ false → b ≡ true
second_passes true b h fails = absurd (cc)
second_passes false b h fails = h

-- there is something, so it isn't nothing
not_none : (found : Option ℕ) → is_some found ≡ true → found ≢ None
not_none (Some block) h = λ e. cc
not_none None h = absurd (cc)

-- the test of room says that there is room
has_its_room : (image : List (List ℕ)) (bytes : ℕ) → has_room image bytes ≡ true → HasRoom image bytes
has_its_room image bytes h =
    let parts =
    and_parts (leb (blocks_for bytes) (room (free_blocks image))) (is_some (first_unused (slots image)) || is_some (next_of_directory (free_blocks image) (dir_last image))) h in
    record {
      blocks = let enough = parts.0 in grind (arith, nat_tests);
      slot = λ none. not_none (next_of_directory (free_blocks image) (dir_last image))
          (second_passes (is_some (first_unused (slots image))) (is_some (next_of_directory (free_blocks image) (dir_last image))) parts.1 (ap is_some none));
    }

-- no fault is found
none_found : (found : Option DirFault) → option_map Directory found ≡ None → found ≡ None
none_found None h = refl
none_found (Some fault) h = absurd (cc)

-- a validation that no refusal stops has a directory, files and chains in order
owning_conditions-hold : (image : List (List ℕ)) → validate_refusal image ≡ None → AllHold image 2 5
owning_conditions-hold image h = (owning_decides image).0.0 (none_found (first_fault image owning_conditions) h)

-- a formatted disk has as many blocks as before
formatted_disk-shows : (image : List (List ℕ)) (name id : List ℕ) → IsImage image → IsName name → AreTwoBytes id
    → view (formatted_disk (length image) name id) ≡ formatted_view (view image).count name id
unfolding view
formatted_disk-shows image name id is named two = view-formatted_disk (length image) is.0 name id named two

-- each accepted file command leaves a sound disk, which shows its change
pub keeps_sound : FileCommandsKeepDisksSound
keeps_sound image (Format name id) is made none from =
    record {
      is_image = IsImage-formatted_disk (length image) is.0 name id made.0 made.1;
      sound = λ fault first last. holds-formatted_disk (length image) is.0 name id fault;
      shows = (refl, formatted_disk-shows image name id is made.0 made.1);
    }
keeps_sound image (Write name kind bytes) is made none from =
    let passes = accepted image name kind (length bytes) none in
    let kinds = writable kind passes.0 in
    let fits = has_its_room image (length bytes) passes.1 in
    record {
      is_image = written-is_image image name kind bytes is made.0 made.1 from fits;
      sound = written-is_sound image name kind bytes is made.0 kinds made.1 from fits;
      shows = (refl, written-shows image name kind bytes is made.0 kinds made.1 from fits);
    }
keeps_sound image (Delete patterns) is made none from = record {
  is_image = scratched-is_image image patterns is from;
  sound = scratched-is_sound image patterns is from;
  shows = (ap Scratched (scratched-are_counted image patterns), scratched-shows image patterns is from);
}
keeps_sound image (Undelete name kind) is made none from =
    let passes = undeletable image name kind none in
    let kinds = writable kind passes.writable in
    let slot = some_slot (slot_to_undelete image name) passes.left in
    let can = can_come_back image name slot.0 (chosen image name slot.0 slot.1) in
    let disk = disk_back image name kind slot.0 slot.1 in
    record {
      is_image = subst IsImage (sym disk) (undeleted-is_image image slot.0 kind is from kinds can);
      sound = subst IsSound (sym disk) (undeleted-is_sound image slot.0 kind is from kinds can);
      shows = (refl, ap view disk ∙ undeleted-shows image slot.0 kind is from kinds can ∙ sym (view_back image (view image) name kind slot.0 slot.1));
    }
keeps_sound image (Rename old new) is made none from = record {
  is_image = renamed-is_image image old new is made.1 from;
  sound = renamed-is_sound image old new is made.1 from;
  shows = (refl, renamed-shows image old new is made.1 from);
}
keeps_sound image (Name name id) is made none from = record {
  is_image = named-is_image image name id is made.0 made.1;
  sound = named-is_sound image name id is made.0 made.1 from;
  shows = (refl, named-shows image name id is made.0 made.1 from);
}
keeps_sound image Validate is made none from =
    let owning = owning_conditions-hold image none in
    record {
      is_image = validated-is_image image is owning;
      sound = validated-is_sound image is owning;
      shows = (refl, validated-shows image is owning);
    }
keeps_sound image (BlockWrite at block) is made none from = absurd from

-- a file command may start from every sound image
pub starts_from_sound : (image : List (List ℕ)) (change : Change) → IsFileCommand change → IsSound image → StartsFrom change image
starts_from_sound image (Format name id) is sound = tt
starts_from_sound image (Write name kind bytes) is sound = sound
starts_from_sound image (Delete patterns) is sound = sound
starts_from_sound image (Undelete name kind) is sound = sound
starts_from_sound image (Rename old new) is sound = sound
starts_from_sound image (Name name id) is sound = sound
starts_from_sound image Validate is sound = tt
starts_from_sound image (BlockWrite at block) is sound = absurd (cc)

-- a fault comes before other refusals
no_fault_before : (fault : Option DirFault) (more : Option Refusal) → option_or (option_map Directory fault) more ≡ None → fault ≡ None
no_fault_before None more h = refl
no_fault_before (Some fault) more h = absurd (cc)

-- also after that of a kind that cannot be written
no_fault_after : (writable : Bool) (fault : Option DirFault) (more : Option Refusal)
    → cond (not writable) (Some WrongType) (option_or (option_map Directory fault) more) ≡ None → fault ≡ None
no_fault_after false fault more h = absurd (cc)
no_fault_after true fault more h = no_fault_before fault more h

-- a write is accepted only on a sound image
written_from_sound : (image : List (List ℕ)) (name : List ℕ) (kind : Kind) (bytes : ℕ) → write_refusal image name kind bytes ≡ None → IsSound image
unfolding write_refusal
written_from_sound image name kind bytes h =
    (sound_decides image).0.0
    (no_fault_after (is_writable kind) (first_fault image sound_conditions)
    (cond (is_name_taken name (slots image)) (Some Exists) (cond (has_room image bytes) None (Some DiskFull))) h)

-- and so is a renaming
renamed_from_sound : (image : List (List ℕ)) (old new : List ℕ) → rename_refusal image old new ≡ None → IsSound image
unfolding rename_refusal
renamed_from_sound image old new h =
    (sound_decides image).0.0
    (no_fault_before (first_fault image sound_conditions)
    (cond (is_name_taken old (slots image)) (cond (is_name_taken new (slots image)) (Some Exists) None) (Some NotFound)) h)

-- an accepted command that leaves a sound disk starts from an image from which its promise holds
starts_from_accepted : (image : List (List ℕ)) (change : Change) (known : Bool) → (known ≡ true → IsSound image) → LeavesSound change known
    → refusal_of image change ≡ None → StartsFrom change image
starts_from_accepted image (Format name id) known sure is none = tt
starts_from_accepted image (Write name kind bytes) known sure is none = written_from_sound image name kind (length bytes) none
starts_from_accepted image (Delete patterns) known sure is none = (sound_decides image).0.0 (none_found (first_fault image sound_conditions) none)
starts_from_accepted image (Undelete name kind) known sure is none = (sound_decides image).0.0 (undeletable image name kind none).sound
starts_from_accepted image (Rename old new) known sure is none = renamed_from_sound image old new none
starts_from_accepted image (Name name id) known sure is none = sure is
starts_from_accepted image Validate known sure is none = tt
starts_from_accepted image (BlockWrite at block) known sure is none = absurd (cc)

-- what the result of a command says of its image and its reply makes the step
pub step_of : (image next : List (List ℕ)) (change : Change) (result : Result Reply Refusal)
    → IsImage image → IsMade change → refused_by result ≡ refusal_of image change
    → IfOk result (λ reply. reply ≡ reply_to image change) → OnOk result (next ≡ image_after image change)
    → IfOk result (λ reply. StartsFrom change image → Leaves image change reply next)
step_of image next change (Err refusal) is made refused reply accepted = tt
step_of image next change (Ok outcome) is made refused reply accepted =
    λ from.
    subst (λ (r : Reply). Leaves image change r next) (sym reply)
    (subst (Leaves image change (reply_to image change)) (sym accepted) (keeps_sound image change is made (sym refused) from))

-- and what an accepted command leaves is sound, if it is one that leaves a sound disk
pub sound_of : (image next : List (List ℕ)) (change : Change) (known : Bool) (result : Result Reply Refusal)
    → (known ≡ true → IsSound image) → IsImage image → IsMade change → refused_by result ≡ refusal_of image change
    → IfOk result (λ reply. reply ≡ reply_to image change) → OnOk result (next ≡ image_after image change)
    → OnOk result (LeavesSound change known → IsSound next)
sound_of image next change known (Err refusal) sure is made refused reply accepted = tt
sound_of image next change known (Ok outcome) sure is made refused reply accepted =
    λ leaves. (step_of image next change (Ok outcome) is made refused reply accepted (starts_from_accepted image change known sure leaves (sym refused))).sound

-- an empty patch puts nothing back
pub nothing_back : (image : List (List ℕ)) (patch : Kept) → patch ≡ [] → restored_image image patch ≡ image
unfolding restored_image
nothing_back image patch empty = ap (restored_image image) empty

-- what always holds, holds after a refusal
pub on_err : {T E P : Type 0} (result : Result T E) → P → OnErr result P
on_err (Ok value) p = tt
on_err (Err error) p = p
