-- What keeps a directory, or the file that a pattern selects, from being read.
use Rattle.std.proofs.Common.{◌≡◌, ℕ, List, Option, Some, None, Err, sym, ap, ◌∙◌}
use Rattle.std.specs.Prelude.{slice_get, option_map}
use Rattle.std.specs.Option.{option_or}
use Rattle.d64_files.specs.Slot.{EntryView}
use Rattle.d64_files.specs.Directory.{slots, first_named, AllHold, IsFirstFault}
use Rattle.d64_files.specs.Reading.{file_refusal, slot_refusal}
use Rattle.d64_files.specs.Reading as files
use Rattle.d64_files.specs.declared.dir_fault.DirFault.{DirFault}
use Rattle.d64_files.specs.declared.reading.ReadFault.{ReadFault}
use Rattle.d64_files.specs.declared.reading.ReadFault.TheVariants as faults
use Rattle.d64_files.proofs.Contents.{first_reason}
use Rattle.d64_files.proofs.Contents as contents
use Rattle.d64_dos.specs.Refusal.{cause_of, of_read_fault}
use Rattle.d64_dos.specs.Reading.{directory_refusal, found_refusal, read_refusal}
use Rattle.d64_dos.specs.declared.refusal.Refusal.{Refusal}
use Rattle.d64_dos.specs.declared.refusal.Refusal.TheVariants.{Directory}

-- a directory that meets the conditions 2 and 3 can be read
pub readable : (image : List (List ℕ)) → AllHold image 2 3 → directory_refusal image ≡ None
readable image h = ap (option_map Directory) (contents.readable image h)

-- one that fails one of them can't, for the first that it fails
pub not_readable : (image : List (List ℕ)) (fault : DirFault) → IsFirstFault image 2 3 fault → directory_refusal image ≡ Some (Directory fault)
not_readable image fault f = ap (option_map Directory) (first_reason image fault f)

-- such a directory refuses each pattern
pub refused_pattern : (image : List (List ℕ)) (pattern : List ℕ) (fault : DirFault) → IsFirstFault image 2 3 fault
    → read_refusal image pattern ≡ Some (Directory fault)
unfolding read_refusal
refused_pattern image pattern fault f =
    ap (λ (why : Option Refusal). option_or why (found_refusal image (first_named pattern (slots image)))) (not_readable image fault f)

-- the other one leaves it to the slot that is found
pub refused_found : (image : List (List ℕ)) (pattern : List ℕ) (found : Option ℕ) → AllHold image 2 3 → found ≡ first_named pattern (slots image)
    → read_refusal image pattern ≡ found_refusal image found
unfolding read_refusal
refused_found image pattern found h e =
    ap (λ (why : Option Refusal). option_or why (found_refusal image (first_named pattern (slots image)))) (readable image h)
    ∙ ap (found_refusal image) (sym e)

-- the cause that a fault of reading has in the image stays as a refusal
cause_of_fault : (fault : ReadFault) (refusal : Option ReadFault) → files.read_refused_by {A = List ℕ} (Err fault) ≡ refusal
    → cause_of (of_read_fault fault) ≡ option_map of_read_fault refusal
cause_of_fault (faults.Directory fault) refusal e = ap (option_map of_read_fault) e
cause_of_fault faults.NotFound refusal e = ap (option_map of_read_fault) e
cause_of_fault faults.NotClosed refusal e = ap (option_map of_read_fault) e
cause_of_fault faults.WrongType refusal e = ap (option_map of_read_fault) e
cause_of_fault (faults.Memory error) refusal e = ap (option_map of_read_fault) e

-- what keeps the content of the entry that was found from being read keeps its file from it
pub refused_entry : (image : List (List ℕ)) (pattern : List ℕ) (entry : EntryView) (fault : ReadFault) → AllHold image 2 3
    → Some entry.slot ≡ first_named pattern (slots image) → slice_get (slots image) entry.slot ≡ Some entry.bytes
    → files.read_refused_by {A = List ℕ} (Err fault) ≡ file_refusal image entry.bytes → cause_of (of_read_fault fault) ≡ read_refusal image pattern
refused_entry image pattern entry fault h found bytes e =
    cause_of_fault fault (file_refusal image entry.bytes) e
    ∙ ap (λ (cell : Option (List ℕ)). option_map of_read_fault (slot_refusal image cell)) (sym bytes)
    ∙ sym (refused_found image pattern (Some entry.slot) h found)

-- and if nothing does, the file is read
pub not_refused : (image : List (List ℕ)) (pattern : List ℕ) (entry : EntryView) → AllHold image 2 3
    → Some entry.slot ≡ first_named pattern (slots image) → slice_get (slots image) entry.slot ≡ Some entry.bytes
    → None ≡ file_refusal image entry.bytes → read_refusal image pattern ≡ None
not_refused image pattern entry h found bytes e =
    refused_found image pattern (Some entry.slot) h found
    ∙ ap (λ (cell : Option (List ℕ)). option_map of_read_fault (slot_refusal image cell)) bytes
    ∙ ap (option_map of_read_fault) (sym e)
