-- The rows of entries with links, one after another.
use Rattle.std.proofs.Common.{◌≡◌, ◌∙◌, ℕ, Bool, true, false, List, [], ◌∷◌, ◌++◌, sym, ap, append_assoc, append-nil}
use Rattle.std.specs.Prelude.{if◌then◌else◌}
use Rattle.d64_files.specs.Directory.{entries}
use Rattle.d64_files.specs.Slot.{EntryView, is_used}
use Rattle.d64_survey.specs.Dump.{DumpView}
use Rattle.d64_survey.specs.Owners.{way_slots}
use Rattle.cmd_catalogue.specs.Files.{linked_rows, used_row}
use Rattle.cmd_catalogue.specs.Links.{Naming, file_url, first_naming, naming_after}

-- before the first entry all rows are to come
pub no_linked_row : (folder : List ℕ) (dump : DumpView) (image : List (List ℕ)) (naming : Naming) (walk : List EntryView) (before : List ℕ)
    → image ≡ dump.image → walk ≡ entries image (way_slots image) → naming ≡ first_naming
    → before ++ linked_rows folder dump naming walk ≡ before ++ linked_rows folder dump first_naming (entries dump.image (way_slots dump.image))
no_linked_row folder dump image naming walk before same is begun =
    ap (λ (n : Naming). before ++ linked_rows folder dump n walk) begun
    ∙ ap (λ (w : List EntryView). before ++ linked_rows folder dump first_naming w) is
    ∙ ap (λ (i : List (List ℕ)). before ++ linked_rows folder dump first_naming (entries i (way_slots i))) same

-- the row of a used entry, and then those that are to come
pub used_one : (folder : List ℕ) (dump : DumpView) (naming after : Naming) (entry : EntryView) (rest : List EntryView) (before now whole : List ℕ)
    → is_used entry.bytes ≡ true → after ≡ naming_after dump naming entry
    → now ≡ before ++ used_row (file_url folder dump naming entry) dump entry.bytes
    → before ++ linked_rows folder dump naming (entry ∷ rest) ≡ whole → now ++ linked_rows folder dump after rest ≡ whole
unfolding linked_rows
used_one folder dump naming after entry rest before now whole used is row so =
    let here = used_row (file_url folder dump naming entry) dump entry.bytes in
    let later = linked_rows folder dump (naming_after dump naming entry) rest in
    let passed = linked_rows folder dump naming rest in
    ap (λ (n : Naming). now ++ linked_rows folder dump n rest) is
    ∙ ap (λ (t : List ℕ). t ++ later) row
    ∙ append_assoc before here later
    ∙ ap (λ (t : Bool). before ++ (if t then here ++ later else passed)) (sym used)
    ∙ so

-- an entry that is not used has no row
pub unused_one : (folder : List ℕ) (dump : DumpView) (naming : Naming) (entry : EntryView) (rest : List EntryView) (before whole : List ℕ)
    → is_used entry.bytes ≡ false → before ++ linked_rows folder dump naming (entry ∷ rest) ≡ whole
    → before ++ linked_rows folder dump naming rest ≡ whole
unfolding linked_rows
unused_one folder dump naming entry rest before whole unused so =
    let here = used_row (file_url folder dump naming entry) dump entry.bytes in
    let later = linked_rows folder dump (naming_after dump naming entry) rest in
    let passed = linked_rows folder dump naming rest in
    ap (λ (t : Bool). before ++ (if t then here ++ later else passed)) (sym unused) ∙ so

-- after the last entry no row is to come
pub no_more : (folder : List ℕ) (dump : DumpView) (naming : Naming) (before whole : List ℕ) → before ++ linked_rows folder dump naming [] ≡ whole → before ≡ whole
unfolding linked_rows
no_more folder dump naming before whole so = sym (append-nil before) ∙ so
