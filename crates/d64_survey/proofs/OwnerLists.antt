-- The owners of a block, one after another.
use Rattle.std.proofs.Common.{◌≡◌, ℕ, ◌+◌, ◌<◌, ◌≤◌, Bool, true, false, cond, eqb, List, [], ◌∷◌, ◌++◌, length, map, refl, sym, ap, ◌∙◌, subst, append_assoc, arith}
use Rattle.std.specs.Prelude.{All, filter}
use Rattle.std.specs.List.{flat_map}
use Rattle.std.proofs.lemmas.List.Elements.{All-nil, All-cons}
use Rattle.d64_image.specs.declared.block.TheConstants.{BLOCKS}
use Rattle.d64_map.specs.Map.{map_block}
use Rattle.d64_files.specs.Slot.{EntryView}
use Rattle.d64_files.specs.Directory.{entries, entry_of}
use Rattle.d64_files.proofs.Owners.{entries_from}
use Rattle.d64_survey.specs.Owners.{directory_way, way_slots, owned_as, slot_owners, owners}
use Rattle.d64_survey.specs.OwnerLists.{AreListed, owners_among}
use Rattle.d64_survey.specs.OwnerTables.{row_owners, owner_row_of, Adds, RecordsOwners}
use Rattle.d64_survey.specs.declared.owner.Owner.{Owner}
use Rattle.d64_survey.specs.declared.owner.Owner.TheVariants.{Map, Directory}
use Rattle.d64_survey.specs.declared.owner_table.OwnerTable.{OwnerTable}
use Rattle.d64_survey.proofs.FaultLists.{entries_list}

-- the owners among blocks of two lists
pub among-append : (block : ℕ) (owned others : List (ℕ × Owner)) → owners_among block (owned ++ others) ≡ owners_among block owned ++ owners_among block others
among-append block [] others = refl
among-append block (o ∷ owned) others = by_test (eqb block o.0) (among-append block owned others)
  where
    by_test : (t : Bool) → owners_among block (owned ++ others) ≡ owners_among block owned ++ owners_among block others
        → map (λ (o : ℕ × Owner). o.1) (cond t (o ∷ filter (λ (o : ℕ × Owner). eqb block o.0) (owned ++ others)) (filter (λ (o : ℕ × Owner). eqb block o.0) (owned ++ others)))
        ≡ map (λ (o : ℕ × Owner). o.1) (cond t (o ∷ filter (λ (o : ℕ × Owner). eqb block o.0) owned) (filter (λ (o : ℕ × Owner). eqb block o.0) owned)) ++ owners_among block others
    by_test true e = ap (λ (l : List Owner). o.1 ∷ l) e
    by_test false e = e

-- owners that are added after others
pub then_added : (first second third : OwnerTable) (owned others : List (ℕ × Owner)) → Adds first owned second → Adds second others third → Adds first (owned ++ others) third
then_added first second third owned others f g = λ block within all is.
    subst (λ (l : List Owner). AreListed l (row_owners (owner_row_of third block)))
    (append_assoc all (owners_among block owned) (owners_among block others) ∙ ap (λ (l : List Owner). all ++ l) (sym (among-append block owned others)))
    (g block within (all ++ owners_among block owned) (f block within all is))

-- the map, the directory and the files, one after another, have all blocks
pub all_claimed : (image : List (List ℕ)) (block : ℕ) (directory : List ℕ) (walk : List EntryView) → block ≡ map_block → directory ≡ (directory_way image).0
    → walk ≡ entries image (way_slots image)
    → (((block, Map) ∷ []) ++ owned_as Directory directory) ++ flat_map (λ (entry : EntryView). slot_owners image (entry.slot, entry.bytes)) walk ≡ owners image
unfolding owners
all_claimed image block directory walk is_map is_directory is_walk =
    let files : List EntryView → List (ℕ × Owner) = flat_map (λ (entry : EntryView). slot_owners image (entry.slot, entry.bytes)) in
    ap (λ (b : ℕ). (((b, Map) ∷ []) ++ owned_as Directory directory) ++ files walk) is_map
    ∙ ap (λ (bs : List ℕ). (((map_block, Map) ∷ []) ++ owned_as Directory bs) ++ files walk) is_directory
    ∙ ap (λ (l : List (ℕ × Owner)). (map_block, Map) ∷ (owned_as Directory (directory_way image).0 ++ l)) (ap files is_walk ∙ entries_list (slot_owners image) image (way_slots image))

-- a table to which these are added has the owners of the image
pub all_listed : (image : List (List ℕ)) (none table : OwnerTable) (owned : List (ℕ × Owner)) → ((block : ℕ) → block < BLOCKS → AreListed [] (row_owners (owner_row_of none block)))
    → Adds none owned table → owned ≡ owners image → RecordsOwners image table
all_listed image none table owned empty adds same = λ block within.
    subst (λ (os : List (ℕ × Owner)). AreListed (owners_among block os) (row_owners (owner_row_of table block))) same (adds block within [] (empty block within))

-- the numbers of entries are below their number
numbers_from : (image : List (List ℕ)) (n limit : ℕ) (cells : List (List ℕ)) → n + length cells ≤ limit → All (λ (entry : EntryView). entry.slot < limit) (entries_from image n cells)
numbers_from image n limit [] few = All-nil (λ (entry : EntryView). entry.slot < limit)
numbers_from image n limit (cell ∷ cells) few =
    All-cons (λ (entry : EntryView). entry.slot < limit) (entry_of image (n, cell)) (entries_from image (n + 1) cells) (omega arith)
    (numbers_from image (n + 1) limit cells (omega arith))

pub numbers_below : (image : List (List ℕ)) (limit : ℕ) (cells : List (List ℕ)) → length cells ≤ limit → All (λ (entry : EntryView). entry.slot < limit) (entries image cells)
numbers_below image limit cells few = numbers_from image 0 limit cells (omega arith)
