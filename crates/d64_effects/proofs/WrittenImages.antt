-- the image after writing a file: its blocks, its directory, its map
use Rattle.std.proofs.Common.{◌≡◌, ◌≢◌, ℕ, ◌+◌, ◌<◌, ◌≤◌, true, not, nat_eq, List, [], ◌∷◌, ◌++◌, length, map, take, drop, get_or, Option, refl, sym, ap, ◌∙◌, subst, inl, inr, arith}
use Rattle.std.specs.Prelude.{replicate}
use Rattle.std.specs.List.{list_any}
use Rattle.std.specs.Ordering.{nat_cmp}
use Rattle.std.specs.FinSet as set
use Rattle.std.proofs.lemmas.Bool.{cases_lt, and_parts}
use Rattle.std.proofs.lemmas.List.Elements.{All-weaker, All-get_or}
use Rattle.std.proofs.lemmas.Map.Steps.{length-le_from_distinct_below}
use Rattle.d64_image.specs.Disk.{AreBytes}
use Rattle.d64_image.specs.declared.block.TheConstants.{BLOCKS}
use Rattle.d64_image.specs.BlockSet.{MembersAreBelow}
use Rattle.d64_image.specs.Image.{IsImage, IsSize, tracks_of, sector_at}
use Rattle.d64_map.specs.Laws.{IsFreeForFiles}
use Rattle.d64_map.specs.Map.{map_block, free_blocks, map_for, with_map, CountsFit}
use Rattle.d64_map.proofs.Maps.{sector_at-with_map, sector_at-with_map-other, length-with_map, free_blocks-with_map, counts-with_map, IsImage-with_map}
use Rattle.d64_files.specs.Chain.{Chain}
use Rattle.d64_files.specs.Directory.{directory, slots, slots_in, owned_blocks}
use Rattle.d64_files.specs.FileData.{data_along}
use Rattle.d64_files.specs.Name.{IsName}
use Rattle.d64_files.specs.Writing.{with_chain, entry_bytes, first_unused}
use Rattle.d64_files.specs.declared.kind.Kind.{Kind}
use Rattle.d64_files.proofs.Chains.{kept}
use Rattle.d64_files.proofs.FileBlocks.{needs_one}
use Rattle.d64_effects.specs.Laws.{HasRoom}
use Rattle.d64_effects.specs.View.{IsSound}
use Rattle.d64_files.specs.DiskHeader.{disk_field, disk_id}
use Rattle.d64_effects.specs.Write.{taken_by, directory_grown, blocks_without, with_new_entry, with_file, written_disk}
use Rattle.d64_effects.proofs.CellFields.{length-entry_bytes, are_bytes-entry_bytes}
use Rattle.d64_effects.proofs.DirectoryEntries.{link_same, directory-same, slots-same}
use Rattle.d64_effects.proofs.FileChains.{Fits, length-with_chain, sector_at-with_chain, IsImage-with_chain, Chain-with_chain, data_along-same, data_along-with_chain}
use Rattle.d64_effects.proofs.FormattedDisks.{part-map_for}
use Rattle.d64_effects.proofs.NewDirectory.{NewEntry, has_directory, new_entry}
use Rattle.d64_effects.proofs.Occurrences.{occurs, occurs-append, occurs-present, occurs-from_All, All-from_occurs, absent-from_occurs}
use Rattle.d64_effects.proofs.Rows.{with_row}
use Rattle.d64_effects.proofs.TakenBlocks.{free_is_block, Takes, takes, Grows, grows, occurs-owned, owned_once, owned_not_taken, owned_not_grown, grown_not_taken, contains-blocks_without}

-- what writing a file leaves
pub record LeftByWriting (image other : List (List ℕ)) (place : Option ℕ) (taken grown entry bytes : List ℕ) : Type 0 where
  pub is_image : IsImage other
  pub long : length other ≡ length image
  pub counts : CountsFit other
  pub free : free_blocks other ≡ blocks_without (free_blocks image) (taken ++ grown)
  pub blocks : directory other ≡ directory image ++ grown
  pub entries : map (drop 2) (slots other) ≡ with_row (map (drop 2) (slots image)) place entry (replicate 30 0)
  pub kept : (block : ℕ) → block ≢ map_block → occurs block taken ≡ 0 → occurs block (directory image ++ grown) ≡ 0
      → sector_at other block ≡ sector_at image block
  pub chain : Chain other (get_or taken 0 0) taken
  pub content : data_along other taken ≡ bytes
  pub name : disk_field other ≡ disk_field image
  pub id : disk_id other ≡ disk_id image

-- the blocks of the directory, its new one and those of the file: the map's is not among them, and
-- no block of the file is one of the directory
pub record Apart (image : List (List ℕ)) (taken grown : List ℕ) : Type 0 where
  pub map_not_taken : occurs map_block taken ≡ 0
  pub map_not_listed : occurs map_block (directory image ++ grown) ≡ 0
  pub listed_not_taken : (q : ℕ) → 1 ≤ occurs q (directory image ++ grown) → occurs q taken ≡ 0

pub apart : (image : List (List ℕ)) (taken grown : List ℕ) (bytes : ℕ) → IsSound image → Takes image taken bytes → Grows image grown → Apart image taken grown
apart image taken grown bytes sound file dir =
    let own = occurs-owned image map_block in
    let once = owned_once image sound map_block in
    let there : 1 ≤ occurs map_block (owned_blocks image) = omega arith in
    let none = owned_not_grown image grown sound dir map_block there in
    let parts = occurs-append map_block (directory image) grown in
    record {
      map_not_taken = owned_not_taken image taken bytes sound file map_block there;
      map_not_listed = omega arith;
      listed_not_taken = λ q listed. elim (cases_lt 0 (occurs q grown)) [
        | inl new ↦ grown_not_taken image taken grown bytes file dir q new
        | inr old ↦
            let e = occurs-append q (directory image) grown in
            let f = occurs-owned image q in
            owned_not_taken image taken bytes sound file q (omega arith)
      ];
    }

-- the members that are left are blocks of the image
pub left_are_blocks : (image : List (List ℕ)) (taken : List ℕ) → MembersAreBelow (length image) (blocks_without (free_blocks image) taken)
left_are_blocks image taken q member =
    free_is_block image q
    (and_parts (not (list_any (nat_eq q) taken)) (set.contains (free_blocks image) q) (sym (contains-blocks_without (free_blocks image) taken q) ∙ member)).1

-- the image with a file's data and a new map
abbrev filed : List (List ℕ) → List ℕ → List ℕ → set.FinSet nat_cmp → List (List ℕ)
filed listed taken bytes free = with_map (with_chain listed taken bytes) free

-- a list that goes on with another is not empty if the first isn't
pub append_some : (xs ys : List ℕ) → xs ≢ [] → xs ++ ys ≢ []
append_some [] ys some e = some refl
append_some (x ∷ xs) ys some e = cc

module _ (image listed : List (List ℕ)) (place : Option ℕ) (taken grown entry bytes : List ℕ) (free : set.FinSet nat_cmp) (some : directory image ≢ [])
    (is : IsImage image) (new : NewEntry image listed place grown entry) (small : AreBytes bytes) (fits : Fits (length image) taken bytes) (separate : Apart image taken grown)
    (members : MembersAreBelow (length image) free) where
  length_chained : length (with_chain listed taken bytes) ≡ length image
  length_chained = length-with_chain listed taken bytes ∙ new.long

  most : length image ≤ BLOCKS
  most = let l = is.0 in omega arith

  within : MembersAreBelow (length (with_chain listed taken bytes)) free
  within = subst (λ (n : ℕ). MembersAreBelow n free) (sym length_chained) members

  has_map_block : map_block < length (with_chain listed taken bytes)
  has_map_block = let e = length_chained in let l = is.0 in omega arith

  length_filed : length (filed listed taken bytes free) ≡ length listed
  length_filed = length-with_map (with_chain listed taken bytes) free ∙ length-with_chain listed taken bytes

  -- a block that neither is the map's nor was taken
  other_sector : (block : ℕ) → block ≢ map_block → occurs block taken ≡ 0 → sector_at (filed listed taken bytes free) block ≡ sector_at listed block
  other_sector block other absent =
      sector_at-with_map-other (with_chain listed taken bytes) free block other
      ∙ sector_at-with_chain listed taken bytes block (absent-from_occurs block taken absent)

  -- a block of the directory
  listed_sector : (block : ℕ) → list_any (nat_eq block) (directory listed) ≡ true → sector_at (filed listed taken bytes free) block ≡ sector_at listed block
  listed_sector block found =
      let there = occurs-present block (directory listed) found in
      let among = ap (occurs block) new.blocks in
      let map_apart = separate.map_not_listed in
      other_sector block (λ e. let f = ap (λ (q : ℕ). occurs q (directory image ++ grown)) e in omega arith) (separate.listed_not_taken block (omega arith))

  -- a block of the file
  taken_sector : (block : ℕ) → 1 ≤ occurs block taken → sector_at (filed listed taken bytes free) block ≡ sector_at (with_chain listed taken bytes) block
  taken_sector block there =
      let map_apart = separate.map_not_taken in
      sector_at-with_map-other (with_chain listed taken bytes) free block (λ e. let f = ap (λ (q : ℕ). occurs q taken) e in omega arith)

  same_directory : directory (filed listed taken bytes free) ≡ directory listed
  same_directory =
      directory-same listed (filed listed taken bytes free) (λ e. append_some (directory image) grown some (sym new.blocks ∙ e)) length_filed
      (λ block found. link_same listed (filed listed taken bytes free) block (listed_sector block found))

  same_slots : slots (filed listed taken bytes free) ≡ slots listed
  same_slots =
      ap (slots_in (filed listed taken bytes free)) same_directory
      ∙ slots-same listed (filed listed taken bytes free) (directory listed) listed_sector

  has_chain : Chain (filed listed taken bytes free) (get_or taken 0 0) taken
  has_chain =
      kept (with_chain listed taken bytes) (filed listed taken bytes free) (get_or taken 0 0) taken (Chain-with_chain (length image) most listed taken bytes new.long fits)
      (length-with_map (with_chain listed taken bytes) free)
      (λ block found. link_same (with_chain listed taken bytes) (filed listed taken bytes free) block (taken_sector block (occurs-present block taken found)))

  has_data : data_along (filed listed taken bytes free) taken ≡ bytes
  has_data =
      data_along-same (with_chain listed taken bytes) (filed listed taken bytes free) taken
      (All-from_occurs (λ block. sector_at (filed listed taken bytes free) block ≡ sector_at (with_chain listed taken bytes) block) taken taken_sector)
      ∙ data_along-with_chain (length image) most listed taken bytes new.long fits

  -- the map's block before the map is written
  old_map : sector_at (with_chain listed taken bytes) map_block ≡ sector_at image map_block
  old_map =
      sector_at-with_chain listed taken bytes map_block (absent-from_occurs map_block taken separate.map_not_taken)
      ∙ new.kept map_block separate.map_not_listed

  size : IsSize (length (with_chain listed taken bytes))
  size = subst IsSize (sym length_chained) is.0

  same_part : (n count : ℕ) → 144 ≤ n → n + count ≤ 192
      → take count (drop n (sector_at (filed listed taken bytes free) map_block)) ≡ take count (drop n (sector_at image map_block))
  same_part n count past before =
      let inside : map_block < length image = let l = is.0 in omega arith in
      let tracks : ℕ = tracks_of (length (with_chain listed taken bytes)) in
      ap (λ (bytes : List ℕ). take count (drop n bytes))
      (sector_at-with_map (with_chain listed taken bytes) free has_map_block ∙ ap (λ (old : List ℕ). map_for tracks old free) old_map)
      ∙ part-map_for tracks (sector_at image map_block) free n count (is.1 map_block [] inside).0 past before

  -- what is left, if these blocks are marked free
  pub leaves : free ≡ blocks_without (free_blocks image) (taken ++ grown) → LeftByWriting image (filed listed taken bytes free) place taken grown entry bytes
  leaves left = record {
    is_image = IsImage-with_map (with_chain listed taken bytes) free (IsImage-with_chain (length image) most listed taken bytes new.is_image small fits);
    long = length_filed ∙ new.long;
    counts = counts-with_map (with_chain listed taken bytes) free size within;
    free = free_blocks-with_map (with_chain listed taken bytes) free size within ∙ left;
    blocks = same_directory ∙ new.blocks;
    entries = ap (map (drop 2)) same_slots ∙ new.entries;
    kept = λ block other absent apart. other_sector block other absent ∙ new.kept block apart;
    chain = has_chain;
    content = has_data;
    name = same_part 0x90 16 (omega arith) (omega arith);
    id = same_part 0xA2 2 (omega arith) (omega arith);
  }

-- the blocks that a file takes fit its bytes
pub taken_fit : (image : List (List ℕ)) (taken bytes : List ℕ) → Takes image taken (length bytes) → Fits (length image) taken bytes
taken_fit image taken bytes file = record {
  count = file.count;
  distinct = file.distinct;
  within = All-weaker (IsFreeForFiles (free_blocks image)) (λ block. block < length image) (λ block h. free_is_block image block h.0) taken file.each;
}

-- the first of them, and how many they are
first_taken : (count : ℕ) (taken bytes : List ℕ) → Fits count taken bytes → get_or taken 0 0 < count
first_taken count taken bytes fits =
    All-get_or (λ block. block < count) taken 0 0 (let some = needs_one (length bytes) in let e = fits.count in omega arith) fits.within

few_taken : (count : ℕ) (taken bytes : List ℕ) → Fits count taken bytes → length taken ≤ count
few_taken count taken bytes fits =
    length-le_from_distinct_below taken count fits.distinct
    (λ q found. occurs-from_All (λ block. block < count) taken q fits.within (occurs-present q taken found))

-- the entry of a file in these blocks
abbrev pub file_entry : List ℕ → Kind → List ℕ → List ℕ
file_entry name kind taken = entry_bytes name kind (get_or taken 0 0) (length taken)

-- writing a file into blocks that it may take
file_leaves : (image : List (List ℕ)) (name : List ℕ) (kind : Kind) (bytes taken : List ℕ) → IsImage image → IsName name → AreBytes bytes
    → IsSound image → HasRoom image (length bytes)
    → Takes image taken (length bytes)
    → LeftByWriting image (with_file image name kind bytes taken) (first_unused (slots image)) taken (directory_grown image) (file_entry name kind taken) bytes
unfolding with_file
file_leaves image name kind bytes taken is named small sound fits file =
    let fit = taken_fit image taken bytes file in
    let few = few_taken (length image) taken bytes fit in
    let size = is.0 in
    let first = first_taken (length image) taken bytes fit in
    let entry : List ℕ = file_entry name kind taken in
    let new = new_entry image entry (length bytes) is sound fits (length-entry_bytes name kind (get_or taken 0 0) (length taken) named.short)
    (are_bytes-entry_bytes name kind (get_or taken 0 0) (length taken) named (omega arith) (omega arith)) in
    leaves image (with_new_entry image entry) (first_unused (slots image)) taken (directory_grown image) entry bytes
    (blocks_without (free_blocks image) (taken ++ directory_grown image))
    (has_directory image sound) is new small fit (apart image taken (directory_grown image) (length bytes) sound file (grows image))
    (left_are_blocks image (taken ++ directory_grown image)) refl

-- the blocks that the writing takes, and what it leaves
abbrev pub taken_for : List (List ℕ) → List ℕ → List ℕ
taken_for image bytes = taken_by (free_blocks image) (length bytes)

pub written_leaves : (image : List (List ℕ)) (name : List ℕ) (kind : Kind) (bytes : List ℕ) → IsImage image → IsName name → AreBytes bytes
    → IsSound image → HasRoom image (length bytes)
    → LeftByWriting image (written_disk image name kind bytes) (first_unused (slots image)) (taken_for image bytes) (directory_grown image)
    (file_entry name kind (taken_for image bytes)) bytes
unfolding written_disk
written_leaves image name kind bytes is named small sound fits =
    file_leaves image name kind bytes (taken_for image bytes) is named small sound fits (takes image (length bytes) fits)
