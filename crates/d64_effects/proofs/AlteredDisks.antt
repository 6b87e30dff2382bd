-- disks whose slots and map are changed, and whose files stay in their places
use Rattle.std.proofs.Common.{◌≡◌, ◌≢◌, ℕ, ◌+◌, ◌<◌, ◌≤◌, ◌==◌, true, false, eqb, eq-eqb, nat_eq, List, [], length, map, drop, take, get_or, refl, sym, ap, ap₂, ◌∙◌, subst, arith}
use Rattle.std.specs.Prelude.{All, filter}
use Rattle.std.specs.List.{list_any, flat_map, range_with_len, IsDistinct}
use Rattle.std.specs.Ordering.{nat_cmp}
use Rattle.std.specs.FinSet as set
use Rattle.std.proofs.lemmas.List.Elements.{All-weaker}
use Rattle.d64_image.specs.Block.{pair_at}
use Rattle.d64_image.specs.BlockSet.{MembersAreBelow}
use Rattle.d64_image.specs.Image.{IsImage, tracks_of, sector_at}
use Rattle.d64_map.specs.Map.{map_block, map_entry_place, bit_in, is_free, free_blocks, map_for, with_map, CountsFit}
use Rattle.d64_map.specs.Track.{members_on}
use Rattle.d64_map.proofs.Maps.{sector_at-with_map, sector_at-with_map-other, length-with_map, free_blocks-with_map, counts-with_map, IsImage-with_map}
use Rattle.d64_files.specs.Directory.{directory, slots, slots_in, owned_blocks}
use Rattle.d64_files.specs.Ownership.{owned_by, HasItsChains}
use Rattle.d64_files.specs.Slot.{HasKind}
use Rattle.d64_files.specs.declared.dir_fault.DirFault.TheVariants.{WrongCounts, NoDirectory, UnknownKind, NoChain, CrossLinked, MarkedFree}
use Rattle.d64_effects.specs.View.{IsSound, slot_view, view}
use Rattle.d64_files.specs.DiskHeader.{disk_field, disk_id}
use Rattle.d64_effects.proofs.DirectoryEntries.{link_same, directory-same, slots-same}
use Rattle.d64_effects.proofs.FormattedDisks.{part-map_for}
use Rattle.d64_effects.proofs.Frames.{Agree, Framed, framed, owned_by-same, slot_view-same, HasItsChains-same}
use Rattle.d64_effects.proofs.NewDirectory.{other_block}
use Rattle.d64_effects.proofs.Occurrences.{tally, occurs, occurs-distinct, distinct-from_occurs, All-from_occurs, joined}
use Rattle.d64_effects.proofs.Rows.{map-same, joined-map}
use Rattle.d64_effects.proofs.SlotChanges.{SlotsChanged}
use Rattle.d64_effects.proofs.TakenBlocks.{occurs-owned}

-- an image with other slots, another map, and this field of the name and this id, whose directory
-- and files stay in their places
pub record AlteredTo (image other cells : List (List ℕ)) (free : set.FinSet nat_cmp) (field code : List ℕ) : Type 0 where
  pub is_image : IsImage other
  pub long : length other ≡ length image
  pub counts : CountsFit other
  pub marked : free_blocks other ≡ free
  pub blocks : directory other ≡ directory image
  pub entries : slots other ≡ cells
  pub kept : (block : ℕ) → block ≢ map_block → occurs block (directory image) ≡ 0 → sector_at other block ≡ sector_at image block
  pub name : disk_field other ≡ field
  pub id : disk_id other ≡ code

-- one whose name and id stay
abbrev pub Altered : List (List ℕ) → List (List ℕ) → List (List ℕ) → set.FinSet nat_cmp → Type 0
Altered image other cells free = AlteredTo image other cells free (disk_field image) (disk_id image)

-- the map's block decides which blocks are free
free_blocks-same : (image other : List (List ℕ)) → length other ≡ length image → sector_at other map_block ≡ sector_at image map_block
    → free_blocks other ≡ free_blocks image
unfolding free_blocks is_free
free_blocks-same image other long e =
    ap₂ (λ (n : ℕ) (bytes : List ℕ). set.from_list {R = nat_cmp} (filter (λ block. bit_in bytes (pair_at block).0 (pair_at block).1 == 1) (range_with_len 0 n))) long e

-- the image with changed slots and an unchanged map
pub same_map : (image one cells : List (List ℕ)) → SlotsChanged image one cells → occurs map_block (directory image) ≡ 0 → CountsFit image
    → Altered image one cells (free_blocks image)
same_map image one cells changed apart fit =
    let e : sector_at one map_block ≡ sector_at image map_block = changed.kept map_block apart in
    let free = free_blocks-same image one changed.long e in
    record {
      is_image = changed.is_image;
      long = changed.long;
      counts = record {
        each = λ track from to.
            ap (λ (bytes : List ℕ). get_or bytes (map_entry_place track) 0) e ∙ fit.each track from (subst (λ (n : ℕ). track ≤ tracks_of n) changed.long to)
            ∙ ap (λ (members : set.FinSet nat_cmp). members_on members track) (sym free);
      };
      marked = free;
      blocks = changed.blocks;
      entries = changed.entries;
      kept = λ block other absent. changed.kept block absent;
      name = ap (λ (bytes : List ℕ). take 16 (drop 0x90 bytes)) e;
      id = ap (λ (bytes : List ℕ). take 2 (drop 0xA2 bytes)) e;
    }

-- the image with changed slots and the map of a set
module _ (image one cells : List (List ℕ)) (free : set.FinSet nat_cmp) (is : IsImage image) (some : directory image ≢ [])
    (changed : SlotsChanged image one cells) (apart : occurs map_block (directory image) ≡ 0) (members : MembersAreBelow (length image) free) where
  has_map_block : map_block < length one
  has_map_block = let e = changed.is_image.0 in omega arith

  within : MembersAreBelow (length one) free
  within = subst (λ (n : ℕ). MembersAreBelow n free) (sym changed.long) members

  listed_sector : (block : ℕ) → list_any (nat_eq block) (directory one) ≡ true → sector_at (with_map one free) block ≡ sector_at one block
  listed_sector block found =
      sector_at-with_map-other one free block
      (λ e. other_block map_block block (directory one) (ap (occurs map_block) changed.blocks ∙ apart) found (sym e))

  same_directory : directory (with_map one free) ≡ directory one
  same_directory =
      directory-same one (with_map one free) (λ e. some (sym changed.blocks ∙ e)) (length-with_map one free)
      (λ block found. link_same one (with_map one free) block (listed_sector block found))

  same_slots : slots (with_map one free) ≡ slots one
  same_slots = ap (slots_in (with_map one free)) same_directory ∙ slots-same one (with_map one free) (directory one) listed_sector

  same_part : (n count : ℕ) → 144 ≤ n → n + count ≤ 192 → take count (drop n (sector_at (with_map one free) map_block)) ≡ take count (drop n (sector_at image map_block))
  same_part n count past before =
      let inside : map_block < length image = let l = is.0 in omega arith in
      let tracks : ℕ = tracks_of (length one) in
      ap (λ (bytes : List ℕ). take count (drop n bytes))
      (sector_at-with_map one free has_map_block ∙ ap (λ (old : List ℕ). map_for tracks old free) (changed.kept map_block apart))
      ∙ part-map_for tracks (sector_at image map_block) free n count (is.1 map_block [] inside).0 past before

  pub remapped : Altered image (with_map one free) cells free
  remapped = record {
    is_image = IsImage-with_map one free changed.is_image;
    long = length-with_map one free ∙ changed.long;
    counts = counts-with_map one free changed.is_image.0 within;
    marked = free_blocks-with_map one free changed.is_image.0 within;
    blocks = same_directory ∙ changed.blocks;
    entries = same_slots ∙ changed.entries;
    kept = λ block other absent. sector_at-with_map-other one free block other ∙ changed.kept block absent;
    name = same_part 0x90 16 (omega arith) (omega arith);
    id = same_part 0xA2 2 (omega arith) (omega arith);
  }

-- the directory of an image that has no cross-linked blocks doesn't hold the map's
pub map_not_listed : (image : List (List ℕ)) → IsDistinct nat_eq (owned_blocks image) → occurs map_block (directory image) ≡ 0
map_not_listed image distinct =
    let own = occurs-owned image map_block in
    let once = occurs-distinct (owned_blocks image) distinct map_block in
    let f : tally (eqb map_block map_block) ≡ 1 = ap tally (eq-eqb map_block map_block refl) in
    omega arith

-- how often a block is the map's, or among those of the directory and of these slots
abbrev pub held_by : List (List ℕ) → List (List ℕ) → ℕ → ℕ
held_by image cells q = tally (eqb q map_block) + (occurs q (directory image) + occurs q (flat_map (owned_by image) cells))

-- no block is held twice, and the slots lack no chain
module _ {field code : List ℕ} (image other cells : List (List ℕ)) (free : set.FinSet nat_cmp) (is : IsImage image) (some : directory image ≢ [])
    (left : AlteredTo image other cells free field code) (chains : All (HasItsChains image) cells)
    (once : (q : ℕ) → held_by image cells q ≤ 1) where
  agree : Agree image other (flat_map (owned_by image) cells)
  agree q there =
      let one = once q in
      left.kept q (λ e. let f : tally (eqb q map_block) ≡ 1 = ap tally (eq-eqb q map_block e) in omega arith) (omega arith)

  slots_framed : All (Framed image other) cells
  slots_framed = framed image other cells chains agree

  same_length : length other ≡ length image
  same_length = left.long

  owned_as_before : map (owned_by other) cells ≡ map (owned_by image) cells
  owned_as_before =
      map-same (owned_by other) (owned_by image) cells
      (All-weaker (Framed image other) (λ cell. owned_by other cell ≡ owned_by image cell)
      (λ cell f. owned_by-same image other cell f.0 same_length f.1) cells slots_framed)

  shown_as_before : map (slot_view other) cells ≡ map (slot_view image) cells
  shown_as_before =
      map-same (slot_view other) (slot_view image) cells
      (All-weaker (Framed image other) (λ cell. slot_view other cell ≡ slot_view image cell)
      (λ cell f. slot_view-same image other cell f.0 same_length f.1) cells slots_framed)

  -- a block is owned as often as by these slots before
  occurs-owned_after : (q : ℕ) → occurs q (owned_blocks other) ≡ held_by image cells q
  occurs-owned_after q =
      let after = occurs-owned other q in
      let listed = ap (occurs q) left.blocks in
      let files : occurs q (flat_map (owned_by other) (slots other)) ≡ occurs q (flat_map (owned_by image) cells) =
      ap (λ (rows : List (List ℕ)). occurs q (flat_map (owned_by other) rows)) left.entries
      ∙ ap (occurs q) (sym (joined-map (owned_by other) cells) ∙ ap joined owned_as_before ∙ joined-map (owned_by image) cells) in
      omega arith

  distinct_after : IsDistinct nat_eq (owned_blocks other)
  distinct_after = distinct-from_occurs (owned_blocks other) (λ q.
      let after = occurs-owned_after q in
      let one = once q in
      omega arith)

  -- so the image is sound, if no block of these is marked free
  pub sound_held : All HasKind cells → ((q : ℕ) → 1 ≤ held_by image cells q → set.contains free q ≡ false) → IsSound other
  sound_held kinds unfree WrongCounts from to = left.counts
  sound_held kinds unfree NoDirectory from to = λ e. some (sym left.blocks ∙ e)
  sound_held kinds unfree UnknownKind from to = subst (All HasKind) (sym left.entries) kinds
  sound_held kinds unfree NoChain from to =
      subst (All (HasItsChains other)) (sym left.entries)
      (All-weaker (Framed image other) (HasItsChains other) (λ cell f. HasItsChains-same image other cell f.0 same_length f.1) cells slots_framed)
  sound_held kinds unfree CrossLinked from to = distinct_after
  sound_held kinds unfree MarkedFree from to = All-from_occurs (λ block. set.contains (free_blocks other) block ≡ false) (owned_blocks other) (λ q there.
      let after = occurs-owned_after q in
      ap (λ (members : set.FinSet nat_cmp). set.contains members q) left.marked ∙ unfree q (omega arith))

  -- and shows what these slots show
  pub view_held : view other ≡ record {
    count = length image;
    name = field;
    id = code;
    directory = directory image;
    slots = map (slot_view image) cells;
    free = free;
  }
  unfolding view
  view_held =
      let shown = ap (map (slot_view other)) left.entries ∙ shown_as_before in
      λ i. record { count = left.long i; name = left.name i; id = left.id i; directory = left.blocks i; slots = shown i; free = left.marked i }

-- the slots own no more than before, and lack no chain
module _ {field code : List ℕ} (image other cells : List (List ℕ)) (free : set.FinSet nat_cmp) (is : IsImage image) (some : directory image ≢ [])
    (distinct : IsDistinct nat_eq (owned_blocks image)) (left : AlteredTo image other cells free field code) (chains : All (HasItsChains image) cells)
    (fewer : (q : ℕ) → occurs q (flat_map (owned_by image) cells) ≤ occurs q (flat_map (owned_by image) (slots image))) where
  no_more : (q : ℕ) → held_by image cells q ≤ 1
  no_more q =
      let before = occurs-owned image q in
      let once = occurs-distinct (owned_blocks image) distinct q in
      let less = fewer q in
      omega arith

  pub sound_after : All HasKind cells → ((q : ℕ) → 1 ≤ held_by image cells q → set.contains free q ≡ false) → IsSound other
  sound_after kinds unfree = sound_held image other cells free is some left chains no_more kinds unfree

  pub view_after : view other ≡ record {
    count = length image;
    name = field;
    id = code;
    directory = directory image;
    slots = map (slot_view image) cells;
    free = free;
  }
  view_after = view_held image other cells free is some left chains no_more
