-- a file that was deleted comes back
use Rattle.std.proofs.Common.{◌≡◌, ◌≢◌, ℕ, ◌+◌, ◌*◌, ◌%◌, ◌/◌, ◌<◌, ◌≤◌, ◌||◌, Bool, true, false, not, cond, nat_eq, eqb, eq-eqb, List, [], ◌∷◌, length, map, get_or, set, Option, refl, sym, ap, ap₂, ◌∙◌, subst, inl, inr, arith, append-nil}
use Rattle.std.specs.Prelude.{◌&&◌, All}
use Rattle.std.specs.List.{flat_map, list_any, range_with_len, IsDistinct}
use Rattle.std.specs.Option.{option_map_or}
use Rattle.std.specs.Ordering.{nat_cmp}
use Rattle.std.specs.Cmp.{nat_cmp_total}
use Rattle.std.specs.FinSet as set
use Rattle.std.specs.FinSet.{same_set, nat_cmp-IsAntisymmetric}
use Rattle.std.proofs.lemmas.Bool.{cases_lt, or_cases}
use Rattle.std.proofs.lemmas.Grind.{same_number_lists}
use Rattle.std.proofs.lemmas.List.{get_or-map, get_or-set_same, get_or-set_other, set-set, set_comm, set-get_or, length-map, length-set}
use Rattle.std.proofs.lemmas.List.Elements.{All-nil, All-cons, All-head, All-get_or}
use Rattle.std.proofs.lemmas.Option.{slice_get-get_or}
use Rattle.d64_image.specs.BlockSet.{MembersAreBelow}
use Rattle.d64_image.specs.Image.{IsImage, tracks_of, sector_at}
use Rattle.d64_map.specs.Map.{map_block, free_blocks, is_entry, map_byte, map_for, with_map}
use Rattle.d64_map.proofs.Maps.{elsewhere, sector_at-with_map-other}
use Rattle.d64_files.specs.Writing.{written_at}
use Rattle.d64_files.proofs.WrittenBytes.{length-written_at}
use Rattle.d64_files.specs.Clearing.{with_cleared_slot, closed_type, with_type}
use Rattle.d64_files.specs.Directory.{directory, slots, slot_owns, owned_blocks}
use Rattle.d64_files.specs.Ownership.{roots, chain_at, owned_by, HasItsChains}
use Rattle.d64_files.specs.Slot.{type_byte, is_used, first_pair}
use Rattle.d64_files.specs.Writing.{slot_block}
use Rattle.d64_files.specs.declared.dir_fault.DirFault.TheVariants.{NoChain, CrossLinked}
use Rattle.d64_files.specs.declared.kind.Kind.{Kind}
use Rattle.d64_files.proofs.Chains.{chain_from-lies}
use Rattle.d64_files.proofs.SlotLists.{slot_at_place}
use Rattle.d64_effects.specs.Clear.{with_freed}
use Rattle.d64_effects.specs.Delete.{is_scratched_slot, scratched_slots, without_files, scratched_disk}
use Rattle.d64_effects.specs.Laws.{IsWritable}
use Rattle.d64_effects.specs.Undelete.{cell_at, chain_left, undeleted_disk, CanComeBack}
use Rattle.d64_effects.specs.UndeleteLaws.{DeletedFileComesBack}
use Rattle.d64_effects.specs.View.{IsSound, view}
use Rattle.d64_effects.specs.Write.{blocks_without}
use Rattle.d64_effects.proofs.AlteredDisks.{Altered, remapped, map_not_listed, view_after}
use Rattle.d64_effects.proofs.ClearedDisks.{contains-with_freed, is_used-cleared}
use Rattle.d64_effects.proofs.Clearing.{slots_where-are_slots}
use Rattle.d64_effects.proofs.DirectoryEntries.{get_or-written_before, get_or-written_within, get_or-written_past, get_or-cell, slot_block-is_held, slot_block-within, slot_place, block_at}
use Rattle.d64_effects.proofs.Frames.{chain_at-same}
use Rattle.d64_effects.proofs.NewDirectory.{has_directory, other_block}
use Rattle.d64_effects.proofs.Occurrences.{occurs, tally, joined, occurs-set, occurs-from_All, occurs-present, present-from_occurs, All-from_occurs}
use Rattle.d64_effects.proofs.Rows.{joined-map}
use Rattle.d64_effects.proofs.SlotChanges.{SlotsChanged, slots_sized, slot_changed}
use Rattle.d64_effects.proofs.TakenBlocks.{occurs-owned, owned_once, owned_not_free, contains-blocks_without, free_is_block}
use Rattle.d64_effects.proofs.UndeletedDisks.{now_owns, now_roots}

-- a byte that is written over another one
over : (bytes : List ℕ) (start x y : ℕ) → start < length bytes
    → written_at (written_at bytes start (x ∷ [])) start (y ∷ []) ≡ written_at bytes start (y ∷ [])
over bytes start x y inside =
    let w : List ℕ = written_at bytes start (x ∷ []) in
    let l : length (written_at bytes start (x ∷ [])) ≡ length bytes = length-written_at bytes (x ∷ []) start (omega arith) in
    let m = length-written_at (written_at bytes start (x ∷ [])) (y ∷ []) start (omega arith) in
    let n = length-written_at bytes (y ∷ []) start (omega arith) in
    same_number_lists (written_at w start (y ∷ [])) (written_at bytes start (y ∷ [])) (omega arith) (λ k h.
    elim (cases_lt k start) [
      | inl below ↦
          get_or-written_before w (y ∷ []) start k (omega arith) below ∙ get_or-written_before bytes (x ∷ []) start k (omega arith) below
          ∙ sym (get_or-written_before bytes (y ∷ []) start k (omega arith) below)
      | inr above ↦ elim (cases_lt start k) [
        | inl past ↦
            get_or-written_past w (y ∷ []) start k (omega arith) (omega arith) ∙ get_or-written_past bytes (x ∷ []) start k (omega arith) (omega arith)
            ∙ sym (get_or-written_past bytes (y ∷ []) start k (omega arith) (omega arith))
        | inr within ↦
            let e : k ≡ start + 0 = omega arith in
            ap (λ (j : ℕ). get_or (written_at w start (y ∷ [])) j 0) e ∙ get_or-written_within w (y ∷ []) start 0 (omega arith) (omega arith)
            ∙ sym (ap (λ (j : ℕ). get_or (written_at bytes start (y ∷ [])) j 0) e ∙ get_or-written_within bytes (y ∷ []) start 0 (omega arith) (omega arith))
      ]
    ])

-- a byte that is written over itself
pub rewritten : (bytes : List ℕ) (start byte : ℕ) → start < length bytes → get_or bytes start 0 ≡ byte → written_at bytes start (byte ∷ []) ≡ bytes
rewritten bytes start byte inside is =
    let n = length-written_at bytes (byte ∷ []) start (omega arith) in
    same_number_lists (written_at bytes start (byte ∷ [])) bytes (omega arith) (λ k h.
    elim (cases_lt k start) [
      | inl below ↦ get_or-written_before bytes (byte ∷ []) start k (omega arith) below
      | inr above ↦ elim (cases_lt start k) [
        | inl past ↦ get_or-written_past bytes (byte ∷ []) start k (omega arith) (omega arith)
        | inr within ↦
            let e : k ≡ start + 0 = omega arith in
            let f : start ≡ k = omega arith in
            ap (λ (j : ℕ). get_or (written_at bytes start (byte ∷ [])) j 0) e ∙ get_or-written_within bytes (byte ∷ []) start 0 (omega arith) (omega arith)
            ∙ sym is ∙ ap (λ (j : ℕ). get_or bytes j 0) f
      ]
    ])

pub over_again : (bytes : List ℕ) (start x byte : ℕ) → start < length bytes → get_or bytes start 0 ≡ byte
    → written_at (written_at bytes start (x ∷ [])) start (byte ∷ []) ≡ bytes
over_again bytes start x byte inside is = over bytes start x byte inside ∙ rewritten bytes start byte inside is

-- a map that is written over another one
pub map_again : (tracks : ℕ) (bytes : List ℕ) (first second : set.FinSet nat_cmp) → length bytes ≡ 256
    → map_for tracks (map_for tracks bytes first) second ≡ map_for tracks bytes second
unfolding map_for
map_again tracks bytes first second long = λ i. map (λ place. at place (is_entry tracks place) refl i) (range_with_len 0 256)
  where
    at : (place : ℕ) (inside : Bool) → is_entry tracks place ≡ inside
        → cond (is_entry tracks place) (map_byte second place) (get_or (map_for tracks bytes first) place 0)
        ≡ cond (is_entry tracks place) (map_byte second place) (get_or bytes place 0)
    at place true e =
        ap (λ (b : Bool). cond b (map_byte second place) (get_or (map_for tracks bytes first) place 0)) e
        ∙ sym (ap (λ (b : Bool). cond b (map_byte second place) (get_or bytes place 0)) e)
    at place false e = ap (λ (byte : ℕ). cond (is_entry tracks place) (map_byte second place) byte) (elsewhere tracks bytes first place long e)

-- a block that was written and is written back, with another one written between
block_back : (image : List (List ℕ)) (block other : ℕ) (y z : List ℕ) → block ≢ other
    → set (set (set image block y) other z) block (get_or image block []) ≡ set image other z
block_back image block other y z apart =
    sym (set_comm (set image block y) block other (get_or image block []) z apart)
    ∙ ap (λ (i : List (List ℕ)). set i other z) (set-set image block y (get_or image block []) ∙ set-get_or image block [])

-- the map that is written last is the map
map_over : (image : List (List ℕ)) (first second : set.FinSet nat_cmp) → map_block < length image → length (sector_at image map_block) ≡ 256
    → with_map (with_map image first) second ≡ with_map image second
unfolding with_map
map_over image first second inside long =
    let tracks : ℕ = tracks_of (length image) in
    let z : List ℕ = map_for tracks (sector_at image map_block) first in
    ap₂ (λ (n : ℕ) (bytes : List ℕ). set (set image map_block z) map_block (map_for (tracks_of n) bytes second)) (length-set image map_block z) (get_or-set_same image map_block z [] inside)
    ∙ set-set image map_block z (map_for tracks z second)
    ∙ ap (set image map_block) (map_again tracks (sector_at image map_block) first second long)

-- a block that was taken out of a set, and put back before
settle : (p f : Bool) → (p ≡ true → f ≡ false) → (not p && (p || f)) ≡ f
settle true f h = sym (h refl)
settle false f h = refl

-- a part of lists is as often there as in all of them, at most
part_of : (q : ℕ) (rows : List (List ℕ)) (place : ℕ) → place < length rows → occurs q (get_or rows place []) ≤ occurs q (joined rows)
part_of q rows place within =
    let part : List ℕ = get_or rows place [] in
    let bare : List (List ℕ) = set rows place [] in
    let long : length bare ≡ length rows = length-set rows place [] in
    let there : place < length bare = omega arith in
    let whole : set bare place part ≡ rows = set-set rows place [] part ∙ set-get_or rows place [] in
    let e = sym (ap (λ (r : List (List ℕ)). occurs q (joined r)) whole) ∙ occurs-set q bare place part there (get_or-set_same rows place [] [] within) in
    omega arith

-- the blocks of a chain are those of the image
chain_within : (image : List (List ℕ)) (root : ℕ × ℕ) → All (λ block. block < length image) (chain_at image root)
chain_within image root = chain_from-lies image root.0 root.1

-- one file is deleted on a sound image, a closed one that isn't locked
module _ (image : List (List ℕ)) (slot : ℕ) (kind : Kind) (is : IsImage image) (sound : IsSound image) (writable : IsWritable kind)
    (there : slot < length (slots image)) (typed_so : type_byte (cell_at image slot) ≡ closed_type kind) where
  some : directory image ≢ []
  some = has_directory image sound

  long : length (cell_at image slot) ≡ 32
  long = All-get_or (λ cell. length cell ≡ 32) (slots image) slot [] there (slots_sized image is some)

  no_repeats : IsDistinct nat_eq (owned_blocks image)
  no_repeats = sound CrossLinked (omega arith) (omega arith)

  same_cell : written_at (cell_at image slot) 2 (closed_type kind ∷ []) ≡ cell_at image slot
  same_cell = rewritten (cell_at image slot) 2 (closed_type kind) (let l = long in omega arith) typed_so

  -- the file's chain is what its slot owns
  owns : owned_by image (cell_at image slot) ≡ chain_left image slot
  owns = ap (owned_by image) (sym same_cell) ∙ now_owns (cell_at image slot) kind long writable image

  has_chain : chain_left image slot ≢ []
  has_chain none =
      let has : HasItsChains image (cell_at image slot) = All-get_or (HasItsChains image) (slots image) slot [] there (sound NoChain (omega arith) (omega arith)) in
      let P : ℕ × ℕ → Type 0 = λ root. chain_at image root ≢ [] in
      let one : roots (cell_at image slot) ≡ first_pair (cell_at image slot) ∷ [] = ap roots (sym same_cell) ∙ now_roots (cell_at image slot) kind long writable in
      All-head P (first_pair (cell_at image slot)) [] (subst (All P) one has) none

  owned_part : (q : ℕ) → occurs q (chain_left image slot) ≤ occurs q (flat_map (owned_by image) (slots image))
  owned_part q =
      let rows : List (List ℕ) = map (owned_by image) (slots image) in
      let l = length-map (slots image) (owned_by image) in
      let part = part_of q rows slot (omega arith) in
      let here = ap (occurs q) (get_or-map (owned_by image) (slots image) slot [] [] there ∙ owns) in
      let all = ap (occurs q) (joined-map (owned_by image) (slots image)) in
      omega arith

  given : flat_map (slot_owns image) (slot ∷ []) ≡ chain_left image slot
  given =
      append-nil (slot_owns image slot)
      ∙ ap (λ (cell : Option (List ℕ)). option_map_or (owned_by image) cell []) (slice_get-get_or (slots image) slot [] there) ∙ owns

  changed : SlotsChanged image (with_cleared_slot image slot) (set (slots image) slot (written_at (cell_at image slot) 2 (0 ∷ [])))
  unfolding with_cleared_slot
  changed =
      slot_changed image slot 2 (32 * (slot % 8) + 2) (0 ∷ []) is there refl (omega arith) (omega arith)
      (All-cons (λ byte. byte < 256) 0 [] (omega arith) (All-nil (λ byte. byte < 256)))

  apart : (q : ℕ) → 1 ≤ occurs q (chain_left image slot) → (q ≢ map_block) × (occurs q (directory image) ≡ 0)
  apart q held =
      let own = occurs-owned image q in
      let once = owned_once image sound q in
      let part = owned_part q in (
        λ e. let f : tally (eqb q map_block) ≡ 1 = ap tally (eq-eqb q map_block e) in omega arith,
        omega arith,
      )

  chain_owned : (q : ℕ) → 1 ≤ occurs q (chain_left image slot) → set.contains (free_blocks image) q ≡ false
  chain_owned q held = owned_not_free image sound q (let own = occurs-owned image q in let part = owned_part q in omega arith)

  members : MembersAreBelow (length image) (with_freed (free_blocks image) (chain_left image slot))
  members q member =
      elim (or_cases (list_any (nat_eq q) (chain_left image slot)) (set.contains (free_blocks image) q) (sym (contains-with_freed (free_blocks image) (chain_left image slot) q) ∙ member)) [
        | inl back ↦
            occurs-from_All (λ block. block < length image) (chain_left image slot) q (chain_within image (first_pair (cell_at image slot)))
            (occurs-present q (chain_left image slot) back)
        | inr free ↦ free_is_block image q free
      ]

  deleted : Altered image (with_map (with_cleared_slot image slot) (with_freed (free_blocks image) (chain_left image slot)))
      (set (slots image) slot (written_at (cell_at image slot) 2 (0 ∷ []))) (with_freed (free_blocks image) (chain_left image slot))
  deleted =
      remapped image (with_cleared_slot image slot) (set (slots image) slot (written_at (cell_at image slot) 2 (0 ∷ [])))
      (with_freed (free_blocks image) (chain_left image slot)) is some changed (map_not_listed image no_repeats) members

  cell_after : cell_at (with_map (with_cleared_slot image slot) (with_freed (free_blocks image) (chain_left image slot))) slot ≡ written_at (cell_at image slot) 2 (0 ∷ [])
  cell_after = ap (λ (cells : List (List ℕ)). get_or cells slot []) deleted.entries ∙ get_or-set_same (slots image) slot (written_at (cell_at image slot) 2 (0 ∷ [])) [] there

  pair_after : first_pair (cell_at (with_map (with_cleared_slot image slot) (with_freed (free_blocks image) (chain_left image slot))) slot) ≡ first_pair (cell_at image slot)
  pair_after =
      ap first_pair cell_after
      ∙ ap₂ (λ (track sector : ℕ). (track, sector)) (get_or-written_past (cell_at image slot) (0 ∷ []) 2 3 (let l = long in omega arith) (omega arith))
      (get_or-written_past (cell_at image slot) (0 ∷ []) 2 4 (let l = long in omega arith) (omega arith))

  chain_after : chain_left (with_map (with_cleared_slot image slot) (with_freed (free_blocks image) (chain_left image slot))) slot ≡ chain_left image slot
  chain_after =
      ap (chain_at (with_map (with_cleared_slot image slot) (with_freed (free_blocks image) (chain_left image slot)))) pair_after
      ∙ chain_at-same image (with_map (with_cleared_slot image slot) (with_freed (free_blocks image) (chain_left image slot))) (first_pair (cell_at image slot)) has_chain deleted.long
      (λ q held. let a = apart q held in deleted.kept q a.0 a.1)

  freed : All (λ block. set.contains (with_freed (free_blocks image) (chain_left image slot)) block ≡ true) (chain_left image slot)
  freed =
      All-from_occurs (λ block. set.contains (with_freed (free_blocks image) (chain_left image slot)) block ≡ true) (chain_left image slot)
      (λ q held. contains-with_freed (free_blocks image) (chain_left image slot) q
      ∙ ap (λ (b : Bool). b || set.contains (free_blocks image) q) (present-from_occurs q (chain_left image slot) held))

  pub can_come_back : CanComeBack (with_map (with_cleared_slot image slot) (with_freed (free_blocks image) (chain_left image slot))) slot
  can_come_back = record {
    there = subst (λ (cells : List (List ℕ)). slot < length cells) (sym deleted.entries) (let l = length-set (slots image) slot (written_at (cell_at image slot) 2 (0 ∷ [])) in omega arith);
    unused = ap is_used cell_after ∙ is_used-cleared (cell_at image slot) long;
    chain = λ none. has_chain (sym chain_after ∙ none);
    free = subst (λ (blocks : List ℕ). All (λ block. set.contains (free_blocks (with_map (with_cleared_slot image slot) (with_freed (free_blocks image) (chain_left image slot)))) block ≡ true) blocks) (sym chain_after)
        (subst (λ (members : set.FinSet nat_cmp). All (λ block. set.contains members block ≡ true) (chain_left image slot)) (sym deleted.marked) freed);
  }

  free_after : blocks_without (free_blocks (with_map (with_cleared_slot image slot) (with_freed (free_blocks image) (chain_left image slot))))
      (chain_left (with_map (with_cleared_slot image slot) (with_freed (free_blocks image) (chain_left image slot))) slot) ≡ free_blocks image
  free_after =
      ap₂ blocks_without deleted.marked chain_after
      ∙ same_set nat_cmp_total nat_cmp-IsAntisymmetric _ _ (λ q.
      contains-blocks_without (with_freed (free_blocks image) (chain_left image slot)) (chain_left image slot) q
      ∙ ap (λ (b : Bool). not (list_any (nat_eq q) (chain_left image slot)) && b) (contains-with_freed (free_blocks image) (chain_left image slot) q)
      ∙ settle (list_any (nat_eq q) (chain_left image slot)) (set.contains (free_blocks image) q) (λ present. chain_owned q (occurs-present q (chain_left image slot) present)))

  block_apart : slot_block image slot ≢ map_block
  block_apart e = other_block map_block (slot_block image slot) (directory image) (map_not_listed image no_repeats) (slot_block-is_held image slot there) (sym e)

  block_there : slot_block image slot < length image
  block_there = slot_block-within image slot some there

  whole_block : length (sector_at image (slot_block image slot)) ≡ 256
  whole_block = (block_at image (slot_block image slot) is block_there).0

  old_byte : get_or (sector_at image (slot_block image slot)) (32 * (slot % 8) + 2) 0 ≡ closed_type kind
  old_byte =
      sym (get_or-cell (sector_at image (slot_block image slot)) (slot % 8) 2 (omega arith))
      ∙ ap (λ (c : List ℕ). get_or c 2 0) (sym (slot_at_place image (directory image) slot (slot_place image slot there))) ∙ typed_so

  sector_after : sector_at (with_map (with_cleared_slot image slot) (with_freed (free_blocks image) (chain_left image slot))) (slot_block image slot)
      ≡ written_at (sector_at image (slot_block image slot)) (32 * (slot % 8) + 2) (0 ∷ [])
  unfolding with_cleared_slot
  sector_after =
      sector_at-with_map-other (with_cleared_slot image slot) (with_freed (free_blocks image) (chain_left image slot)) (slot_block image slot) block_apart
      ∙ get_or-set_same image (slot_block image slot) (written_at (sector_at image (slot_block image slot)) (32 * (slot % 8) + 2) (0 ∷ [])) [] block_there

  byte_back : written_at (sector_at (with_map (with_cleared_slot image slot) (with_freed (free_blocks image) (chain_left image slot))) (slot_block image slot)) (32 * (slot % 8) + 2) (closed_type kind ∷ [])
      ≡ sector_at image (slot_block image slot)
  byte_back =
      ap (λ (bytes : List ℕ). written_at bytes (32 * (slot % 8) + 2) (closed_type kind ∷ [])) sector_after
      ∙ over_again (sector_at image (slot_block image slot)) (32 * (slot % 8) + 2) 0 (closed_type kind) (let w = whole_block in omega arith) old_byte

  type_back : with_type (with_map (with_cleared_slot image slot) (with_freed (free_blocks image) (chain_left image slot))) slot kind
      ≡ with_map image (with_freed (free_blocks image) (chain_left image slot))
  unfolding with_type with_map with_cleared_slot
  type_back =
      let block : ℕ = slot_block image slot in
      let y : List ℕ = written_at (sector_at image block) (32 * (slot % 8) + 2) (0 ∷ []) in
      let less : set.FinSet nat_cmp = with_freed (free_blocks image) (chain_left image slot) in
      let here : slot_block (with_map (with_cleared_slot image slot) less) slot ≡ block = ap (λ (blocks : List ℕ). get_or blocks (slot / 8) 0) deleted.blocks in
      let tracks = ap tracks_of (length-set image block y) in
      let head : sector_at (set image block y) map_block ≡ sector_at image map_block = get_or-set_other image block map_block y [] (λ e. block_apart (sym e)) in
      ap (λ (b : ℕ). set (with_map (with_cleared_slot image slot) less) b (written_at (sector_at (with_map (with_cleared_slot image slot) less) b) (32 * (slot % 8) + 2) (closed_type kind ∷ []))) here
      ∙ ap (set (with_map (with_cleared_slot image slot) less) block) byte_back
      ∙ block_back image block map_block y (map_for (tracks_of (length (set image block y))) (sector_at (set image block y) map_block) less) block_apart
      ∙ ap₂ (λ (n : ℕ) (bytes : List ℕ). set image map_block (map_for n bytes less)) tracks head

  pub deleted-comes_back : undeleted_disk (with_map (with_cleared_slot image slot) (with_freed (free_blocks image) (chain_left image slot))) slot kind
      ≡ with_map image (free_blocks image)
  unfolding undeleted_disk
  deleted-comes_back =
      ap₂ with_map type_back free_after
      ∙ map_over image (with_freed (free_blocks image) (chain_left image slot)) (free_blocks image) (let l = is.0 in omega arith)
      (block_at image map_block is (let l = is.0 in omega arith)).0

-- so on disks from which patterns deleted one file
pub comes-back : DeletedFileComesBack
unfolding scratched_disk
comes-back image patterns slot kind is sound writable typed_so one =
    let there : slot < length (slots image) =
    All-head (λ number. number < length (slots image)) slot [] (subst (All (λ number. number < length (slots image))) one (slots_where-are_slots (is_scratched_slot patterns) (slots image))) in
    let same : without_files image (scratched_slots image patterns) ≡ with_map (with_cleared_slot image slot) (with_freed (free_blocks image) (chain_left image slot)) =
    ap (without_files image) one ∙ ap (λ (blocks : List ℕ). with_map (with_cleared_slot image slot) (with_freed (free_blocks image) blocks)) (given image slot kind is sound writable there typed_so) in (
      subst (λ (disk : List (List ℕ)). CanComeBack disk slot) (sym same) (can_come_back image slot kind is sound writable there typed_so),
      ap (λ (disk : List (List ℕ)). undeleted_disk disk slot kind) same ∙ deleted-comes_back image slot kind is sound writable there typed_so,
    )

-- what is left of the file: its slot, of which the type byte is cleared, and its chain
pub record LeftBehind (image deleted : List (List ℕ)) (slot : ℕ) : Type 0 where
  pub there : slot < length (slots image)
  pub long : length (cell_at image slot) ≡ 32
  pub entries : slots deleted ≡ set (slots image) slot (written_at (cell_at image slot) 2 (0 ∷ []))
  pub chain : chain_left deleted slot ≡ chain_left image slot

pub left_behind : (image : List (List ℕ)) (patterns : List (List ℕ)) (slot : ℕ) (kind : Kind)
    → IsImage image → IsSound image → IsWritable kind → type_byte (cell_at image slot) ≡ closed_type kind → scratched_slots image patterns ≡ slot ∷ []
    → LeftBehind image (scratched_disk image patterns) slot
unfolding scratched_disk
left_behind image patterns slot kind is sound writable typed_so one =
    let there : slot < length (slots image) =
    All-head (λ number. number < length (slots image)) slot [] (subst (All (λ number. number < length (slots image))) one (slots_where-are_slots (is_scratched_slot patterns) (slots image))) in
    let same : without_files image (scratched_slots image patterns) ≡ with_map (with_cleared_slot image slot) (with_freed (free_blocks image) (chain_left image slot)) =
    ap (without_files image) one ∙ ap (λ (blocks : List ℕ). with_map (with_cleared_slot image slot) (with_freed (free_blocks image) blocks)) (given image slot kind is sound writable there typed_so) in
    record {
      there = there;
      long = long image slot kind is sound writable there typed_so;
      entries = ap slots same ∙ (deleted image slot kind is sound writable there typed_so).entries;
      chain = ap (λ (disk : List (List ℕ)). chain_left disk slot) same ∙ chain_after image slot kind is sound writable there typed_so;
    }

-- a sound image whose map is written anew shows what it did
pub map_anew-shows : (image : List (List ℕ)) → IsImage image → IsSound image → view (with_map image (free_blocks image)) ≡ view image
unfolding view
map_anew-shows image is sound =
    let no_repeats : IsDistinct nat_eq (owned_blocks image) = sound CrossLinked (omega arith) (omega arith) in
    let same : SlotsChanged image image (slots image) = record { is_image = is; long = refl; blocks = refl; entries = refl; kept = λ block absent. refl } in
    view_after image (with_map image (free_blocks image)) (slots image) (free_blocks image) is (has_directory image sound) no_repeats
    (remapped image image (slots image) (free_blocks image) is (has_directory image sound) same (map_not_listed image no_repeats) (λ q member. free_is_block image q member))
    (sound NoChain (omega arith) (omega arith)) (λ q. omega arith)
