-- what a disk with another name is, and what it shows
use Rattle.std.proofs.Common.{◌≡◌, ◌≢◌, ℕ, ◌+◌, ◌-◌, ◌*◌, ◌/◌, ◌%◌, ◌<◌, ◌≤◌, Bool, true, false, cond, ltb, nat_eq, List, [], ◌++◌, length, get_or, take, drop, Option, Some, None, refl, sym, ap, ◌∙◌, subst, inl, inr, arith}
use Rattle.std.specs.Prelude.{◌⊎◌, All, IfSome, unwrap_or}
use Rattle.std.specs.Int.{bit_at}
use Rattle.std.specs.List.{list_any, IsDistinct}
use Rattle.std.specs.Ordering.{nat_cmp}
use Rattle.std.specs.Cmp.{nat_cmp_total}
use Rattle.std.specs.FinSet as set
use Rattle.std.specs.FinSet.{same_set, nat_cmp-IsAntisymmetric}
use Rattle.std.proofs.lemmas.Bool.{cases_lt}
use Rattle.std.proofs.lemmas.Bool.Decides.{nat_tests}
use Rattle.std.proofs.lemmas.Grind.{same_number_lists}
use Rattle.std.proofs.lemmas.List.{get_or-set_same, get_or-set_other, get_or-take, get_or-drop, take_at, drop_at, length-take-le, length-drop, length-set}
use Rattle.std.proofs.lemmas.List.Elements.{All-set, All-append, All-replicate}
use Rattle.std.proofs.Math.ListN.{replicate}
use Rattle.d64_image.specs.Block.{pair_at}
use Rattle.d64_image.specs.Image.{IsBlock, IsImage, IsSize, tracks_of, sector_at}
use Rattle.d64_image.proofs.Sizes.{size_least, size_most}
use Rattle.d64_map.specs.Map.{map_block, map_entry_place, is_free, free_blocks, CountsFit}
use Rattle.d64_map.specs.Track.{members_on}
use Rattle.d64_map.proofs.FreeBlocks.{contains-free_blocks, contains-free_blocks-past}
use Rattle.d64_map.proofs.Maps.{placed_at, sectors_few}
use Rattle.d64_files.specs.Directory.{directory, slots, slots_in, owned_blocks}
use Rattle.d64_files.specs.Name.{IsName, filled_field}
use Rattle.d64_files.specs.Writing.{written_at}
use Rattle.d64_files.specs.declared.dir_fault.DirFault.TheVariants.{WrongCounts, UnknownKind, NoChain, CrossLinked}
use Rattle.d64_files.proofs.WrittenBytes.{length-filled_field}
use Rattle.d64_effects.specs.DiskName.{with_id, labelled, named_disk}
use Rattle.d64_effects.specs.Laws.{AreTwoBytes, NamedIsImage, NamedIsSound, NamedShows}
use Rattle.d64_effects.specs.View.{IsSound, view}
use Rattle.d64_files.specs.DiskHeader.{disk_id}
use Rattle.d64_effects.specs.ViewAfter.{named_view}
use Rattle.d64_effects.proofs.AlteredDisks.{AlteredTo, map_not_listed, sound_after, view_after}
use Rattle.d64_effects.proofs.DirectoryEntries.{get_or-written_before, get_or-written_past, IsBlock-written_at, block_at, link_same, directory-same, slots-same}
use Rattle.d64_effects.proofs.NewDirectory.{has_directory, other_block}
use Rattle.d64_effects.proofs.TakenBlocks.{occurs-owned, owned_not_free}

-- a part that is written over others is there
part_there : (bytes part : List ℕ) (start count : ℕ) → start ≤ length bytes → length part ≡ count → take count (drop start (written_at bytes start part)) ≡ part
unfolding written_at
part_there bytes part start count fits long =
    ap (take count) (drop_at (take start bytes) (part ++ drop (start + length part) bytes) start (length-take-le start bytes fits))
    ∙ take_at part (drop (start + length part) bytes) count long

-- a range of which all bytes are the same
same_range : (one other : List ℕ) (from count : ℕ) → length one ≡ 256 → length other ≡ 256 → from + count ≤ 256
    → ((k : ℕ) → k < count → get_or one (from + k) 0 ≡ get_or other (from + k) 0) → take count (drop from one) ≡ take count (drop from other)
same_range one other from count first second fits alike =
    let a = length-drop from one in
    let b = length-drop from other in
    let c = length-take-le count (drop from one) (omega arith) in
    let d = length-take-le count (drop from other) (omega arith) in
    same_number_lists (take count (drop from one)) (take count (drop from other)) (omega arith) (λ k h.
    let small : k < count = omega arith in
    get_or-take count (drop from one) k 0 small ∙ get_or-drop from one k 0 ∙ alike k small
    ∙ sym (get_or-take count (drop from other) k 0 small ∙ get_or-drop from other k 0))

-- a place of the map's block that is no part of the disk's name or its id
abbrev IsApart : ℕ → Type 0
IsApart place = (place < 0x90) ⊎ (0xA4 ≤ place)

-- the entries of the map are apart
entry_apart : (track part : ℕ) → part < 4 → IsApart (map_entry_place track + part)
unfolding map_entry_place
entry_apart track part small = by_test (ltb track 36) refl
  where
    by_test : (low : Bool) → ltb track 36 ≡ low → IsApart (cond low (4 * track) (4 * track + 0x30) + part)
    by_test true e = inl (let below : track < 36 = grind (arith, nat_tests) in omega arith)
    by_test false e = inr (let above : 36 ≤ track = grind (arith, nat_tests) in omega arith)

-- with another id, if there is one
id_block : (bytes : List ℕ) (id : Option (List ℕ)) → IsBlock bytes → IfSome id AreTwoBytes → IsBlock (with_id bytes id)
id_block bytes None is two = is
id_block bytes (Some id) is two = IsBlock-written_at bytes id 0xA2 is (let l = two.0 in omega arith) two.1

id_kept : (bytes : List ℕ) (id : Option (List ℕ)) (k : ℕ) → length bytes ≡ 256 → IfSome id AreTwoBytes → (k < 0xA2) ⊎ (0xA4 ≤ k)
    → get_or (with_id bytes id) k 0 ≡ get_or bytes k 0
id_kept bytes None k long two out = refl
id_kept bytes (Some id) k long two (inl below) = get_or-written_before bytes id 0xA2 k (omega arith) below
id_kept bytes (Some id) k long two (inr past) = get_or-written_past bytes id 0xA2 k (omega arith) (let l = two.0 in omega arith)

id_there : (bytes : List ℕ) (id : Option (List ℕ)) → length bytes ≡ 256 → IfSome id AreTwoBytes
    → take 2 (drop 0xA2 (with_id bytes id)) ≡ unwrap_or id (take 2 (drop 0xA2 bytes))
id_there bytes None long two = refl
id_there bytes (Some id) long two = part_there bytes id 0xA2 2 (omega arith) two.0

-- a name in its field is made of bytes
field_bytes : (name : List ℕ) → IsName name → All (λ byte. byte < 256) (filled_field name)
field_bytes name named =
    All-append (λ byte. byte < 256) name (replicate (16 - length name) 0xA0) named.in_range (All-replicate (λ byte. byte < 256) (16 - length name) 0xA0 (omega arith))

-- the map's block with another name, and another id
module _ (bytes name : List ℕ) (id : Option (List ℕ)) (is : IsBlock bytes) (named : IsName name) (two : IfSome id AreTwoBytes) where
  first : List ℕ
  first = written_at bytes 0x90 (filled_field name)

  sixteen : length (filled_field name) ≡ 16
  sixteen = length-filled_field name named.short

  first_block : IsBlock (written_at bytes 0x90 (filled_field name))
  first_block = IsBlock-written_at bytes (filled_field name) 0x90 is (let l = sixteen in omega arith) (field_bytes name named)

  IsBlock-labelled : IsBlock (labelled bytes name id)
  unfolding labelled
  IsBlock-labelled = id_block (written_at bytes 0x90 (filled_field name)) id first_block two

  first_kept : (k : ℕ) → (k < 0x90) ⊎ (0xA0 ≤ k) → get_or (written_at bytes 0x90 (filled_field name)) k 0 ≡ get_or bytes k 0
  first_kept k (inl below) = get_or-written_before bytes (filled_field name) 0x90 k (let l = is.0 in omega arith) below
  first_kept k (inr past) = get_or-written_past bytes (filled_field name) 0x90 k (let l = is.0 in omega arith) (let l = sixteen in omega arith)

  labelled-kept : (k : ℕ) → IsApart k → get_or (labelled bytes name id) k 0 ≡ get_or bytes k 0
  unfolding labelled
  labelled-kept k (inl below) = id_kept (written_at bytes 0x90 (filled_field name)) id k first_block.0 two (inl (omega arith)) ∙ first_kept k (inl below)
  labelled-kept k (inr past) = id_kept (written_at bytes 0x90 (filled_field name)) id k first_block.0 two (inr past) ∙ first_kept k (inr (omega arith))

  labelled-name : take 16 (drop 0x90 (labelled bytes name id)) ≡ filled_field name
  unfolding labelled
  labelled-name =
      same_range (with_id (written_at bytes 0x90 (filled_field name)) id) (written_at bytes 0x90 (filled_field name)) 0x90 16
      IsBlock-labelled.0 first_block.0 (omega arith)
      (λ k h. id_kept (written_at bytes 0x90 (filled_field name)) id (0x90 + k) first_block.0 two (inl (omega arith)))
      ∙ part_there bytes (filled_field name) 0x90 16 (let l = is.0 in omega arith) sixteen

  labelled-id : take 2 (drop 0xA2 (labelled bytes name id)) ≡ unwrap_or id (take 2 (drop 0xA2 bytes))
  unfolding labelled
  labelled-id =
      id_there (written_at bytes 0x90 (filled_field name)) id first_block.0 two
      ∙ ap (unwrap_or id)
      (same_range (written_at bytes 0x90 (filled_field name)) bytes 0xA2 2 first_block.0 is.0 (omega arith)
      (λ k h. first_kept (0xA2 + k) (inr (omega arith))))

-- the image with another name, and another id
module _ (image : List (List ℕ)) (name : List ℕ) (id : Option (List ℕ)) (is : IsImage image) (named : IsName name) (two : IfSome id AreTwoBytes) where
  inside : map_block < length image
  inside = let least = size_least (length image) is.0 in omega arith

  whole : IsBlock (sector_at image map_block)
  whole = block_at image map_block is inside

  label : sector_at (named_disk image name id) map_block ≡ labelled (sector_at image map_block) name id
  unfolding named_disk
  label = get_or-set_same image map_block (labelled (sector_at image map_block) name id) [] inside

  others : (block : ℕ) → block ≢ map_block → sector_at (named_disk image name id) block ≡ sector_at image block
  unfolding named_disk
  others block other = get_or-set_other image map_block block (labelled (sector_at image map_block) name id) [] other

  long : length (named_disk image name id) ≡ length image
  unfolding named_disk
  long = length-set image map_block (labelled (sector_at image map_block) name id)

  pub named-stays_image : IsImage (named_disk image name id)
  unfolding named_disk
  named-stays_image = (
    subst IsSize (sym (length-set image map_block (labelled (sector_at image map_block) name id))) is.0,
    All-set IsBlock image map_block (labelled (sector_at image map_block) name id) (IsBlock-labelled (sector_at image map_block) name id whole named two) is.1,
  )

  -- the bytes of the map stay
  byte_kept : (track part : ℕ) → part < 4
      → get_or (sector_at (named_disk image name id) map_block) (map_entry_place track + part) 0 ≡ get_or (sector_at image map_block) (map_entry_place track + part) 0
  byte_kept track part small =
      ap (λ (bytes : List ℕ). get_or bytes (map_entry_place track + part) 0) label
      ∙ labelled-kept (sector_at image map_block) name id whole named two (map_entry_place track + part) (entry_apart track part small)

  is_free-kept : (block : ℕ) → block < length image → is_free (named_disk image name id) block ≡ is_free image block
  unfolding is_free
  is_free-kept block within =
      let most = size_most (length image) is.0 in
      let p = placed_at block (omega arith) in
      let track : ℕ = (pair_at block).0 in
      let sector : ℕ = (pair_at block).1 in
      let few = sectors_few track in
      let held = p.held in
      let place : map_entry_place track + 1 + sector / 8 ≡ map_entry_place track + (1 + sector / 8) = omega arith in
      let byte : get_or (sector_at (named_disk image name id) map_block) (map_entry_place track + 1 + sector / 8) 0
      ≡ get_or (sector_at image map_block) (map_entry_place track + 1 + sector / 8) 0 =
      ap (λ (k : ℕ). get_or (sector_at (named_disk image name id) map_block) k 0) place
      ∙ byte_kept track (1 + sector / 8) (omega arith)
      ∙ sym (ap (λ (k : ℕ). get_or (sector_at image map_block) k 0) place) in
      ap (λ (n : ℕ). nat_eq (bit_at n (sector % 8)) 1) byte

  free : free_blocks (named_disk image name id) ≡ free_blocks image
  free =
      let l = long in
      same_set nat_cmp_total nat_cmp-IsAntisymmetric _ _ (λ q.
      elim (cases_lt q (length image)) [
        | inl h ↦ contains-free_blocks (named_disk image name id) q (omega arith) ∙ is_free-kept q h ∙ sym (contains-free_blocks image q h)
        | inr past ↦ contains-free_blocks-past (named_disk image name id) q (omega arith) ∙ sym (contains-free_blocks-past image q past)
      ])

  counts : CountsFit image → CountsFit (named_disk image name id)
  counts fit = record {
    each = λ track from to.
        let zero_part : map_entry_place track ≡ map_entry_place track + 0 = omega arith in
        ap (λ (k : ℕ). get_or (sector_at (named_disk image name id) map_block) k 0) zero_part
        ∙ byte_kept track 0 (omega arith)
        ∙ sym (ap (λ (k : ℕ). get_or (sector_at image map_block) k 0) zero_part)
        ∙ fit.each track from (subst (λ (n : ℕ). track ≤ tracks_of n) long to)
        ∙ ap (λ (members : set.FinSet nat_cmp). members_on members track) (sym free);
  }

  -- of a sound image
  module _ (sound : IsSound image) where
    distinct : IsDistinct nat_eq (owned_blocks image)
    distinct = sound CrossLinked (omega arith) (omega arith)

    listed : (block : ℕ) → list_any (nat_eq block) (directory image) ≡ true → sector_at (named_disk image name id) block ≡ sector_at image block
    listed block found = others block (λ e. other_block map_block block (directory image) (map_not_listed image distinct) found (sym e))

    blocks : directory (named_disk image name id) ≡ directory image
    blocks =
        directory-same image (named_disk image name id) (has_directory image sound) long
        (λ block found. link_same image (named_disk image name id) block (listed block found))

    left : AlteredTo image (named_disk image name id) (slots image) (free_blocks image) (filled_field name) (unwrap_or id (disk_id image))
    left = record {
      is_image = named-stays_image;
      long = long;
      counts = counts (sound WrongCounts (omega arith) (omega arith));
      marked = free;
      blocks = blocks;
      entries = ap (slots_in (named_disk image name id)) blocks ∙ slots-same image (named_disk image name id) (directory image) listed;
      kept = λ block other absent. others block other;
      name = ap (λ (bytes : List ℕ). take 16 (drop 0x90 bytes)) label ∙ labelled-name (sector_at image map_block) name id whole named two;
      id = ap (λ (bytes : List ℕ). take 2 (drop 0xA2 bytes)) label ∙ labelled-id (sector_at image map_block) name id whole named two;
    }

    pub named-keeps_sound : IsSound (named_disk image name id)
    named-keeps_sound =
        sound_after image (named_disk image name id) (slots image) (free_blocks image) is (has_directory image sound) distinct left
        (sound NoChain (omega arith) (omega arith)) (λ q. omega arith) (sound UnknownKind (omega arith) (omega arith))
        (λ q held. owned_not_free image sound q (let own = occurs-owned image q in omega arith))

    pub named-views : view (named_disk image name id) ≡ named_view (view image) name id
    unfolding view named_view
    named-views =
        view_after image (named_disk image name id) (slots image) (free_blocks image) is (has_directory image sound) distinct left
        (sound NoChain (omega arith) (omega arith)) (λ q. omega arith)

pub named-is_image : NamedIsImage
named-is_image image name id is named two = named-stays_image image name id is named two

pub named-is_sound : NamedIsSound
named-is_sound image name id is named two sound = named-keeps_sound image name id is named two sound

pub named-shows : NamedShows
named-shows image name id is named two sound = named-views image name id is named two sound
