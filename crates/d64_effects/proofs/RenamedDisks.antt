-- what a disk with a renamed file is, and what it shows
use Rattle.std.proofs.Common.{◌≡◌, ◌≢◌, ℕ, suc, ◌+◌, ◌-◌, ◌*◌, ◌%◌, ◌<◌, ◌≤◌, ◌&&◌, ◌==◌, Bool, true, false, not, cond, nat_eq, List, [], ◌∷◌, ◌++◌, length, map, get_or, take, drop, set, Option, Some, None, refl, sym, ap, ap₂, ◌∙◌, subst, arith}
use Rattle.std.specs.Prelude.{All, IfSome, position, option_map, bytes_eq, replicate, slice_get}
use Rattle.std.specs.List.{flat_map, IsDistinct}
use Rattle.std.specs.Option.{option_map_or}
use Rattle.std.specs.FinSet as set
use Rattle.std.proofs.lemmas.List.{map-set, set-get_or, get_or-map, take_at, drop_at, length-take-le}
use Rattle.std.proofs.lemmas.List.Elements.{All-head, All-tail, All-set, All-get_or, All-append, All-replicate}
use Rattle.std.proofs.lemmas.List.Quantifiers.{position-Some}
use Rattle.d64_image.specs.Image.{IsImage}
use Rattle.d64_map.specs.Map.{free_blocks}
use Rattle.d64_files.specs.Clearing.{with_name}
use Rattle.d64_files.specs.Directory.{has_name, directory, slots, owned_blocks}
use Rattle.d64_files.specs.FileData.{data_along}
use Rattle.d64_files.specs.Name.{IsName, filled_field, name_in}
use Rattle.d64_files.specs.Ownership.{roots, roots_of, chain_at, owned_by, HasItsChains}
use Rattle.d64_files.specs.Slot.{type_byte, has_bit, is_used, HasKind, kinds, kind_of, is_closed, is_locked, first_pair, field_of, name_of, side_pair, size_of}
use Rattle.d64_files.specs.Writing.{written_at}
use Rattle.d64_files.specs.declared.dir_fault.DirFault.TheVariants.{WrongCounts, UnknownKind, NoChain, CrossLinked}
use Rattle.d64_files.specs.declared.kind.Kind.{Kind}
use Rattle.d64_files.specs.declared.kind.Kind.TheVariants.{Del}
use Rattle.d64_files.proofs.WrittenBytes.{length-filled_field}
use Rattle.d64_effects.specs.Laws.{RenamedIsImage, RenamedIsSound, RenamedShows}
use Rattle.d64_effects.specs.Rename.{first_of_name, with_name_in, renamed_disk}
use Rattle.d64_effects.specs.View.{FileView, IsSound, view, slot_view, file_view}
use Rattle.d64_files.specs.DiskHeader.{disk_field, disk_id}
use Rattle.d64_effects.specs.ViewAfter.{with_field, renamed_slots, renamed_view}
use Rattle.d64_effects.proofs.AlteredDisks.{Altered, same_map, map_not_listed, held_by, sound_after, view_after}
use Rattle.d64_effects.proofs.CellFields.{roots_of-same}
use Rattle.d64_effects.proofs.DirectoryEntries.{get_or-written_before, get_or-written_past}
use Rattle.d64_effects.proofs.FormattedDisks.{view_of}
use Rattle.d64_effects.proofs.Frames.{shown, slot_view-is}
use Rattle.d64_effects.proofs.NewDirectory.{has_directory}
use Rattle.d64_effects.proofs.Occurrences.{occurs, joined}
use Rattle.d64_effects.proofs.Rows.{joined-map, position-cons}
use Rattle.d64_effects.proofs.SlotChanges.{SlotsChanged, slots_sized, slot_changed}
use Rattle.d64_effects.proofs.TakenBlocks.{occurs-owned, owned_not_free}

-- the chain from one of some roots
abbrev chain_of : List (List ℕ) → List (ℕ × ℕ) → ℕ → List ℕ
chain_of image from place = option_map_or (chain_at image) (slice_get from place) []

-- a slot with another name in its field
abbrev named : List ℕ → List ℕ → List ℕ
named cell name = written_at cell 5 (filled_field name)

-- the fields of a slot with another name
module _ (cell name : List ℕ) (long : length cell ≡ 32) (short : length name ≤ 16) where
  length-field : length (filled_field name) ≡ 16
  length-field = length-filled_field name short

  byte_before : (place : ℕ) → place < 5 → get_or (named cell name) place 0 ≡ get_or cell place 0
  byte_before place h = get_or-written_before cell (filled_field name) 5 place (omega arith) h

  byte_past : (place : ℕ) → 21 ≤ place → get_or (named cell name) place 0 ≡ get_or cell place 0
  byte_past place h = get_or-written_past cell (filled_field name) 5 place (omega arith) (let e = length-field in omega arith)

  type_byte-named : type_byte (named cell name) ≡ type_byte cell
  type_byte-named = byte_before 2 (omega arith)

  is_used-named : is_used (named cell name) ≡ is_used cell
  is_used-named = ap (λ (byte : ℕ). not (byte == 0)) type_byte-named

  HasKind-named : HasKind cell → HasKind (named cell name)
  HasKind-named has = subst (λ (byte : ℕ). byte % 16 ≤ 4) (sym type_byte-named) has

  kind_of-named : kind_of (named cell name) ≡ kind_of cell
  kind_of-named = ap (λ (byte : ℕ). get_or kinds (byte % 16) Del) type_byte-named

  is_closed-named : is_closed (named cell name) ≡ is_closed cell
  is_closed-named = ap (λ (byte : ℕ). has_bit byte 7) type_byte-named

  is_locked-named : is_locked (named cell name) ≡ is_locked cell
  is_locked-named = ap (λ (byte : ℕ). has_bit byte 6) type_byte-named

  first_pair-named : first_pair (named cell name) ≡ first_pair cell
  first_pair-named = ap₂ (λ (track sector : ℕ). (track, sector)) (byte_before 3 (omega arith)) (byte_before 4 (omega arith))

  side_pair-named : side_pair (named cell name) ≡ side_pair cell
  side_pair-named =
      ap₂ (λ (track sector : ℕ). cond (track == 0) None (Some (track, sector))) (byte_past 0x15 (omega arith)) (byte_past 0x16 (omega arith))

  size_of-named : size_of (named cell name) ≡ size_of cell
  size_of-named = ap₂ (λ (low high : ℕ). low + 256 * high) (byte_past 0x1E (omega arith)) (byte_past 0x1F (omega arith))

  field_of-named : field_of (named cell name) ≡ filled_field name
  unfolding written_at
  field_of-named =
      ap (take 16) (drop_at (take 5 cell) (filled_field name ++ drop (5 + length (filled_field name)) cell) 5 (length-take-le 5 cell (omega arith)))
      ∙ take_at (filled_field name) (drop (5 + length (filled_field name)) cell) 16 length-field

  roots-named : roots (named cell name) ≡ roots cell
  roots-named =
      ap₂ (λ (closed : Bool) (kind : Kind). cond closed (roots_of kind (named cell name)) []) is_closed-named kind_of-named
      ∙ ap (λ (found : List (ℕ × ℕ)). cond (is_closed cell) found [])
      (roots_of-same (kind_of cell) (named cell name) cell first_pair-named side_pair-named)

  owned_by-named : (image : List (List ℕ)) → owned_by image (named cell name) ≡ owned_by image cell
  owned_by-named image = ap (flat_map (chain_at image)) roots-named

  HasItsChains-named : (image : List (List ℕ)) → HasItsChains image cell → HasItsChains image (named cell name)
  HasItsChains-named image has = subst (All (λ (root : ℕ × ℕ). chain_at image root ≢ [])) (sym roots-named) has

  -- so it shows the other name, and else what it showed
  slot_view-named : (image : List (List ℕ)) → slot_view image (named cell name) ≡ cond (is_used cell) (Some (with_field (file_view image cell) name)) None
  unfolding slot_view
  slot_view-named image = λ i.
      let from = roots-named i in
      let blocks = chain_of image from 0 in
      shown (is_used-named i) (field_of-named i) (kind_of-named i) (is_closed-named i) (is_locked-named i) (size_of-named i)
      blocks (chain_of image from 1) (data_along image blocks)

-- slots of which one has another name, if there is one
abbrev named_in : List (List ℕ) → Option ℕ → List ℕ → List (List ℕ)
named_in cells None name = cells
named_in cells (Some place) name = set cells place (named (get_or cells place []) name)

-- a function of a slot that doesn't see its name
unseen : {A : Type 0} (f : List ℕ → A) (cells : List (List ℕ)) (place : ℕ) (new : List ℕ) → place < length cells → f new ≡ f (get_or cells place [])
    → map f (set cells place new) ≡ map f cells
unseen f cells place new there same =
    map-set f cells place new ∙ ap (set (map f cells) place) (same ∙ sym (get_or-map f cells place [] (f new) there))
    ∙ set-get_or (map f cells) place (f new)

-- the file of a slot with another name
first_shown : (image : List (List ℕ)) (cell new : List ℕ) (cells : List (List ℕ)) (old : List ℕ) (place : Option ℕ)
    → (rows : List (Option FileView))
    → slot_view image (named cell new) ≡ cond (is_used cell) (Some (with_field (file_view image cell) new)) None
    → slot_view image cell ≡ cond (is_used cell) (Some (file_view image cell)) None
    → map (slot_view image) (named_in cells place new) ≡ rows
    → (used same : Bool) → is_used cell ≡ used → bytes_eq (name_of cell) old ≡ same
    → map (slot_view image) (named_in (cell ∷ cells) (cond (used && same) (Some 0) (option_map (λ (k : ℕ). suc k) place)) new)
    ≡ cond used (cond same (Some (with_field (file_view image cell) new) ∷ map (slot_view image) cells) (Some (file_view image cell) ∷ rows)) (None ∷ rows)
first_shown image cell new cells old place rows changed stays later true true u s =
    ap (λ (first : Option FileView). first ∷ map (slot_view image) cells)
    (changed ∙ ap (λ (b : Bool). cond b (Some (with_field (file_view image cell) new)) None) u)
first_shown image cell new cells old None rows changed stays later true false u s =
    ap₂ (λ (first : Option FileView) (others : List (Option FileView)). first ∷ others)
    (stays ∙ ap (λ (b : Bool). cond b (Some (file_view image cell)) None) u) later
first_shown image cell new cells old (Some place) rows changed stays later true false u s =
    ap₂ (λ (first : Option FileView) (others : List (Option FileView)). first ∷ others)
    (stays ∙ ap (λ (b : Bool). cond b (Some (file_view image cell)) None) u) later
first_shown image cell new cells old None rows changed stays later false same u s =
    ap₂ (λ (first : Option FileView) (others : List (Option FileView)). first ∷ others)
    (stays ∙ ap (λ (b : Bool). cond b (Some (file_view image cell)) None) u) later
first_shown image cell new cells old (Some place) rows changed stays later false same u s =
    ap₂ (λ (first : Option FileView) (others : List (Option FileView)). first ∷ others)
    (stays ∙ ap (λ (b : Bool). cond b (Some (file_view image cell)) None) u) later

-- the first file of a name, among what the slots show
renamed_slots-cons : (file : FileView) (used : Bool) (rows : List (Option FileView)) (old new : List ℕ)
    → renamed_slots (cond used (Some file) None ∷ rows) old new
    ≡ cond used (cond (bytes_eq (name_in file.field) old) (Some (with_field file new) ∷ rows) (Some file ∷ renamed_slots rows old new)) (None ∷ renamed_slots rows old new)
renamed_slots-cons file true rows old new = refl
renamed_slots-cons file false rows old new = refl

-- what all slots show
renamed-shown : (image : List (List ℕ)) (cells : List (List ℕ)) (old new : List ℕ) → length new ≤ 16 → All (λ cell. length cell ≡ 32) cells
    → map (slot_view image) (named_in cells (first_of_name old cells) new) ≡ renamed_slots (map (slot_view image) cells) old new
renamed-shown image [] old new short sized = refl
renamed-shown image (cell ∷ cells) old new short sized =
    let P : List ℕ → Type 0 = λ c. length c ≡ 32 in
    let rows : List (Option FileView) = map (slot_view image) cells in
    ap (λ (place : Option ℕ). map (slot_view image) (named_in (cell ∷ cells) place new)) (position-cons (has_name old) cell cells)
    ∙ first_shown image cell new cells old (first_of_name old cells) (renamed_slots rows old new)
    (slot_view-named cell new (All-head P cell cells sized) short image) (slot_view-is image cell)
    (renamed-shown image cells old new short (All-tail P cell cells sized)) (is_used cell) (bytes_eq (name_of cell) old) refl refl
    ∙ sym (ap (λ (first : Option FileView). renamed_slots (first ∷ rows) old new) (slot_view-is image cell)
    ∙ renamed_slots-cons (file_view image cell) (is_used cell) rows old new)

-- a name in its field is made of bytes
field_bytes : (name : List ℕ) → IsName name → All (λ byte. byte < 256) (filled_field name)
field_bytes name named =
    All-append (λ byte. byte < 256) name (replicate (16 - length name) 0xA0) named.in_range (All-replicate (λ byte. byte < 256) (16 - length name) 0xA0 (omega arith))

-- the image with another name in a slot, if there is one
named_changed : (image : List (List ℕ)) (place : Option ℕ) (new : List ℕ) → IsImage image → IsName new
    → IfSome place (λ slot. slot < length (slots image)) → SlotsChanged image (with_name_in image place new) (named_in (slots image) place new)
unfolding with_name
named_changed image None new is good there = record { is_image = is; long = refl; blocks = refl; entries = refl; kept = λ block absent. refl }
named_changed image (Some slot) new is good there =
    let e = length-filled_field new good.short in
    slot_changed image slot 5 (32 * (slot % 8) + 2 + 3) (filled_field new) is there (omega arith) (omega arith) (omega arith) (field_bytes new good)

-- what holds of each slot, with another name too
All-named_in : (P : List ℕ → Type 0) (cells : List (List ℕ)) (place : Option ℕ) (new : List ℕ) → All P cells
    → IfSome place (λ slot. slot < length cells) → ((cell : List ℕ) → length cell ≡ 32 → P cell → P (named cell new)) → All (λ cell. length cell ≡ 32) cells
    → All P (named_in cells place new)
All-named_in P cells None new all there keeps sized = all
All-named_in P cells (Some slot) new all there keeps sized =
    All-set P cells slot (named (get_or cells slot []) new)
    (keeps (get_or cells slot []) (All-get_or (λ cell. length cell ≡ 32) cells slot [] there sized) (All-get_or P cells slot [] there all)) all

-- the slots own what they owned
owned-named_in : (image : List (List ℕ)) (cells : List (List ℕ)) (place : Option ℕ) (new : List ℕ) → length new ≤ 16
    → IfSome place (λ slot. slot < length cells) → All (λ cell. length cell ≡ 32) cells
    → flat_map (owned_by image) (named_in cells place new) ≡ flat_map (owned_by image) cells
owned-named_in image cells None new short there sized = refl
owned-named_in image cells (Some slot) new short there sized =
    let cell : List ℕ = get_or cells slot [] in
    sym (joined-map (owned_by image) (set cells slot (named cell new)))
    ∙ ap joined (unseen (owned_by image) cells slot (named cell new) there
    (owned_by-named cell new (All-get_or (λ c. length c ≡ 32) cells slot [] there sized) short image))
    ∙ joined-map (owned_by image) cells

-- the first slot of a name is one of the slots
there_is : (test : List ℕ → Bool) (cells : List (List ℕ)) (place : Option ℕ) → position test cells ≡ place → IfSome place (λ slot. slot < length cells)
there_is test cells None e = tt
there_is test cells (Some slot) e = (position-Some test cells slot [] e).0

-- the slots after renaming a file
abbrev named_cells : List (List ℕ) → List ℕ → List ℕ → List (List ℕ)
named_cells image old new = named_in (slots image) (first_of_name old (slots image)) new

-- renaming a file on a sound image
module _ (image : List (List ℕ)) (old new : List ℕ) (is : IsImage image) (good : IsName new) (sound : IsSound image) where
  there : IfSome (first_of_name old (slots image)) (λ slot. slot < length (slots image))
  there = there_is (has_name old) (slots image) (first_of_name old (slots image)) refl

  sized : All (λ cell. length cell ≡ 32) (slots image)
  sized = slots_sized image is (has_directory image sound)

  distinct : IsDistinct nat_eq (owned_blocks image)
  distinct = sound CrossLinked (omega arith) (omega arith)

  left : Altered image (renamed_disk image old new) (named_cells image old new) (free_blocks image)
  unfolding renamed_disk
  left =
      same_map image (with_name_in image (first_of_name old (slots image)) new) (named_cells image old new)
      (named_changed image (first_of_name old (slots image)) new is good there) (map_not_listed image distinct) (sound WrongCounts (omega arith) (omega arith))

  owned : flat_map (owned_by image) (named_cells image old new) ≡ flat_map (owned_by image) (slots image)
  owned = owned-named_in image (slots image) (first_of_name old (slots image)) new good.short there sized

  chains : All (HasItsChains image) (named_cells image old new)
  chains =
      All-named_in (HasItsChains image) (slots image) (first_of_name old (slots image)) new (sound NoChain (omega arith) (omega arith)) there
      (λ cell long has. HasItsChains-named cell new long good.short image has) sized

  fewer : (q : ℕ) → occurs q (flat_map (owned_by image) (named_cells image old new))
      ≤ occurs q (flat_map (owned_by image) (slots image))
  fewer q = let e = ap (occurs q) owned in omega arith

  kinds_known : All HasKind (named_cells image old new)
  kinds_known =
      All-named_in HasKind (slots image) (first_of_name old (slots image)) new (sound UnknownKind (omega arith) (omega arith)) there
      (λ cell long has. HasKind-named cell new long good.short has) sized

  unfree : (q : ℕ) → 1 ≤ held_by image (named_cells image old new) q → set.contains (free_blocks image) q ≡ false
  unfree q held =
      owned_not_free image sound q
      (let e = ap (occurs q) owned in let f = occurs-owned image q in omega arith)

  pub renamed-keeps_sound : IsSound (renamed_disk image old new)
  renamed-keeps_sound =
      sound_after image (renamed_disk image old new) (named_cells image old new) (free_blocks image) is
      (has_directory image sound) distinct left chains fewer kinds_known unfree

  pub renamed-views : view (renamed_disk image old new) ≡ renamed_view (view image) old new
  unfolding view renamed_view
  renamed-views =
      view_after image (renamed_disk image old new) (named_cells image old new) (free_blocks image) is
      (has_directory image sound) distinct left chains fewer
      ∙ ap (λ (rows : List (Option FileView)). view_of (length image) (disk_field image) (disk_id image) (directory image) rows (free_blocks image))
      (renamed-shown image (slots image) old new good.short sized)

  pub renamed-stays_image : IsImage (renamed_disk image old new)
  renamed-stays_image = left.is_image

pub renamed-is_image : RenamedIsImage
renamed-is_image image old new is good sound = renamed-stays_image image old new is good sound

pub renamed-is_sound : RenamedIsSound
renamed-is_sound image old new is good sound = renamed-keeps_sound image old new is good sound

pub renamed-shows : RenamedShows
renamed-shows image old new is good sound = renamed-views image old new is good sound
