-- what a disk to which a deleted file came back is, and what it shows
use Rattle.std.proofs.Common.{◌≡◌, ◌≢◌, ℕ, ◌+◌, ◌*◌, ◌%◌, ◌<◌, ◌≤◌, ◌==◌, Bool, true, false, not, cond, nat_eq, List, [], ◌∷◌, length, map, get_or, set, Option, Some, None, refl, sym, ap, ap₂, ◌∙◌, subst, inl, inr, arith, append-nil}
use Rattle.std.specs.Prelude.{◌&&◌, All, slice_get}
use Rattle.std.specs.List.{flat_map, list_any, IsDistinct}
use Rattle.std.specs.Option.{option_map_or}
use Rattle.std.specs.FinSet as set
use Rattle.std.proofs.lemmas.Bool.{cases_lt, and_right}
use Rattle.std.proofs.lemmas.List.{map-set, get_or-map, length-map}
use Rattle.std.proofs.lemmas.List.Elements.{All-nil, All-cons, All-set, All-get_or}
use Rattle.d64_image.specs.Image.{IsImage}
use Rattle.d64_map.specs.Map.{free_blocks}
use Rattle.d64_files.specs.Chain.{chain, block_in}
use Rattle.d64_files.specs.Clearing.{closed_type, with_type}
use Rattle.d64_files.specs.Directory.{directory, slots, owned_blocks}
use Rattle.d64_files.specs.FileData.{data_along}
use Rattle.d64_files.specs.Ownership.{roots, roots_of, chain_at, owned_by, HasItsChains}
use Rattle.d64_files.specs.Slot.{type_byte, has_bit, is_used, HasKind, kinds, kind_of, is_closed, is_locked, first_pair, field_of, size_of}
use Rattle.d64_files.specs.Writing.{written_at}
use Rattle.d64_files.specs.declared.dir_fault.DirFault.TheVariants.{UnknownKind, NoChain, CrossLinked}
use Rattle.d64_files.specs.declared.kind.Kind.{Kind}
use Rattle.d64_files.specs.declared.kind.Kind.TheVariants.{Del, Seq, Prg, Usr, Rel}
use Rattle.d64_files.proofs.Chains.{distinct, is_chain}
use Rattle.d64_effects.specs.Laws.{IsWritable, UndeletedIsImage, UndeletedIsSound, UndeletedShows}
use Rattle.d64_effects.specs.Undelete.{cell_at, chain_left, undeleted_disk, CanComeBack}
use Rattle.d64_effects.specs.View.{FileView, IsSound, view, slot_view}
use Rattle.d64_files.specs.DiskHeader.{disk_field, disk_id}
use Rattle.d64_effects.specs.ViewAfter.{file_back, undeleted_view}
use Rattle.d64_effects.specs.Write.{blocks_without}
use Rattle.d64_effects.proofs.AlteredDisks.{Altered, remapped, map_not_listed, held_by, sound_held, view_held}
use Rattle.d64_effects.proofs.CellFields.{owned_by-unused}
use Rattle.d64_effects.proofs.FormattedDisks.{view_of}
use Rattle.d64_effects.proofs.Frames.{shown}
use Rattle.d64_effects.proofs.NewDirectory.{has_directory}
use Rattle.d64_effects.proofs.Occurrences.{occurs, occurs-set, occurs-distinct, occurs-from_All, present-from_occurs, joined}
use Rattle.d64_effects.proofs.Rows.{joined-map}
use Rattle.d64_effects.proofs.SlotChanges.{SlotsChanged, slots_sized, slot_changed}
use Rattle.d64_effects.proofs.TakenBlocks.{occurs-owned, owned_once, owned_not_free, contains-blocks_without}
use Rattle.d64_effects.proofs.TypeBytes.{type_byte-typed, first_pair-typed, size_of-typed, field_of-typed}
use Rattle.d64_effects.proofs.WrittenImages.{left_are_blocks}

-- no block comes twice in a chain
distinct_chain : (image : List (List ℕ)) (root : ℕ × ℕ) → chain_at image root ≢ [] → IsDistinct nat_eq (chain_at image root)
distinct_chain image root some = by_block (block_in image root.0 root.1) some
  where
    by_block : (block : Option ℕ) → option_map_or (chain image) block [] ≢ [] → IsDistinct nat_eq (option_map_or (chain image) block [])
    by_block None some = absurd (some refl)
    by_block (Some start) some = distinct image start (chain image start) (is_chain image start (chain image start) refl some)

-- what the type byte of a closed file says
record Typed (byte : ℕ) (kind : Kind) : Type 0 where
  small : byte < 256
  used : not (byte == 0) ≡ true
  number : byte % 16 ≤ 4
  is_kind : get_or kinds (byte % 16) Del ≡ kind
  closed : has_bit byte 7 ≡ true
  unlocked : has_bit byte 6 ≡ false

typed : (kind : Kind) → IsWritable kind → Typed (closed_type kind) kind
typed Del writable = absurd (writable.0 refl)
typed Seq writable = record { small = omega arith; used = refl; number = omega arith; is_kind = refl; closed = refl; unlocked = refl }
typed Prg writable = record { small = omega arith; used = refl; number = omega arith; is_kind = refl; closed = refl; unlocked = refl }
typed Usr writable = record { small = omega arith; used = refl; number = omega arith; is_kind = refl; closed = refl; unlocked = refl }
typed Rel writable = absurd (writable.1 refl)

-- the chains that a file of such a kind owns
one_root : (kind : Kind) (cell : List ℕ) → IsWritable kind → roots_of kind cell ≡ first_pair cell ∷ []
one_root Del cell writable = absurd (writable.0 refl)
one_root Seq cell writable = refl
one_root Prg cell writable = refl
one_root Usr cell writable = refl
one_root Rel cell writable = absurd (writable.1 refl)

-- a slot with another type byte
abbrev retyped : List ℕ → Kind → List ℕ
retyped cell kind = written_at cell 2 (closed_type kind ∷ [])

module _ (cell : List ℕ) (kind : Kind) (long : length cell ≡ 32) (writable : IsWritable kind) where
  type_is : type_byte (retyped cell kind) ≡ closed_type kind
  type_is = type_byte-typed cell (closed_type kind) long

  is_typed : Typed (closed_type kind) kind
  is_typed = typed kind writable

  now_used : is_used (retyped cell kind) ≡ true
  now_used = ap (λ (byte : ℕ). not (byte == 0)) type_is ∙ is_typed.used

  now_kind : kind_of (retyped cell kind) ≡ kind
  now_kind = ap (λ (byte : ℕ). get_or kinds (byte % 16) Del) type_is ∙ is_typed.is_kind

  now_known : HasKind (retyped cell kind)
  now_known = subst (λ (byte : ℕ). byte % 16 ≤ 4) (sym type_is) is_typed.number

  now_closed : is_closed (retyped cell kind) ≡ true
  now_closed = ap (λ (byte : ℕ). has_bit byte 7) type_is ∙ is_typed.closed

  now_unlocked : is_locked (retyped cell kind) ≡ false
  now_unlocked = ap (λ (byte : ℕ). has_bit byte 6) type_is ∙ is_typed.unlocked

  same_pair : first_pair (retyped cell kind) ≡ first_pair cell
  same_pair = first_pair-typed cell (closed_type kind) long

  same_size : size_of (retyped cell kind) ≡ size_of cell
  same_size = size_of-typed cell (closed_type kind) long

  same_field : field_of (retyped cell kind) ≡ field_of cell
  same_field = field_of-typed cell (closed_type kind) long

  pub now_roots : roots (retyped cell kind) ≡ first_pair cell ∷ []
  now_roots =
      ap₂ (λ (closed : Bool) (k : Kind). cond closed (roots_of k (retyped cell kind)) []) now_closed now_kind
      ∙ one_root kind (retyped cell kind) writable ∙ ap (λ (pair : ℕ × ℕ). pair ∷ []) same_pair

  pub now_owns : (image : List (List ℕ)) → owned_by image (retyped cell kind) ≡ chain_at image (first_pair cell)
  now_owns image = ap (flat_map (chain_at image)) now_roots ∙ append-nil (chain_at image (first_pair cell))

  now_has : (image : List (List ℕ)) → chain_at image (first_pair cell) ≢ [] → HasItsChains image (retyped cell kind)
  now_has image some =
      let P : ℕ × ℕ → Type 0 = λ root. chain_at image root ≢ [] in
      subst (All P) (sym now_roots) (All-cons P (first_pair cell) [] some (All-nil P))

-- a deleted file comes back on a sound image
module _ (image : List (List ℕ)) (slot : ℕ) (kind : Kind) (is : IsImage image) (sound : IsSound image) (writable : IsWritable kind) (can : CanComeBack image slot) where
  some : directory image ≢ []
  some = has_directory image sound

  sized : All (λ cell. length cell ≡ 32) (slots image)
  sized = slots_sized image is some

  long : length (cell_at image slot) ≡ 32
  long = All-get_or (λ cell. length cell ≡ 32) (slots image) slot [] can.there sized

  no_repeats : IsDistinct nat_eq (owned_blocks image)
  no_repeats = sound CrossLinked (omega arith) (omega arith)

  changed : SlotsChanged image (with_type image slot kind) (set (slots image) slot (retyped (cell_at image slot) kind))
  unfolding with_type
  changed =
      slot_changed image slot 2 (32 * (slot % 8) + 2) (closed_type kind ∷ []) is can.there refl (omega arith) (omega arith)
      (All-cons (λ byte. byte < 256) (closed_type kind) [] (typed kind writable).small (All-nil (λ byte. byte < 256)))

  left : Altered image (undeleted_disk image slot kind) (set (slots image) slot (retyped (cell_at image slot) kind)) (blocks_without (free_blocks image) (chain_left image slot))
  unfolding undeleted_disk
  left =
      remapped image (with_type image slot kind) (set (slots image) slot (retyped (cell_at image slot) kind)) (blocks_without (free_blocks image) (chain_left image slot)) is some changed
      (map_not_listed image no_repeats) (left_are_blocks image (chain_left image slot))

  -- the file's blocks are held beside those that were
  files_held : (q : ℕ) → occurs q (flat_map (owned_by image) (set (slots image) slot (retyped (cell_at image slot) kind)))
      ≡ occurs q (flat_map (owned_by image) (slots image)) + occurs q (chain_left image slot)
  files_held q =
      let rows : List (List ℕ) = map (owned_by image) (slots image) in
      let within : slot < length rows = let e = length-map (slots image) (owned_by image) in let t = can.there in omega arith in
      let vacant : get_or rows slot [] ≡ [] =
      get_or-map (owned_by image) (slots image) slot [] [] can.there ∙ owned_by-unused image (cell_at image slot) can.unused in
      ap (occurs q) (sym (joined-map (owned_by image) (set (slots image) slot (retyped (cell_at image slot) kind)))
      ∙ ap joined (map-set (owned_by image) (slots image) slot (retyped (cell_at image slot) kind)
      ∙ ap (set rows slot) (now_owns (cell_at image slot) kind long writable image)))
      ∙ occurs-set q rows slot (chain_left image slot) within vacant
      ∙ ap (λ (n : ℕ). n + occurs q (chain_left image slot)) (ap (occurs q) (joined-map (owned_by image) (slots image)))

  in_chain : (q : ℕ) → 1 ≤ occurs q (chain_left image slot) → set.contains (free_blocks image) q ≡ true
  in_chain q = occurs-from_All (λ block. set.contains (free_blocks image) block ≡ true) (chain_left image slot) q can.free

  apart : (q : ℕ) → 1 ≤ occurs q (chain_left image slot) → occurs q (owned_blocks image) ≡ 0
  apart q there = elim (cases_lt 0 (occurs q (owned_blocks image))) [
    | inl owned ↦ absurd (let e : true ≡ false = sym (in_chain q there) ∙ owned_not_free image sound q owned in cc)
    | inr none ↦ omega arith
  ]

  once : (q : ℕ) → held_by image (set (slots image) slot (retyped (cell_at image slot) kind)) q ≤ 1
  once q =
      let files = files_held q in
      let owned = occurs-owned image q in
      let one = owned_once image sound q in
      let chain_once = occurs-distinct (chain_left image slot) (distinct_chain image (first_pair (cell_at image slot)) can.chain) q in
      elim (cases_lt 0 (occurs q (chain_left image slot))) [
        | inl there ↦ let none = apart q there in omega arith
        | inr absent ↦ omega arith
      ]

  unfree : (q : ℕ) → 1 ≤ held_by image (set (slots image) slot (retyped (cell_at image slot) kind)) q
      → set.contains (blocks_without (free_blocks image) (chain_left image slot)) q ≡ false
  unfree q held =
      let files = files_held q in
      let owned = occurs-owned image q in
      contains-blocks_without (free_blocks image) (chain_left image slot) q
      ∙ elim (cases_lt 0 (occurs q (chain_left image slot))) [
        | inl there ↦ ap (λ (b : Bool). not b && set.contains (free_blocks image) q) (present-from_occurs q (chain_left image slot) there)
        | inr absent ↦ and_right (not (list_any (nat_eq q) (chain_left image slot))) (set.contains (free_blocks image) q) (owned_not_free image sound q (omega arith))
      ]

  kinds_known : All HasKind (set (slots image) slot (retyped (cell_at image slot) kind))
  kinds_known = All-set HasKind (slots image) slot (retyped (cell_at image slot) kind) (now_known (cell_at image slot) kind long writable) (sound UnknownKind (omega arith) (omega arith))

  chains : All (HasItsChains image) (set (slots image) slot (retyped (cell_at image slot) kind))
  chains =
      All-set (HasItsChains image) (slots image) slot (retyped (cell_at image slot) kind) (now_has (cell_at image slot) kind long writable image can.chain)
      (sound NoChain (omega arith) (omega arith))

  -- what its slot shows
  now_shows : slot_view image (retyped (cell_at image slot) kind) ≡ Some (file_back image slot kind)
  unfolding slot_view
  now_shows = λ i.
      let from = now_roots (cell_at image slot) kind long writable i in
      let blocks = option_map_or (chain_at image) (slice_get from 0) [] in
      shown (now_used (cell_at image slot) kind long writable i) (same_field (cell_at image slot) kind long writable i) (now_kind (cell_at image slot) kind long writable i)
      (now_closed (cell_at image slot) kind long writable i) (now_unlocked (cell_at image slot) kind long writable i) (same_size (cell_at image slot) kind long writable i)
      blocks (option_map_or (chain_at image) (slice_get from 1) []) (data_along image blocks)

  pub undeleted-keeps_sound : IsSound (undeleted_disk image slot kind)
  undeleted-keeps_sound =
      sound_held image (undeleted_disk image slot kind) (set (slots image) slot (retyped (cell_at image slot) kind)) (blocks_without (free_blocks image) (chain_left image slot)) is some left chains once
      kinds_known unfree

  pub undeleted-views : view (undeleted_disk image slot kind) ≡ undeleted_view image (view image) slot kind
  unfolding view undeleted_view
  undeleted-views =
      view_held image (undeleted_disk image slot kind) (set (slots image) slot (retyped (cell_at image slot) kind)) (blocks_without (free_blocks image) (chain_left image slot)) is some left chains once
      ∙ ap (λ (rows : List (Option FileView)). view_of (length image) (disk_field image) (disk_id image) (directory image) rows (blocks_without (free_blocks image) (chain_left image slot)))
      (map-set (slot_view image) (slots image) slot (retyped (cell_at image slot) kind) ∙ ap (set (map (slot_view image) (slots image)) slot) now_shows)

  pub undeleted-stays_image : IsImage (undeleted_disk image slot kind)
  undeleted-stays_image = left.is_image

pub undeleted-is_image : UndeletedIsImage
undeleted-is_image image slot kind is sound writable can = undeleted-stays_image image slot kind is sound writable can

pub undeleted-is_sound : UndeletedIsSound
undeleted-is_sound image slot kind is sound writable can = undeleted-keeps_sound image slot kind is sound writable can

pub undeleted-shows : UndeletedShows
undeleted-shows image slot kind is sound writable can = undeleted-views image slot kind is sound writable can
