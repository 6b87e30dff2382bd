-- The faults that name a slot.
use Rattle.std.proofs.Common.{◌≡◌, ℕ, ◌+◌, ◌||◌, ◌&&◌, Bool, true, false, not, eqb, ltb, List, [], ◌∷◌, ◌++◌, length, Option, Some, None, refl, sym, ap, ap₂, ◌∙◌, arith}
use Rattle.std.specs.Prelude.{filter}
use Rattle.std.specs.List.{flat_map, list_any, range_with_len}
use Rattle.std.specs.Option.{option_map_or}
use Rattle.std.specs.FinSet as set
use Rattle.std.proofs.lemmas.Bool.{eq-eqb, lt-ltb, and_right, or_from}
use Rattle.std.proofs.lemmas.List.Folds.{list_any-append}
use Rattle.d64_image.specs.Image.{tracks_of}
use Rattle.d64_map.specs.Map.{map_block, blocks, count_of, free_blocks}
use Rattle.d64_map.specs.Track.{members_on}
use Rattle.d64_files.specs.Directory.{numbered_slots}
use Rattle.d64_files.specs.Slot.{type_byte, has_kind}
use Rattle.d64_survey.specs.Way.{way, is_whole}
use Rattle.d64_survey.specs.Owners.{pair_of, blocks_from, directory_way, way_slots, owned_as, part_owners, slot_owners, owners, owners_of, is_owned, is_shared}
use Rattle.d64_survey.specs.Faults.{number, where_so, last_of, count_faults, directory_faults, kind_faults, way_fault, part_fault, file_faults, shared_faults, free_faults, faults}
use Rattle.d64_survey.specs.Flaws.{is_broken_from, is_broken}
use Rattle.d64_survey.specs.Inspection.{slot_cell}
use Rattle.d64_survey.specs.declared.fault.Fault.{Fault}
use Rattle.d64_survey.specs.declared.fault.Fault.TheVariants.{WrongCount, BrokenDirectory, UnknownKind, BrokenFile, Shared, MarkedFree}
use Rattle.d64_survey.specs.declared.owner.Owner.{Owner}
use Rattle.d64_survey.specs.declared.owner.Owner.TheVariants.{Directory, File}
use Rattle.d64_survey.specs.declared.owner.Part.{Part}
use Rattle.d64_survey.specs.declared.owner.Part.TheVariants.{Data, Side}
use Rattle.d64_inventory.specs.Conditions.{is_part_of, owns, names, is_condition_of}
use Rattle.d64_inventory.specs.Rows.{is_of_file}
use Rattle.d64_inventory.proofs.AnyOf.{any_same, any_never, any_flat, any_map, any_filter, any_numbered}

or_none : (t : Bool) → (t || false) ≡ t
or_none true = refl
or_none false = refl

and_none : (t : Bool) → (t && false) ≡ false
and_none t = and_right t false refl

and_all : (t : Bool) → (t && true) ≡ t
and_all true = refl
and_all false = refl

-- what along slots only the slot of one number passes is what that slot passes
at_slot : (image : List (List ℕ)) (f : ℕ × List ℕ → Bool) (slot : ℕ) (cell : List ℕ) → ((m : ℕ) (x : List ℕ) → eqb slot m ≡ false → f (m, x) ≡ false)
    → slot_cell image slot ≡ Some cell → list_any f (numbered_slots (way_slots image)) ≡ f (slot, cell)
at_slot image f slot cell others there =
    any_numbered f slot others 0 slot (way_slots image) (let e : 0 + slot ≡ slot = omega arith in e)
    ∙ ap (λ (c : Option (List ℕ)). option_map_or (λ x. f (slot, x)) c false) there

-- blocks that an owner has
any_owned : (slot block : ℕ) (owner : Owner) (bs : List ℕ) → list_any (λ (o : ℕ × Owner). eqb block o.0 && is_part_of slot o.1) (owned_as owner bs) ≡ (list_any (eqb block) bs && is_part_of slot owner)
any_owned slot block owner bs = any_map (λ (o : ℕ × Owner). eqb block o.0 && is_part_of slot o.1) (λ b. (b, owner)) bs ∙ along bs
  where
    joined : (a b c : Bool) → ((a && c) || (b && c)) ≡ ((a || b) && c)
    joined true true true = refl
    joined true true false = refl
    joined true false true = refl
    joined true false false = refl
    joined false b c = refl

    along : (bs : List ℕ) → list_any (λ b. eqb block b && is_part_of slot owner) bs ≡ (list_any (eqb block) bs && is_part_of slot owner)
    along [] = refl
    along (b ∷ bs) =
        ap (λ (t : Bool). (eqb block b && is_part_of slot owner) || t) (along bs) ∙ joined (eqb block b) (list_any (eqb block) bs) (is_part_of slot owner)

-- a block that a slot's file has, for the owners of a slot
abbrev owned_at : List (List ℕ) → ℕ → ℕ → ℕ × List ℕ → Bool
owned_at image slot block other = list_any (λ (o : ℕ × Owner). eqb block o.0 && is_part_of slot o.1) (slot_owners image other)

owned_at-is : (image : List (List ℕ)) (slot block : ℕ) (other : ℕ × List ℕ)
    → owned_at image slot block other
    ≡ ((list_any (eqb block) (blocks_from image (pair_of Data other.1)) && eqb slot other.0) || (list_any (eqb block) (blocks_from image (pair_of Side other.1)) && eqb slot other.0))
owned_at-is image slot block other =
    list_any-append (λ (o : ℕ × Owner). eqb block o.0 && is_part_of slot o.1) (part_owners image other Data) (part_owners image other Side)
    ∙ ap₂ ◌||◌ (any_owned slot block (File other.0 Data) (blocks_from image (pair_of Data other.1))) (any_owned slot block (File other.0 Side) (blocks_from image (pair_of Side other.1)))

-- the file of a slot owns a block if that is one of its own
pub owns-is : (image : List (List ℕ)) (slot block : ℕ) (cell : List ℕ) → slot_cell image slot ≡ Some cell → owns image slot block ≡ is_of_file image cell block
unfolding owners
owns-is image slot block cell there =
    any_map (is_part_of slot) (λ (o : ℕ × Owner). o.1) (filter (λ (o : ℕ × Owner). eqb block o.0) (owners image))
    ∙ any_filter (λ (o : ℕ × Owner). is_part_of slot o.1) (λ (o : ℕ × Owner). eqb block o.0) (owners image)
    ∙ ap (λ (t : Bool). t || list_any is_ours (owned_as Directory way_blocks ++ flat_map (slot_owners image) (numbered_slots (way_slots image)))) (and_none (eqb block map_block))
    ∙ list_any-append is_ours (owned_as Directory way_blocks) (flat_map (slot_owners image) (numbered_slots (way_slots image)))
    ∙ ap (λ (t : Bool). t || list_any is_ours (flat_map (slot_owners image) (numbered_slots (way_slots image)))) (any_owned slot block Directory way_blocks ∙ and_none (list_any (eqb block) way_blocks))
    ∙ any_flat is_ours (slot_owners image) (numbered_slots (way_slots image))
    ∙ at_slot image (owned_at image slot block) slot cell others there
    ∙ owned_at-is image slot block (slot, cell)
    ∙ ap (λ (t : Bool). (list_any (eqb block) (blocks_from image (pair_of Data cell)) && t) || (list_any (eqb block) (blocks_from image (pair_of Side cell)) && t)) (eq-eqb slot slot refl)
    ∙ ap₂ ◌||◌ (and_all (list_any (eqb block) (blocks_from image (pair_of Data cell)))) (and_all (list_any (eqb block) (blocks_from image (pair_of Side cell))))
    ∙ sym (list_any-append (eqb block) (blocks_from image (pair_of Data cell)) (blocks_from image (pair_of Side cell)))
  where
    is_ours : ℕ × Owner → Bool
    is_ours o = eqb block o.0 && is_part_of slot o.1

    way_blocks : List ℕ
    way_blocks = (directory_way image).0

    others : (m : ℕ) (x : List ℕ) → eqb slot m ≡ false → owned_at image slot block (m, x) ≡ false
    others m x other =
        owned_at-is image slot block (m, x)
        ∙ ap (λ (t : Bool). (list_any (eqb block) (blocks_from image (pair_of Data x)) && t) || (list_any (eqb block) (blocks_from image (pair_of Side x)) && t)) other
        ∙ or_from (list_any (eqb block) (blocks_from image (pair_of Data x)) && false) (list_any (eqb block) (blocks_from image (pair_of Side x)) && false)
        (and_none (list_any (eqb block) (blocks_from image (pair_of Data x)))) (and_none (list_any (eqb block) (blocks_from image (pair_of Side x))))

-- a fault of this number that names the slot
abbrev meets : List (List ℕ) → ℕ → ℕ → Fault → Bool
meets image slot n fault = eqb (number fault) n && names image slot fault

-- a fault if there is one
any_where : (f : Fault → Bool) (there : Bool) (fault : Fault) → list_any f (where_so there fault) ≡ (there && f fault)
any_where f true fault = or_none (f fault)
any_where f false fault = refl

-- faults if there are any
any_so : {X : Type 0} (f : Fault → Bool) (there : X → Bool) (fault : X → Fault) (xs : List X)
    → list_any f (flat_map (λ x. where_so (there x) (fault x)) xs) ≡ list_any (λ x. there x && f (fault x)) xs
any_so f there fault xs =
    any_flat f (λ x. where_so (there x) (fault x)) xs ∙ any_same (λ x. list_any f (where_so (there x) (fault x))) (λ x. there x && f (fault x)) (λ x. any_where f (there x) (fault x)) xs

-- the faults of a part of a slot's file
abbrev part_met : List (List ℕ) → ℕ → ℕ → ℕ × List ℕ → Part → Bool
part_met image slot n other part = is_broken_from image (pair_of part other.1) && (eqb 4 n && eqb slot other.0)

part_is : (image : List (List ℕ)) (slot n : ℕ) (other : ℕ) (part : Part) (pair : Option (ℕ × ℕ))
    → list_any (meets image slot n) (option_map_or (way_fault image other part) pair []) ≡ (is_broken_from image pair && (eqb 4 n && eqb slot other))
part_is image slot n other part None = refl
part_is image slot n other part (Some pair) =
    any_where (meets image slot n) (not (is_whole (way image pair).1)) (BrokenFile other part (last_of (way image pair).0) (way image pair).1)

file_is : (image : List (List ℕ)) (slot n : ℕ) (other : ℕ × List ℕ)
    → list_any (meets image slot n) (part_fault image other Data ++ part_fault image other Side) ≡ (part_met image slot n other Data || part_met image slot n other Side)
file_is image slot n other =
    list_any-append (meets image slot n) (part_fault image other Data) (part_fault image other Side)
    ∙ ap₂ ◌||◌ (part_is image slot n other.0 Data (pair_of Data other.1)) (part_is image slot n other.0 Side (pair_of Side other.1))

-- what is met by the faults of each list
abbrev kinds_met : List (List ℕ) → ℕ → ℕ → Bool
kinds_met image slot n = list_any (λ (s : ℕ × List ℕ). not (has_kind s.1) && (eqb 3 n && eqb slot s.0)) (numbered_slots (way_slots image))

abbrev files_met : List (List ℕ) → ℕ → ℕ → Bool
files_met image slot n = list_any (λ (s : ℕ × List ℕ). part_met image slot n s Data || part_met image slot n s Side) (numbered_slots (way_slots image))

abbrev shared_met : List (List ℕ) → ℕ → ℕ → Bool
shared_met image slot n = list_any (λ block. is_shared image block && (eqb 5 n && owns image slot block)) blocks

abbrev free_met : List (List ℕ) → ℕ → ℕ → Bool
free_met image slot n = list_any (λ block. (is_owned image block && set.contains (free_blocks image) block) && (eqb 6 n && owns image slot block)) blocks

-- the first two lists name no slot
counts_is : (image : List (List ℕ)) (slot n : ℕ) → list_any (meets image slot n) (count_faults image) ≡ false
counts_is image slot n =
    any_so (meets image slot n) (λ track. not (eqb (count_of image track) (members_on (free_blocks image) track))) (λ track. WrongCount track (count_of image track) (members_on (free_blocks image) track))
    (range_with_len 1 (tracks_of (length image)))
    ∙ any_never (λ track. not (eqb (count_of image track) (members_on (free_blocks image) track)) && (eqb 1 n && false))
    (λ track. and_right (not (eqb (count_of image track) (members_on (free_blocks image) track))) (eqb 1 n && false) (and_none (eqb 1 n))) (range_with_len 1 (tracks_of (length image)))

directory_is : (image : List (List ℕ)) (slot n : ℕ) → list_any (meets image slot n) (directory_faults image) ≡ false
directory_is image slot n =
    any_where (meets image slot n) (not (is_whole (directory_way image).1)) (BrokenDirectory (last_of (directory_way image).0) (directory_way image).1)
    ∙ and_right (not (is_whole (directory_way image).1)) (eqb 2 n && false) (and_none (eqb 2 n))

kinds_is : (image : List (List ℕ)) (slot n : ℕ) → list_any (meets image slot n) (kind_faults image) ≡ kinds_met image slot n
kinds_is image slot n =
    any_so (meets image slot n) (λ (s : ℕ × List ℕ). not (has_kind s.1)) (λ (s : ℕ × List ℕ). UnknownKind s.0 (type_byte s.1)) (numbered_slots (way_slots image))

files_is : (image : List (List ℕ)) (slot n : ℕ) → list_any (meets image slot n) (file_faults image) ≡ files_met image slot n
files_is image slot n =
    any_flat (meets image slot n) (λ (s : ℕ × List ℕ). part_fault image s Data ++ part_fault image s Side) (numbered_slots (way_slots image))
    ∙ any_same (λ (s : ℕ × List ℕ). list_any (meets image slot n) (part_fault image s Data ++ part_fault image s Side)) (λ (s : ℕ × List ℕ). part_met image slot n s Data || part_met image slot n s Side)
    (file_is image slot n) (numbered_slots (way_slots image))

shared_is : (image : List (List ℕ)) (slot n : ℕ) → list_any (meets image slot n) (shared_faults image) ≡ shared_met image slot n
shared_is image slot n = any_so (meets image slot n) (is_shared image) (λ block. Shared block) blocks

free_is : (image : List (List ℕ)) (slot n : ℕ) → list_any (meets image slot n) (free_faults image) ≡ free_met image slot n
free_is image slot n = any_so (meets image slot n) (λ block. is_owned image block && set.contains (free_blocks image) block) (λ block. MarkedFree block) blocks

-- a condition is that of a slot if one of the four lists meets it
all_met : (image : List (List ℕ)) (slot n : ℕ) → is_condition_of image slot n ≡ (kinds_met image slot n || (files_met image slot n || (shared_met image slot n || free_met image slot n)))
unfolding faults
all_met image slot n =
    list_any-append (meets image slot n) (count_faults image) (directory_faults image ++ (kind_faults image ++ (file_faults image ++ (shared_faults image ++ free_faults image))))
    ∙ ap₂ ◌||◌ (counts_is image slot n) (list_any-append (meets image slot n) (directory_faults image) (kind_faults image ++ (file_faults image ++ (shared_faults image ++ free_faults image))))
    ∙ ap₂ ◌||◌ (directory_is image slot n) (list_any-append (meets image slot n) (kind_faults image) (file_faults image ++ (shared_faults image ++ free_faults image)))
    ∙ ap₂ ◌||◌ (kinds_is image slot n) (list_any-append (meets image slot n) (file_faults image) (shared_faults image ++ free_faults image)
    ∙ ap₂ ◌||◌ (files_is image slot n) (list_any-append (meets image slot n) (shared_faults image) (free_faults image)
    ∙ ap₂ ◌||◌ (shared_is image slot n) (free_is image slot n)))

-- a list of another number's faults meets nothing
no_kinds : (image : List (List ℕ)) (slot n : ℕ) → eqb 3 n ≡ false → kinds_met image slot n ≡ false
no_kinds image slot n other =
    any_never (λ (s : ℕ × List ℕ). not (has_kind s.1) && (eqb 3 n && eqb slot s.0))
    (λ s. and_right (not (has_kind s.1)) (eqb 3 n && eqb slot s.0) (ap (λ (t : Bool). t && eqb slot s.0) other)) (numbered_slots (way_slots image))

no_files : (image : List (List ℕ)) (slot n : ℕ) → eqb 4 n ≡ false → files_met image slot n ≡ false
no_files image slot n other =
    any_never (λ (s : ℕ × List ℕ). part_met image slot n s Data || part_met image slot n s Side)
    (λ s. or_from (part_met image slot n s Data) (part_met image slot n s Side) (none s Data) (none s Side)) (numbered_slots (way_slots image))
  where
    none : (s : ℕ × List ℕ) (part : Part) → part_met image slot n s part ≡ false
    none s part = and_right (is_broken_from image (pair_of part s.1)) (eqb 4 n && eqb slot s.0) (ap (λ (t : Bool). t && eqb slot s.0) other)

no_shared : (image : List (List ℕ)) (slot n : ℕ) → eqb 5 n ≡ false → shared_met image slot n ≡ false
no_shared image slot n other =
    any_never (λ block. is_shared image block && (eqb 5 n && owns image slot block))
    (λ block. and_right (is_shared image block) (eqb 5 n && owns image slot block) (ap (λ (t : Bool). t && owns image slot block) other)) blocks

no_free : (image : List (List ℕ)) (slot n : ℕ) → eqb 6 n ≡ false → free_met image slot n ≡ false
no_free image slot n other =
    any_never (λ block. (is_owned image block && set.contains (free_blocks image) block) && (eqb 6 n && owns image slot block))
    (λ block. and_right (is_owned image block && set.contains (free_blocks image) block) (eqb 6 n && owns image slot block) (ap (λ (t : Bool). t && owns image slot block) other)) blocks

-- condition 3: the slot has no kind
pub third : (image : List (List ℕ)) (slot : ℕ) (cell : List ℕ) → slot_cell image slot ≡ Some cell → is_condition_of image slot 3 ≡ not (has_kind cell)
third image slot cell there =
    all_met image slot 3
    ∙ ap (λ (t : Bool). kinds_met image slot 3 || t)
    (ap₂ ◌||◌ (no_files image slot 3 refl) (ap₂ ◌||◌ (no_shared image slot 3 refl) (no_free image slot 3 refl)))
    ∙ or_none (kinds_met image slot 3)
    ∙ at_slot image (λ (s : ℕ × List ℕ). not (has_kind s.1) && eqb slot s.0) slot cell (λ m x other. and_right (not (has_kind x)) (eqb slot m) other) there
    ∙ ap (λ (t : Bool). not (has_kind cell) && t) (eq-eqb slot slot refl)
    ∙ and_all (not (has_kind cell))

-- condition 4: a way of its file isn't a whole chain
pub fourth : (image : List (List ℕ)) (slot : ℕ) (cell : List ℕ) → slot_cell image slot ≡ Some cell → is_condition_of image slot 4 ≡ is_broken image cell
fourth image slot cell there =
    all_met image slot 4
    ∙ ap₂ ◌||◌ (no_kinds image slot 4 refl) (ap (λ (t : Bool). files_met image slot 4 || t) (ap₂ ◌||◌ (no_shared image slot 4 refl) (no_free image slot 4 refl)))
    ∙ or_none (files_met image slot 4)
    ∙ at_slot image (λ (s : ℕ × List ℕ). part_met image slot 4 s Data || part_met image slot 4 s Side) slot cell
    (λ m x other. or_from (part_met image slot 4 (m, x) Data) (part_met image slot 4 (m, x) Side)
    (and_right (is_broken_from image (pair_of Data x)) (eqb slot m) other) (and_right (is_broken_from image (pair_of Side x)) (eqb slot m) other)) there
    ∙ ap (λ (t : Bool). (is_broken_from image (pair_of Data cell) && t) || (is_broken_from image (pair_of Side cell) && t)) (eq-eqb slot slot refl)
    ∙ ap₂ ◌||◌ (and_all (is_broken_from image (pair_of Data cell))) (and_all (is_broken_from image (pair_of Side cell)))

-- condition 5: a block of it has more than one owner
pub fifth : (image : List (List ℕ)) (slot : ℕ) (cell : List ℕ) → slot_cell image slot ≡ Some cell
    → is_condition_of image slot 5 ≡ list_any (λ block. is_shared image block && is_of_file image cell block) blocks
fifth image slot cell there =
    all_met image slot 5
    ∙ ap₂ ◌||◌ (no_kinds image slot 5 refl) (ap₂ ◌||◌ (no_files image slot 5 refl) (ap (λ (t : Bool). shared_met image slot 5 || t) (no_free image slot 5 refl)))
    ∙ or_none (shared_met image slot 5)
    ∙ any_same (λ block. is_shared image block && owns image slot block) (λ block. is_shared image block && is_of_file image cell block)
    (λ block. ap (λ (t : Bool). is_shared image block && t) (owns-is image slot block cell there)) blocks

-- what the file of a slot owns has an owner
owned_is : (image : List (List ℕ)) (slot block : ℕ) → owns image slot block ≡ true → is_owned image block ≡ true
owned_is image slot block found = some (owners_of image block) found
  where
    some : (list : List Owner) → list_any (is_part_of slot) list ≡ true → ltb 0 (length list) ≡ true
    some [] e = absurd (let f : false ≡ true = e in cc)
    some (owner ∷ list) e = lt-ltb 0 (length (owner ∷ list)) (omega arith)

-- condition 6: a block of it is marked free
pub sixth : (image : List (List ℕ)) (slot : ℕ) (cell : List ℕ) → slot_cell image slot ≡ Some cell
    → is_condition_of image slot 6 ≡ list_any (λ block. is_of_file image cell block && set.contains (free_blocks image) block) blocks
sixth image slot cell there =
    all_met image slot 6
    ∙ ap₂ ◌||◌ (no_kinds image slot 6 refl) (ap₂ ◌||◌ (no_files image slot 6 refl) (ap (λ (t : Bool). t || free_met image slot 6) (no_shared image slot 6 refl)))
    ∙ any_same (λ block. (is_owned image block && set.contains (free_blocks image) block) && owns image slot block) (λ block. is_of_file image cell block && set.contains (free_blocks image) block)
    (λ block. turned (is_owned image block) (set.contains (free_blocks image) block) (owns image slot block) (owned_is image slot block)
    ∙ ap (λ (t : Bool). t && set.contains (free_blocks image) block) (owns-is image slot block cell there)) blocks
  where
    turned : (a b c : Bool) → (c ≡ true → a ≡ true) → ((a && b) && c) ≡ (c && b)
    turned a b true owned = ap (λ (t : Bool). (t && b) && true) (owned refl) ∙ and_all b
    turned a b false owned = and_none (a && b)
