-- a file that is called whole has no block that is in use
use Rattle.std.proofs.Common.{◌≡◌, ℕ, suc, ◌||◌, arith, Bool, true, false, not, cond, nat_eq, List, [], ◌∷◌, ◌++◌, length, map, refl, sym, ap, ◌∙◌}
use Rattle.std.specs.Prelude.{◌&&◌, All, filter, nat_lt}
use Rattle.std.specs.List.{flat_map, list_any}
use Rattle.std.specs.FinSet as set
use Rattle.std.proofs.lemmas.Bool.{or_parts}
use Rattle.std.proofs.lemmas.Bool.Decides.{nat_tests}
use Rattle.std.proofs.lemmas.List.Elements.{All-nil, All-cons}
use Rattle.std.proofs.lemmas.List.Folds.{list_any-append}
use Rattle.d64_map.specs.Map.{map_block, free_blocks}
use Rattle.d64_files.specs.Directory.{numbered_slots}
use Rattle.d64_survey.specs.Flaws.{any_unreadable}
use Rattle.d64_survey.specs.Owners.{directory_way, way_slots, blocks_from, pair_of, owned_as, slot_owners, owners, is_owned, is_unowned}
use Rattle.d64_survey.specs.SlotBlocks.{slot_blocks}
use Rattle.d64_survey.specs.Way.{is_whole}
use Rattle.d64_survey.specs.declared.owner.Part.TheVariants.{Data, Side}
use Rattle.d64_survey.specs.declared.owner.Owner.{Owner}
use Rattle.d64_survey.specs.declared.owner.Owner.TheVariants.{Directory, File}
use Rattle.d64_scratched.specs.LossLaws.{IsUntouched, WholeFilesAreUntouched}
use Rattle.d64_scratched.specs.Scratched.{scratched_way, is_claimed_below, is_scratched_missized, where_lost, losses}
use Rattle.d64_scratched.specs.declared.loss.Loss.TheVariants.{Chain, Reused, Marked, Size, Claimed, Unreadable}

-- if no reason holds, each test fails
none_lost : (chain reused marked size claimed unreadable : Bool)
    → where_lost chain Chain ++ (where_lost reused Reused ++ (where_lost marked Marked ++ (where_lost size Size ++ (where_lost claimed Claimed ++ where_lost unreadable Unreadable)))) ≡ []
    → (reused ≡ false) × (marked ≡ false) × (claimed ≡ false)
none_lost true reused marked size claimed unreadable h = absurd (cc)
none_lost false true marked size claimed unreadable h = absurd (cc)
none_lost false false true size claimed unreadable h = absurd (cc)
none_lost false false false true claimed unreadable h = absurd (cc)
none_lost false false false false true unreadable h = absurd (cc)
none_lost false false false false false unreadable h = (refl, refl, refl)

-- a block is among blocks with their owners
abbrev has : ℕ → List (ℕ × Owner) → Bool
has block owned = list_any (λ (o : ℕ × Owner). nat_eq block o.0) owned

is_some : (n : ℕ) → nat_lt 0 (suc n) ≡ true
is_some n = grind (arith, nat_tests)

-- a block of which no owner is found isn't among them
has_none : (block : ℕ) (owned : List (ℕ × Owner)) → nat_lt 0 (length (map (λ (o : ℕ × Owner). o.1) (filter (λ (o : ℕ × Owner). nat_eq block o.0) owned))) ≡ false
    → has block owned ≡ false
has_none block [] h = refl
has_none block (o ∷ owned) h = by_test (nat_eq block o.0) (has_none block owned) h
  where
    by_test : (same : Bool)
        → (nat_lt 0 (length (map (λ (o : ℕ × Owner). o.1) (filter (λ (o : ℕ × Owner). nat_eq block o.0) owned))) ≡ false → has block owned ≡ false)
        → nat_lt 0 (length (map (λ (o : ℕ × Owner). o.1) (cond same (o ∷ filter (λ (o : ℕ × Owner). nat_eq block o.0) owned) (filter (λ (o : ℕ × Owner). nat_eq block o.0) owned)))) ≡ false
        → (same || has block owned) ≡ false
    by_test true others h = absurd (let e : true ≡ false = sym (is_some (length (map (λ (o : ℕ × Owner). o.1) (filter (λ (o : ℕ × Owner). nat_eq block o.0) owned)))) ∙ h in cc)
    by_test false others h = others h

-- among the blocks of one owner
has-owned_as : (block : ℕ) (owner : Owner) (blocks : List ℕ) → has block (owned_as owner blocks) ≡ list_any (nat_eq block) blocks
has-owned_as block owner [] = refl
has-owned_as block owner (one ∷ blocks) = ap (λ (b : Bool). nat_eq block one || b) (has-owned_as block owner blocks)

-- among those of a slot's file
has-slot_owners : (image : List (List ℕ)) (block : ℕ) (file : ℕ × List ℕ) → has block (slot_owners image file) ≡ list_any (nat_eq block) (slot_blocks image file.1)
has-slot_owners image block file =
    let first : List (ℕ × Owner) = owned_as (File file.0 Data) (blocks_from image (pair_of Data file.1)) in
    let second : List (ℕ × Owner) = owned_as (File file.0 Side) (blocks_from image (pair_of Side file.1)) in
    list_any-append (λ (o : ℕ × Owner). nat_eq block o.0) first second
    ∙ ap (λ (b : Bool). b || has block second) (has-owned_as block (File file.0 Data) (blocks_from image (pair_of Data file.1)))
    ∙ ap (λ (b : Bool). list_any (nat_eq block) (blocks_from image (pair_of Data file.1)) || b) (has-owned_as block (File file.0 Side) (blocks_from image (pair_of Side file.1)))
    ∙ sym (list_any-append (nat_eq block) (blocks_from image (pair_of Data file.1)) (blocks_from image (pair_of Side file.1)))

-- among those of files
no_file : (image : List (List ℕ)) (block : ℕ) (files : List (ℕ × List ℕ)) → has block (flat_map (slot_owners image) files) ≡ false
    → All (λ (file : ℕ × List ℕ). list_any (nat_eq block) (slot_blocks image file.1) ≡ false) files
no_file image block [] h = All-nil (λ (file : ℕ × List ℕ). list_any (nat_eq block) (slot_blocks image file.1) ≡ false)
no_file image block (file ∷ files) h =
    let both = or_parts (has block (slot_owners image file)) (has block (flat_map (slot_owners image) files))
    (sym (list_any-append (λ (o : ℕ × Owner). nat_eq block o.0) (slot_owners image file) (flat_map (slot_owners image) files)) ∙ h) in
    All-cons (λ (file : ℕ × List ℕ). list_any (nat_eq block) (slot_blocks image file.1) ≡ false) file files
    (sym (has-slot_owners image block file) ∙ both.0) (no_file image block files both.1)

-- a block that isn't owned, and not unowned, is free
pub is_free : (owned marked : Bool) → owned ≡ false → (not owned && not marked) ≡ false → marked ≡ true
is_free true marked e h = absurd (cc)
is_free false true e h = refl
is_free false false e h = absurd (cc)

-- one block
one : (image : List (List ℕ)) (slot block : ℕ) → is_owned image block ≡ false → is_unowned image block ≡ false → is_claimed_below image slot block ≡ false
    → IsUntouched image slot block
unfolding owners
one image slot block unowned unmarked unclaimed =
    let files : List (ℕ × Owner) = flat_map (slot_owners image) (numbered_slots (way_slots image)) in
    let directory : List (ℕ × Owner) = owned_as Directory (directory_way image).0 in
    let all = or_parts (nat_eq block map_block) (has block (directory ++ files)) (has_none block (owners image) unowned) in
    let rest = or_parts (has block directory) (has block files) (sym (list_any-append (λ (o : ℕ × Owner). nat_eq block o.0) directory files) ∙ all.1) in
    record {
      by_map = all.0;
      by_directory = sym (has-owned_as block Directory (directory_way image).0) ∙ rest.0;
      by_files = no_file image block (numbered_slots (way_slots image)) rest.1;
      free = is_free (is_owned image block) (set.contains (free_blocks image) block) unowned unmarked;
      by_scratched = unclaimed;
    }

-- all blocks
each : (image : List (List ℕ)) (slot : ℕ) (blocks : List ℕ) → list_any (is_owned image) blocks ≡ false → list_any (is_unowned image) blocks ≡ false
    → list_any (is_claimed_below image slot) blocks ≡ false → All (IsUntouched image slot) blocks
each image slot [] a b c = All-nil (IsUntouched image slot)
each image slot (block ∷ blocks) a b c =
    let owned = or_parts (is_owned image block) (list_any (is_owned image) blocks) a in
    let marked = or_parts (is_unowned image block) (list_any (is_unowned image) blocks) b in
    let claimed = or_parts (is_claimed_below image slot block) (list_any (is_claimed_below image slot) blocks) c in
    All-cons (IsUntouched image slot) block blocks (one image slot block owned.0 marked.0 claimed.0) (each image slot blocks owned.1 marked.1 claimed.1)

pub whole-untouched : WholeFilesAreUntouched
unfolding losses
whole-untouched image codes slot cell none =
    let way = scratched_way image cell in
    let parts = none_lost (not (is_whole way.1)) (list_any (is_owned image) way.0) (list_any (is_unowned image) way.0) (is_scratched_missized cell way)
    (list_any (is_claimed_below image slot) way.0) (any_unreadable codes way.0) none in
    each image slot way.0 parts.0 parts.1 parts.2
