-- The blocks that have owners.
use Rattle.std.proofs.Common.{◌≡◌, ◌≢◌, ℕ, ◌+◌, ◌≤◌, Bool, true, false, cond, List, [], ◌∷◌, ◌++◌, length, map, Option, Some, None, refl, sym, ap, ap₂, ◌∙◌, arith, append-nil}
use Rattle.std.specs.Prelude.{All}
use Rattle.std.specs.List.{flat_map, slice_get, enumerate_from}
use Rattle.std.specs.Option.{option_to_list}
use Rattle.std.proofs.lemmas.List.{map-append}
use Rattle.std.proofs.lemmas.List.Elements.{All-head, All-tail}
use Rattle.d64_map.specs.Map.{map_block}
use Rattle.d64_files.specs.Slot.{is_closed, kind_of, side_pair}
use Rattle.d64_files.specs.Ownership.{chain_at, roots, roots_of, owned_by, HasItsChains}
use Rattle.d64_files.specs.Directory.{directory, slots, slots_in, owned_blocks}
use Rattle.d64_files.specs.declared.kind.Kind.{Kind}
use Rattle.d64_files.specs.declared.kind.Kind.TheVariants.{Del, Seq, Prg, Usr, Rel}
use Rattle.d64_survey.specs.Way.{way}
use Rattle.d64_survey.specs.Owners.{pair_of, directory_way, way_slots, blocks_from, owned_as, slot_owners, owners, blocks_owned}
use Rattle.d64_survey.specs.SlotBlocks.{slot_blocks}
use Rattle.d64_survey.specs.declared.owner.Part.TheVariants.{Data, Side}
use Rattle.d64_survey.specs.declared.owner.Owner.{Owner}
use Rattle.d64_survey.specs.declared.owner.Owner.TheVariants.{Directory, File}
use Rattle.d64_survey.proofs.Traced.{bounded}

-- the blocks that are owned by one
blocks_as : (owner : Owner) (blocks : List ℕ) → map (λ (o : ℕ × Owner). o.0) (owned_as owner blocks) ≡ blocks
blocks_as owner [] = refl
blocks_as owner (block ∷ blocks) = ap (λ (bs : List ℕ). block ∷ bs) (blocks_as owner blocks)

-- the blocks of owners of two lists
blocks_joined : (owned others : List (ℕ × Owner)) (blocks more : List ℕ) → map (λ (o : ℕ × Owner). o.0) owned ≡ blocks → map (λ (o : ℕ × Owner). o.0) others ≡ more
    → map (λ (o : ℕ × Owner). o.0) (owned ++ others) ≡ blocks ++ more
blocks_joined owned others blocks more e f = map-append (λ (o : ℕ × Owner). o.0) owned others ∙ ap₂ (λ (a b : List ℕ). a ++ b) e f

-- the blocks that a slot's file owns
blocks_of_slot : (image : List (List ℕ)) (slot : ℕ × List ℕ) → map (λ (o : ℕ × Owner). o.0) (slot_owners image slot) ≡ slot_blocks image slot.1
blocks_of_slot image slot =
    let main = blocks_from image (pair_of Data slot.1) in
    let side = blocks_from image (pair_of Side slot.1) in
    blocks_joined (owned_as (File slot.0 Data) main) (owned_as (File slot.0 Side) side) main side (blocks_as (File slot.0 Data) main) (blocks_as (File slot.0 Side) side)

-- the blocks that the files of slots own
blocks_of_slots : (image : List (List ℕ)) (n : ℕ) (cells : List (List ℕ))
    → map (λ (o : ℕ × Owner). o.0) (flat_map (slot_owners image) (enumerate_from n cells)) ≡ flat_map (slot_blocks image) cells
blocks_of_slots image n [] = refl
blocks_of_slots image n (cell ∷ cells) =
    blocks_joined (slot_owners image (n, cell)) (flat_map (slot_owners image) (enumerate_from (n + 1) cells)) (slot_blocks image cell) (flat_map (slot_blocks image) cells)
    (blocks_of_slot image (n, cell)) (blocks_of_slots image (n + 1) cells)

-- all blocks that have an owner
pub blocks_owned-are : (image : List (List ℕ)) → blocks_owned image ≡ map_block ∷ ((directory_way image).0 ++ flat_map (slot_blocks image) (way_slots image))
unfolding owners
blocks_owned-are image =
    let directory = (directory_way image).0 in
    ap (λ (bs : List ℕ). map_block ∷ bs)
    (blocks_joined (owned_as Directory directory) (flat_map (slot_owners image) (enumerate_from 0 (way_slots image))) directory (flat_map (slot_blocks image) (way_slots image))
    (blocks_as Directory directory) (blocks_of_slots image 0 (way_slots image)))

-- if there is a chain it is the way
pub chain_is_way : (image : List (List ℕ)) (pair : ℕ × ℕ) → chain_at image pair ≢ [] → chain_at image pair ≡ (way image pair).0
chain_is_way image pair some = let b = bounded image pair in (b.chain (b.end some)).0

-- at most one
at_most_one : (pair : Option (ℕ × ℕ)) → length (option_to_list pair) ≤ 1
at_most_one None = omega arith
at_most_one (Some pair) = omega arith

-- a slot has at most two ways
few_of : (closed : Bool) (kind : Kind) (cell : List ℕ) → length (cond closed (roots_of kind cell) []) ≤ 2
few_of false kind cell = omega arith
few_of true Del cell = omega arith
few_of true Seq cell = omega arith
few_of true Prg cell = omega arith
few_of true Usr cell = omega arith
few_of true Rel cell = let few = at_most_one (side_pair cell) in omega arith

pub few_roots : (cell : List ℕ) → length (roots cell) ≤ 2
few_roots cell = few_of (is_closed cell) (kind_of cell) cell

-- if there are chains from pairs, they are the ways
ways_of_roots : (image : List (List ℕ)) (pairs : List (ℕ × ℕ)) → length pairs ≤ 2 → All (λ pair. chain_at image pair ≢ []) pairs
    → blocks_from image (slice_get pairs 0) ++ blocks_from image (slice_get pairs 1) ≡ flat_map (chain_at image) pairs
ways_of_roots image [] few there = refl
ways_of_roots image (main ∷ []) few there =
    ap (λ (bs : List ℕ). bs ++ []) (sym (chain_is_way image main (All-head (λ pair. chain_at image pair ≢ []) main [] there)))
ways_of_roots image (main ∷ side ∷ []) few there =
    let rest = All-tail (λ pair. chain_at image pair ≢ []) main (side ∷ []) there in
    ap₂ (λ (a b : List ℕ). a ++ b) (sym (chain_is_way image main (All-head (λ pair. chain_at image pair ≢ []) main (side ∷ []) there)))
    (sym (chain_is_way image side (All-head (λ pair. chain_at image pair ≢ []) side [] rest)) ∙ sym (append-nil (chain_at image side)))
ways_of_roots image (main ∷ side ∷ other ∷ pairs) few there = absurd (omega arith)

-- if slots have their chains, their files own those
owned_by_slots : (image cells : List (List ℕ)) → All (HasItsChains image) cells → flat_map (slot_blocks image) cells ≡ flat_map (owned_by image) cells
owned_by_slots image [] chains = refl
owned_by_slots image (cell ∷ cells) chains =
    ap₂ (λ (a b : List ℕ). a ++ b) (ways_of_roots image (roots cell) (few_roots cell) (All-head (HasItsChains image) cell cells chains))
    (owned_by_slots image cells (All-tail (HasItsChains image) cell cells chains))

-- if the directory has its chain, its way's slots are its slots
pub slots_are : (image : List (List ℕ)) → directory image ≢ [] → slots image ≡ way_slots image
slots_are image some = ap (slots_in image) (chain_is_way image (18, 1) some)

-- and if the files have theirs, what has an owner is owned
pub owned_are : (image : List (List ℕ)) → directory image ≢ [] → All (HasItsChains image) (slots image) → blocks_owned image ≡ owned_blocks image
unfolding owned_blocks
owned_are image some chains =
    blocks_owned-are image
    ∙ ap₂ (λ (a b : List ℕ). map_block ∷ (a ++ b)) (sym (chain_is_way image (18, 1) some))
    (ap (flat_map (slot_blocks image)) (sym (slots_are image some)) ∙ owned_by_slots image (slots image) chains)
