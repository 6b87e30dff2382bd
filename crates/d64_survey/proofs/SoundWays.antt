-- If an image has no fault, its ways are its chains.
use Rattle.std.proofs.Common.{◌≡◌, ◌≢◌, ℕ, zero, suc, List, [], ◌∷◌, refl, sym, subst, arith}
use Rattle.std.specs.Prelude.{All}
use Rattle.std.specs.List.{slice_get}
use Rattle.std.specs.Option.{option_map_or}
use Rattle.std.proofs.lemmas.List.Elements.{All-nil, All-cons, All-head, All-tail}
use Rattle.d64_files.specs.Ownership.{chain_at, roots, HasItsChains}
use Rattle.d64_files.specs.declared.dir_fault.DirFault.TheVariants as conditions
use Rattle.d64_survey.specs.Owners.{blocks_from}
use Rattle.d64_survey.specs.FaultLaws.{WaysAreItsChains, WaysAreChainsWhereSound}
use Rattle.d64_survey.specs.declared.owner.Part.TheVariants.{Data, Side}
use Rattle.d64_survey.proofs.Owning.{chain_is_way, slots_are, owned_are}
use Rattle.d64_survey.proofs.FaultOrder.{sound}

-- of pairs that have their chains, the way from each is the chain
way_at : (image : List (List ℕ)) (pairs : List (ℕ × ℕ)) (n : ℕ) → All (λ pair. chain_at image pair ≢ []) pairs
    → blocks_from image (slice_get pairs n) ≡ option_map_or (chain_at image) (slice_get pairs n) []
way_at image [] zero there = refl
way_at image [] (suc n) there = refl
way_at image (pair ∷ pairs) zero there = sym (chain_is_way image pair (All-head (λ pair. chain_at image pair ≢ []) pair pairs there))
way_at image (pair ∷ pairs) (suc n) there = way_at image pairs n (All-tail (λ pair. chain_at image pair ≢ []) pair pairs there)

-- so it is for both parts of a file
ways_at : (image : List (List ℕ)) (cell : List ℕ) → HasItsChains image cell → WaysAreItsChains image cell
ways_at image cell there Data = way_at image (roots cell) 0 there
ways_at image cell there Side = way_at image (roots cell) 1 there

-- and for each slot
all_ways : (image cells : List (List ℕ)) → All (HasItsChains image) cells → All (WaysAreItsChains image) cells
all_ways image [] there = All-nil (WaysAreItsChains image)
all_ways image (cell ∷ cells) there =
    All-cons (WaysAreItsChains image) cell cells (ways_at image cell (All-head (HasItsChains image) cell cells there))
    (all_ways image cells (All-tail (HasItsChains image) cell cells there))

pub ways_are_chains : WaysAreChainsWhereSound
ways_are_chains image size none =
    let holds = (sound image size).0 none in
    let some = holds conditions.NoDirectory (omega arith) (omega arith) in
    let chains = holds conditions.NoChain (omega arith) (omega arith) in
    let same = slots_are image some in
    let there = subst (λ (cells : List (List ℕ)). All (HasItsChains image) cells) same chains in
    (chain_is_way image (18, 1) some, owned_are image some chains, there, all_ways image _ there)
