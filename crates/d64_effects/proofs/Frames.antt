-- what a slot owns and shows on images that hold the same in the blocks of its chains
use Rattle.std.proofs.Common.{◌≡◌, ◌≢◌, ℕ, zero, suc, ◌≤◌, Bool, false, cond, ltb, List, [], ◌∷◌, ◌++◌, length, map, drop, get_or, Option, Some, None, refl, sym, ap, ap₂, ◌∙◌, subst, arith}
use Rattle.std.specs.Prelude.{All, slice_get}
use Rattle.std.specs.List.{flat_map}
use Rattle.std.specs.Option.{option_map_or, option_and_then}
use Rattle.std.proofs.lemmas.List.Elements.{All-nil, All-cons, All-head, All-tail}
use Rattle.d64_image.specs.Block.{block_of}
use Rattle.d64_image.specs.Image.{sector_at}
use Rattle.d64_files.specs.Chain.{chain, block_in}
use Rattle.d64_files.specs.FileData.{data_along}
use Rattle.d64_files.specs.Ownership.{roots, chain_at, owned_by, HasItsChains}
use Rattle.d64_files.specs.Slot.{is_used, is_closed, is_locked, kind_of, field_of, size_of}
use Rattle.d64_files.proofs.Chains.{kept, chain-is, is_chain}
use Rattle.d64_files.specs.declared.kind.Kind.{Kind}
use Rattle.d64_effects.proofs.CellFields.{SameBeyondLink, is_used-beyond_link, kind_of-beyond_link, is_closed-beyond_link, is_locked-beyond_link, field_of-beyond_link, size_of-beyond_link, roots-beyond_link}
use Rattle.d64_effects.specs.View.{FileView, chain_of_root, file_view, slot_view}
use Rattle.d64_effects.proofs.FileChains.{data_along-same}
use Rattle.d64_effects.proofs.Occurrences.{joined, occurs, occurs-append, occurs-present, All-from_occurs}
use Rattle.d64_effects.proofs.Rows.{joined-map}

-- what a slot shows, part by part
abbrev pub shown : Bool → List ℕ → Kind → Bool → Bool → ℕ → List ℕ → List ℕ → List ℕ → Option FileView
shown used field kind closed locked size blocks side content =
    cond used (Some record {
      field = field;
      kind = kind;
      closed = closed;
      locked = locked;
      size = size;
      blocks = blocks;
      side_blocks = side;
      content = content;
    }) None

-- images that hold the same in these blocks
abbrev pub Agree : List (List ℕ) → List (List ℕ) → List ℕ → Type 0
Agree image other blocks = (block : ℕ) → 1 ≤ occurs block blocks → sector_at other block ≡ sector_at image block

-- of lists one after another, each
agree_first : (image other : List (List ℕ)) (blocks more : List ℕ) → Agree image other (blocks ++ more) → Agree image other blocks
agree_first image other blocks more agree block h = agree block (let e = occurs-append block blocks more in omega arith)

agree_second : (image other : List (List ℕ)) (blocks more : List ℕ) → Agree image other (blocks ++ more) → Agree image other more
agree_second image other blocks more agree block h = agree block (let e = occurs-append block blocks more in omega arith)

-- the chain from a block
chain-same : (image other : List (List ℕ)) (start : ℕ) → chain image start ≢ [] → length other ≡ length image → Agree image other (chain image start)
    → chain other start ≡ chain image start
chain-same image other start some long agree =
    chain-is other start (chain image start) (kept image other start (chain image start) (is_chain image start (chain image start) refl some) long
    (λ block found. ap (λ (bytes : List ℕ). (get_or bytes 0 0, get_or bytes 1 0)) (agree block (occurs-present block (chain image start) found))))

-- the block of a track and a sector, in images of the same length
block_in-same : (image other : List (List ℕ)) (track sector : ℕ) → length other ≡ length image → block_in other track sector ≡ block_in image track sector
unfolding block_in
block_in-same image other track sector long =
    ap (λ (n : ℕ). option_and_then (λ block. cond (ltb block n) (Some block) None) (block_of track sector)) long

-- the chain from a root
pub chain_at-same : (image other : List (List ℕ)) (root : ℕ × ℕ) → chain_at image root ≢ [] → length other ≡ length image
    → Agree image other (chain_at image root) → chain_at other root ≡ chain_at image root
chain_at-same image other root some long agree =
    ap (λ (block : Option ℕ). option_map_or (chain other) block []) (block_in-same image other root.0 root.1 long)
    ∙ by_block (block_in image root.0 root.1) some agree
  where
    by_block : (block : Option ℕ) → option_map_or (chain image) block [] ≢ [] → Agree image other (option_map_or (chain image) block [])
        → option_map_or (chain other) block [] ≡ option_map_or (chain image) block []
    by_block None some agree = refl
    by_block (Some start) some agree = chain-same image other start some long agree

-- the chains from all roots
chains-same : (image other : List (List ℕ)) (from : List (ℕ × ℕ)) → All (λ root. chain_at image root ≢ []) from → length other ≡ length image
    → Agree image other (flat_map (chain_at image) from) → map (chain_at other) from ≡ map (chain_at image) from
chains-same image other [] all long agree = refl
chains-same image other (root ∷ from) all long agree =
    let later : List ℕ = flat_map (chain_at image) from in
    ap₂ (λ (blocks : List ℕ) (rest : List (List ℕ)). blocks ∷ rest)
    (chain_at-same image other root (All-head (λ r. chain_at image r ≢ []) root from all) long (agree_first image other (chain_at image root) later agree))
    (chains-same image other from (All-tail (λ r. chain_at image r ≢ []) root from all) long (agree_second image other (chain_at image root) later agree))

-- the chain of a place among the roots is that of its place among the chains
chain_of_place : (image : List (List ℕ)) (from : List (ℕ × ℕ)) (place : ℕ)
    → option_map_or (chain_at image) (slice_get from place) [] ≡ get_or (map (chain_at image) from) place []
chain_of_place image [] place = refl
chain_of_place image (root ∷ from) zero = refl
chain_of_place image (root ∷ from) (suc place) = chain_of_place image from place

module _ (image other : List (List ℕ)) (cell : List ℕ) (has : HasItsChains image cell) (long : length other ≡ length image)
    (agree : Agree image other (owned_by image cell)) where
  all_same : map (chain_at other) (roots cell) ≡ map (chain_at image) (roots cell)
  all_same = chains-same image other (roots cell) has long agree

  -- what a slot owns
  pub owned_by-same : owned_by other cell ≡ owned_by image cell
  owned_by-same =
      sym (joined-map (chain_at other) (roots cell)) ∙ ap joined all_same ∙ joined-map (chain_at image) (roots cell)

  pub chain_of_root-same : (place : ℕ) → chain_of_root other cell place ≡ chain_of_root image cell place
  chain_of_root-same place =
      chain_of_place other (roots cell) place ∙ ap (λ (chains : List (List ℕ)). get_or chains place []) all_same ∙ sym (chain_of_place image (roots cell) place)

  -- its chains are there
  pub HasItsChains-same : HasItsChains other cell
  HasItsChains-same = there (roots cell) has all_same
    where
      there : (from : List (ℕ × ℕ)) → All (λ root. chain_at image root ≢ []) from → map (chain_at other) from ≡ map (chain_at image) from
          → All (λ root. chain_at other root ≢ []) from
      there [] all e = All-nil (λ root. chain_at other root ≢ [])
      there (root ∷ from) all e =
          All-cons (λ r. chain_at other r ≢ []) root from
          (λ none. All-head (λ r. chain_at image r ≢ []) root from all (sym (ap (λ (chains : List (List ℕ)). get_or chains 0 []) e) ∙ none))
          (there from (All-tail (λ r. chain_at image r ≢ []) root from all) (ap (λ (chains : List (List ℕ)). drop 1 chains) e))

  -- the blocks of its first chain are among those that it owns
  first_chain_owned : (from : List (ℕ × ℕ)) (block : ℕ) → 1 ≤ occurs block (option_map_or (chain_at image) (slice_get from 0) [])
      → 1 ≤ occurs block (flat_map (chain_at image) from)
  first_chain_owned [] block h = h
  first_chain_owned (root ∷ from) block h = let e = occurs-append block (chain_at image root) (flat_map (chain_at image) from) in omega arith

  -- its content
  content-same : data_along other (chain_of_root other cell 0) ≡ data_along image (chain_of_root image cell 0)
  content-same =
      ap (data_along other) (chain_of_root-same 0)
      ∙ data_along-same image other (chain_of_root image cell 0)
      (All-from_occurs (λ block. sector_at other block ≡ sector_at image block) (chain_of_root image cell 0)
      (λ block h. agree block (first_chain_owned (roots cell) block h)))

  -- what it shows
  pub slot_view-same : slot_view other cell ≡ slot_view image cell
  unfolding slot_view
  slot_view-same = λ i.
      shown (is_used cell) (field_of cell) (kind_of cell) (is_closed cell) (is_locked cell) (size_of cell)
      (chain_of_root-same 0 i) (chain_of_root-same 1 i) (content-same i)

-- what a slot shows does not depend on its link
pub slot_view-beyond_link : (image : List (List ℕ)) (cell other : List ℕ) → SameBeyondLink cell other → slot_view image cell ≡ slot_view image other
unfolding slot_view
slot_view-beyond_link image cell other same = λ i.
    let from = roots-beyond_link cell other same i in
    let blocks = option_map_or (chain_at image) (slice_get from 0) [] in
    shown (is_used-beyond_link cell other same i) (field_of-beyond_link cell other same i) (kind_of-beyond_link cell other same i)
    (is_closed-beyond_link cell other same i) (is_locked-beyond_link cell other same i) (size_of-beyond_link cell other same i)
    blocks (option_map_or (chain_at image) (slice_get from 1) []) (data_along image blocks)

-- nor does what it owns
pub owned_by-beyond_link : (image : List (List ℕ)) (cell other : List ℕ) → SameBeyondLink cell other → owned_by image cell ≡ owned_by image other
owned_by-beyond_link image cell other same = ap (flat_map (chain_at image)) (roots-beyond_link cell other same)

pub HasItsChains-beyond_link : (image : List (List ℕ)) (cell other : List ℕ) → SameBeyondLink cell other → HasItsChains image cell → HasItsChains image other
HasItsChains-beyond_link image cell other same has = subst (All (λ (root : ℕ × ℕ). chain_at image root ≢ [])) (roots-beyond_link cell other same) has

-- what a slot shows, by whether it is used
pub slot_view-is : (image : List (List ℕ)) (cell : List ℕ) → slot_view image cell ≡ cond (is_used cell) (Some (file_view image cell)) None
unfolding slot_view
slot_view-is image cell = refl

-- an unused slot shows nothing
pub slot_view-unused : (image : List (List ℕ)) (cell : List ℕ) → is_used cell ≡ false → slot_view image cell ≡ None
unfolding slot_view
slot_view-unused image cell unused = ap (λ (used : Bool). cond used (Some (file_view image cell)) None) unused

-- a slot whose chains are there, in blocks that hold the same
abbrev pub Framed : List (List ℕ) → List (List ℕ) → List ℕ → Type 0
Framed image other cell = HasItsChains image cell × Agree image other (owned_by image cell)

-- if the blocks of all slots have the same bytes, those of each do
pub framed : (image other : List (List ℕ)) (cells : List (List ℕ)) → All (HasItsChains image) cells
    → Agree image other (flat_map (owned_by image) cells) → All (Framed image other) cells
framed image other [] has agree = All-nil (Framed image other)
framed image other (cell ∷ cells) has agree =
    let later : List ℕ = flat_map (owned_by image) cells in
    All-cons (Framed image other) cell cells
    (All-head (HasItsChains image) cell cells has, agree_first image other (owned_by image cell) later agree)
    (framed image other cells (All-tail (HasItsChains image) cell cells has) (agree_second image other (owned_by image cell) later agree))
