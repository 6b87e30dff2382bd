-- the image after a file's bytes are written along blocks
use Rattle.std.proofs.Common.{◌≡◌, ℕ, suc, ◌+◌, ◌-◌, ◌*◌, ◌<◌, ◌≤◌, Bool, true, false, cond, eqb, nat_eq, List, [], ◌∷◌, ◌++◌, length, get_or, take, drop, Option, Some, None, refl, sym, ap, ap₂, ◌∙◌, subst, inl, inr, arith}
use Rattle.std.specs.Prelude.{All, slice_index}
use Rattle.std.specs.List.{list_any, IsDistinct}
use Rattle.std.specs.Option.{option_and_then}
use Rattle.std.proofs.Math.ListN.{replicate}
use Rattle.std.proofs.lemmas.Bool.{or_parts, lt-ltb, ne_eqb}
use Rattle.std.proofs.lemmas.Bool.Decides.{nat_tests, eqb_tells}
use Rattle.std.proofs.lemmas.List.{append-nil, length-append, length-take, length-take-le, length-drop, length-replicate, length-set, get_or-set_same, get_or-set_other, take-append-drop, take_all, take_at}
use Rattle.std.proofs.lemmas.List.Elements.{All-cons, All-head, All-tail, All-set, All-append, All-replicate, All-take, All-drop}
use Rattle.d64_image.specs.Disk.{AreBytes}
use Rattle.d64_image.specs.declared.block.TheConstants.{BLOCKS}
use Rattle.d64_image.specs.Block.{pair_at, block_of}
use Rattle.d64_image.specs.Image.{IsBlock, IsSize, IsImage, sector_at, with_sector}
use Rattle.d64_image.proofs.Pairs.{counted_apart, block_of-pair_at}
use Rattle.d64_map.proofs.Maps.{sectors_few}
use Rattle.d64_files.specs.Chain.{Chain, link_to, link_of, led_by, block_in, held_block}
use Rattle.d64_files.specs.FileData.{data_of, data_along}
use Rattle.d64_files.specs.Writing.{blocks_for, linked_block, last_block, with_chain}
use Rattle.d64_files.proofs.Chains.{chain_of_one, chain_before}
use Rattle.d64_files.proofs.FileBlocks.{needs_one, fills_first, needs_less}
use Rattle.d64_files.proofs.Repeats.{not_among}

-- blocks that a file's bytes fit: as many as it needs, different ones, each one of n in all
pub record Fits (total : ℕ) (taken bytes : List ℕ) : Type 0 where
  pub count : length taken ≡ blocks_for (length bytes)
  pub distinct : IsDistinct nat_eq taken
  pub within : All (λ block. block < total) taken

-- its blocks hold its bytes
pub blocks_for-enough : (n : ℕ) → n ≤ 254 * blocks_for n
blocks_for-enough n = grind (arith, nat_tests)

-- one block holds a file only if its bytes are that few
one_holds : (n : ℕ) → 1 ≡ blocks_for n → n ≤ 254
one_holds n e = let h = blocks_for-enough n in omega arith

-- a file of several blocks fills the first, and the bytes after it need one block less
rest_needs : (n k : ℕ) → suc (suc k) ≡ blocks_for n → (254 < n) × (suc k ≡ blocks_for (n - 254))
rest_needs n k e =
    let more = fills_first n (omega arith) in
    let less = needs_less n more in
    (more, omega arith)

-- blocks that these bytes fill: each but the last one whole
FilledBy : List ℕ → ℕ → Type 0
FilledBy [] n = ⊥
FilledBy (block ∷ []) n = n ≤ 254
FilledBy (block ∷ next ∷ rest) n = (254 < n) × FilledBy (next ∷ rest) (n - 254)

-- as many blocks as a file needs are filled by its bytes
filled_by_count : (taken : List ℕ) (n : ℕ) → length taken ≡ blocks_for n → FilledBy taken n
unfolding FilledBy
filled_by_count [] n e = absurd (let h = needs_one n in omega arith)
filled_by_count (block ∷ []) n e = one_holds n e
filled_by_count (block ∷ next ∷ rest) n e =
    let parts = rest_needs n (length rest) e in (parts.0, filled_by_count (next ∷ rest) (n - 254) parts.1)

-- the bytes after the first block fill the other ones
filled_rest : (block next : ℕ) (rest bytes : List ℕ) → FilledBy (block ∷ next ∷ rest) (length bytes) → FilledBy (next ∷ rest) (length (drop 254 bytes))
unfolding FilledBy
filled_rest block next rest bytes filled = subst (FilledBy (next ∷ rest)) (sym (length-drop 254 bytes)) filled.1

-- the first block is whole
filled_first : (block next : ℕ) (rest bytes : List ℕ) → FilledBy (block ∷ next ∷ rest) (length bytes) → 254 < length bytes
unfolding FilledBy
filled_first block next rest bytes filled = filled.0

-- the last one needn't be
filled_last : (block : ℕ) (bytes : List ℕ) → FilledBy (block ∷ []) (length bytes) → length bytes ≤ 254
unfolding FilledBy
filled_last block bytes filled = filled

-- there are as many sectors as before
pub length-with_chain : (image : List (List ℕ)) (taken bytes : List ℕ) → length (with_chain image taken bytes) ≡ length image
unfolding with_chain
length-with_chain image [] bytes = refl
length-with_chain image (block ∷ []) bytes = length-set image block (last_block bytes)
length-with_chain image (block ∷ next ∷ rest) bytes =
    length-with_chain (with_sector image block (linked_block next bytes)) (next ∷ rest) (drop 254 bytes) ∙ length-set image block (linked_block next bytes)

-- a sector other than the one that is replaced
sector_at-other : (image : List (List ℕ)) (block q : ℕ) (bytes : List ℕ) → eqb q block ≡ false → sector_at (with_sector image block bytes) q ≡ sector_at image q
sector_at-other image block q bytes differ =
    elim (eqb_tells q block) [
      | inl e ↦ let f : true ≡ false = sym e.0 ∙ differ in cc
      | inr e ↦ get_or-set_other image block q bytes [] e.1
    ]

-- a block other than those of the chain keeps its bytes
pub sector_at-with_chain : (image : List (List ℕ)) (taken bytes : List ℕ) (block : ℕ) → list_any (nat_eq block) taken ≡ false
    → sector_at (with_chain image taken bytes) block ≡ sector_at image block
unfolding with_chain
sector_at-with_chain image [] bytes q fresh = refl
sector_at-with_chain image (block ∷ []) bytes q fresh = sector_at-other image block q (last_block bytes) (or_parts (eqb q block) false fresh).0
sector_at-with_chain image (block ∷ next ∷ rest) bytes q fresh =
    let parts = or_parts (eqb q block) (list_any (eqb q) (next ∷ rest)) fresh in
    sector_at-with_chain (with_sector image block (linked_block next bytes)) (next ∷ rest) (drop 254 bytes) q parts.1
    ∙ sector_at-other image block q (linked_block next bytes) parts.0

-- the pair of a block is one of bytes
pub pair_small : (block : ℕ) → block < BLOCKS → ((pair_at block).0 < 256) × ((pair_at block).1 < 256)
pair_small block inside =
    let c = counted_apart (pair_at block).0 (pair_at block).1 block inside refl in
    let few = sectors_few (pair_at block).0 in
    let last = c.1 in
    let held = c.2 in (omega arith, omega arith)

-- its track isn't the 0 that ends a chain
track_some : (block : ℕ) → block < BLOCKS → eqb (pair_at block).0 0 ≡ false
track_some block inside =
    let c = counted_apart (pair_at block).0 (pair_at block).1 block inside refl in
    let one = c.0 in
    ne_eqb (pair_at block).0 0 (λ e. omega arith)

-- a block that is linked to another holds 256 bytes
IsBlock-linked_block : (next : ℕ) (bytes : List ℕ) → next < BLOCKS → AreBytes bytes → 254 < length bytes → IsBlock (linked_block next bytes)
IsBlock-linked_block next bytes inside bytes_are more =
    let P : ℕ → Type 0 = λ byte. byte < 256 in
    let part : List ℕ = take 254 bytes in
    let long : length part ≡ 254 = length-take-le 254 bytes (omega arith) in
    let small = pair_small next inside in (
      omega arith,
      All-cons P (pair_at next).0 ((pair_at next).1 ∷ part) small.0 (All-cons P (pair_at next).1 part small.1 (All-take P 254 bytes bytes_are)),
    )

-- so does the last one
IsBlock-last_block : (bytes : List ℕ) → AreBytes bytes → length bytes ≤ 254 → IsBlock (last_block bytes)
IsBlock-last_block bytes bytes_are few =
    let P : ℕ → Type 0 = λ byte. byte < 256 in
    let zeros : List ℕ = replicate (254 - length bytes) 0 in
    let long = length-append bytes zeros in
    let filler : length zeros ≡ 254 - length bytes = length-replicate (254 - length bytes) 0 in (
      omega arith,
      All-cons P 0 ((length bytes + 1) ∷ (bytes ++ zeros)) (omega arith)
          (All-cons P (length bytes + 1) (bytes ++ zeros) (omega arith)
          (All-append P bytes zeros bytes_are (All-replicate P (254 - length bytes) 0 (omega arith)))),
    )

-- an image with a block replaced is an image
IsImage-with_sector : (image : List (List ℕ)) (block : ℕ) (bytes : List ℕ) → IsImage image → IsBlock bytes → IsImage (with_sector image block bytes)
IsImage-with_sector image block bytes is one = (subst IsSize (sym (length-set image block bytes)) is.0, All-set IsBlock image block bytes one is.1)

-- blocks of an image of n blocks
module _ (total : ℕ) (most : total ≤ BLOCKS) where
  -- what is written along the blocks leaves an image
  IsImage-filled : (image : List (List ℕ)) (taken bytes : List ℕ) → IsImage image → AreBytes bytes → FilledBy taken (length bytes)
      → All (λ block. block < total) taken → IsImage (with_chain image taken bytes)
  unfolding with_chain
  IsImage-filled image [] bytes is bytes_are filled inside = is
  IsImage-filled image (block ∷ []) bytes is bytes_are filled inside =
      IsImage-with_sector image block (last_block bytes) is (IsBlock-last_block bytes bytes_are (filled_last block bytes filled))
  IsImage-filled image (block ∷ next ∷ rest) bytes is bytes_are filled inside =
      let P : ℕ → Type 0 = λ b. b < total in
      let others : All P (next ∷ rest) = All-tail P block (next ∷ rest) inside in
      let inside_next = All-head P next rest others in
      let one = IsBlock-linked_block next bytes (omega arith) bytes_are (filled_first block next rest bytes filled) in
      IsImage-filled (with_sector image block (linked_block next bytes)) (next ∷ rest) (drop 254 bytes)
      (IsImage-with_sector image block (linked_block next bytes) is one)
      (All-drop (λ byte. byte < 256) 254 bytes bytes_are) (filled_rest block next rest bytes filled) others

  -- the image with a file's bytes is an image
  pub IsImage-with_chain : (image : List (List ℕ)) (taken bytes : List ℕ) → IsImage image → AreBytes bytes → Fits total taken bytes
      → IsImage (with_chain image taken bytes)
  IsImage-with_chain image taken bytes is bytes_are fits =
      IsImage-filled image taken bytes is bytes_are (filled_by_count taken (length bytes) fits.count) fits.within

-- the first of different blocks isn't among the other ones
first_fresh : (block : ℕ) (others : List ℕ) → IsDistinct eqb (block ∷ others) → list_any (eqb block) others ≡ false
unfolding IsDistinct
first_fresh block others h = not_among block others h.0

-- which are different ones too
others_distinct : (block : ℕ) (others : List ℕ) → IsDistinct eqb (block ∷ others) → IsDistinct eqb others
unfolding IsDistinct
others_distinct block others h = h.1

-- the first block is written before the other ones
written_first : (image : List (List ℕ)) (block next : ℕ) (rest bytes : List ℕ)
    → with_chain image (block ∷ next ∷ rest) bytes ≡ with_chain (with_sector image block (linked_block next bytes)) (next ∷ rest) (drop 254 bytes)
unfolding with_chain
written_first image block next rest bytes = refl

-- the last block of a chain holds what was written to it
last_holds : (image : List (List ℕ)) (block : ℕ) (bytes : List ℕ) → block < length image
    → sector_at (with_chain image (block ∷ []) bytes) block ≡ last_block bytes
unfolding with_chain
last_holds image block bytes inside = get_or-set_same image block (last_block bytes) [] inside

-- so does each other one, since what is written later goes to other blocks
first_holds : (image : List (List ℕ)) (block next : ℕ) (rest bytes : List ℕ) → block < length image → list_any (eqb block) (next ∷ rest) ≡ false
    → sector_at (with_chain image (block ∷ next ∷ rest) bytes) block ≡ linked_block next bytes
unfolding with_chain
first_holds image block next rest bytes inside fresh =
    sector_at-with_chain (with_sector image block (linked_block next bytes)) (next ∷ rest) (drop 254 bytes) block fresh
    ∙ get_or-set_same image block (linked_block next bytes) [] inside

-- a track of 0 ends a chain
ends : (image : List (List ℕ)) (block n : ℕ) (rest : List ℕ) → block < length image → sector_at image block ≡ 0 ∷ n ∷ rest → Chain image block (block ∷ [])
unfolding led_by
ends image block n rest inside e =
    chain_of_one image block inside (ap (λ (sector : List ℕ). led_by image (get_or sector 0 0, get_or sector 1 0)) e)

-- the pair of a block leads to it
pub leads_to : (image : List (List ℕ)) (next : ℕ) → next < BLOCKS → next < length image → led_by image (pair_at next) ≡ link_to (Some next)
unfolding led_by block_in
leads_to image next inside there =
    ap (λ (t : Bool). cond t (led_by image (0, 0)) (link_to (option_and_then (held_block image) (block_of (pair_at next).0 (pair_at next).1))))
    (track_some next inside)
    ∙ ap (λ (found : Option ℕ). link_to (option_and_then (held_block image) found)) (block_of-pair_at next inside)
    ∙ ap (λ (t : Bool). link_to (cond t (Some next) None)) (lt-ltb next (length image) there)

-- so does the link of a block that holds it
linked : (image : List (List ℕ)) (block next : ℕ) (rest : List ℕ) → next < BLOCKS → next < length image
    → sector_at image block ≡ (pair_at next).0 ∷ (pair_at next).1 ∷ rest → link_of image block ≡ link_to (Some next)
linked image block next rest inside there e =
    ap (λ (sector : List ℕ). led_by image (get_or sector 0 0, get_or sector 1 0)) e ∙ leads_to image next inside there

-- blocks of an image of n blocks
module _ (total : ℕ) (most : total ≤ BLOCKS) where
  -- what is written along the blocks is a chain
  Chain-along : (image : List (List ℕ)) (block : ℕ) (others bytes : List ℕ) → length image ≡ total → IsDistinct eqb (block ∷ others)
      → All (λ b. b < total) (block ∷ others) → Chain (with_chain image (block ∷ others) bytes) block (block ∷ others)
  Chain-along image block [] bytes long different inside =
      let here : block < total = All-head (λ b. b < total) block [] inside in
      let same = length-with_chain image (block ∷ []) bytes in
      ends (with_chain image (block ∷ []) bytes) block (length bytes + 1) (bytes ++ replicate (254 - length bytes) 0) (omega arith)
      (last_holds image block bytes (omega arith))
  Chain-along image block (next ∷ rest) bytes long different inside =
      let P : ℕ → Type 0 = λ b. b < total in
      let here : block < total = All-head P block (next ∷ rest) inside in
      let others : All P (next ∷ rest) = All-tail P block (next ∷ rest) inside in
      let there : next < total = All-head P next rest others in
      let fresh = first_fresh block (next ∷ rest) different in
      let same = length-with_chain image (block ∷ next ∷ rest) bytes in
      chain_before (with_chain image (block ∷ next ∷ rest) bytes) block next rest (omega arith)
      (linked (with_chain image (block ∷ next ∷ rest) bytes) block next (take 254 bytes) (omega arith) (omega arith)
      (first_holds image block next rest bytes (omega arith) fresh))
      (subst (λ (made : List (List ℕ)). Chain made next (next ∷ rest)) (sym (written_first image block next rest bytes))
      (Chain-along (with_sector image block (linked_block next bytes)) next rest (drop 254 bytes)
      (length-set image block (linked_block next bytes) ∙ long) (others_distinct block (next ∷ rest) different) others))
      fresh

  -- the image with a file's bytes has the chain of its blocks
  pub Chain-with_chain : (image : List (List ℕ)) (taken bytes : List ℕ) → length image ≡ total → Fits total taken bytes
      → Chain (with_chain image taken bytes) (slice_index taken 0) taken
  Chain-with_chain image [] bytes long fits = absurd (let some = needs_one (length bytes) in let e = fits.count in omega arith)
  Chain-with_chain image (block ∷ others) bytes long fits = Chain-along image block others bytes long fits.distinct fits.within

-- the data of a block that is linked to another are its bytes from byte 2 on
data_of-linked_block : (next : ℕ) (bytes : List ℕ) → next < BLOCKS → data_of (linked_block next bytes) ≡ take 254 bytes
data_of-linked_block next bytes inside =
    ap (λ (t : Bool). cond t (take ((pair_at next).1 + 1 - 2) (take 254 bytes)) (take 254 (take 254 bytes))) (track_some next inside)
    ∙ take_all 254 (take 254 bytes) (omega (arith, length-take 254 bytes))

-- the data of the last one are as many as its byte 1 says
data_of-last_block : (bytes : List ℕ) → data_of (last_block bytes) ≡ bytes
data_of-last_block bytes =
    let e : length bytes + 1 + 1 - 2 ≡ length bytes = omega arith in
    ap (λ (n : ℕ). take n (bytes ++ replicate (254 - length bytes) 0)) e ∙ take_at bytes (replicate (254 - length bytes) 0) (length bytes) refl

-- the same data wherever the blocks hold the same
pub data_along-same : (image other : List (List ℕ)) (blocks : List ℕ) → All (λ block. sector_at other block ≡ sector_at image block) blocks
    → data_along other blocks ≡ data_along image blocks
data_along-same image other [] same = refl
data_along-same image other (block ∷ blocks) same =
    let P : ℕ → Type 0 = λ b. sector_at other b ≡ sector_at image b in
    ap₂ (λ (xs ys : List ℕ). xs ++ ys) (ap data_of (All-head P block blocks same)) (data_along-same image other blocks (All-tail P block blocks same))

-- blocks of an image of n blocks
module _ (total : ℕ) (most : total ≤ BLOCKS) where
  -- the data along the blocks are what was written
  data_along-filled : (image : List (List ℕ)) (taken bytes : List ℕ) → length image ≡ total → IsDistinct eqb taken → All (λ block. block < total) taken
      → FilledBy taken (length bytes) → data_along (with_chain image taken bytes) taken ≡ bytes
  unfolding FilledBy
  data_along-filled image [] bytes long different inside filled = absurd filled
  data_along-filled image (block ∷ []) bytes long different inside filled =
      let here : block < total = All-head (λ b. b < total) block [] inside in
      append-nil (data_of (sector_at (with_chain image (block ∷ []) bytes) block))
      ∙ ap data_of (last_holds image block bytes (omega arith)) ∙ data_of-last_block bytes
  data_along-filled image (block ∷ next ∷ rest) bytes long different inside filled =
      let P : ℕ → Type 0 = λ b. b < total in
      let here : block < total = All-head P block (next ∷ rest) inside in
      let others : All P (next ∷ rest) = All-tail P block (next ∷ rest) inside in
      let first = first_holds image block next rest bytes (omega arith) (first_fresh block (next ∷ rest) different) in
      ap₂ (λ (xs ys : List ℕ). xs ++ ys) (ap data_of first ∙ data_of-linked_block next bytes (let t = All-head P next rest others in omega arith))
      (ap (λ (made : List (List ℕ)). data_along made (next ∷ rest)) (written_first image block next rest bytes)
      ∙ data_along-filled (with_sector image block (linked_block next bytes)) (next ∷ rest) (drop 254 bytes)
      (length-set image block (linked_block next bytes) ∙ long) (others_distinct block (next ∷ rest) different) others (filled_rest block next rest bytes filled))
      ∙ take-append-drop 254 bytes

  -- the data along a file's blocks are its bytes
  pub data_along-with_chain : (image : List (List ℕ)) (taken bytes : List ℕ) → length image ≡ total → Fits total taken bytes
      → data_along (with_chain image taken bytes) taken ≡ bytes
  data_along-with_chain image taken bytes long fits =
      data_along-filled image taken bytes long fits.distinct fits.within (filled_by_count taken (length bytes) fits.count)
