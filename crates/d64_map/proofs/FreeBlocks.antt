-- the blocks that a map marks free
use Rattle.std.proofs.Common.{◌≡◌, ℕ, ◌+◌, ◌<◌, ◌≤◌, ◌&&◌, Bool, true, false, ltb, nat_eq, List, length, sym, ap, ◌∙◌, arith}
use Rattle.std.specs.List.{range_with_len, list_any}
use Rattle.std.specs.FinSet as set
use Rattle.std.proofs.lemmas.Bool.Decides.{nat_tests}
use Rattle.d64_image.specs.declared.block.TheConstants.{BLOCKS}
use Rattle.d64_image.specs.Block.{sectors_on, first_block, pair_at}
use Rattle.d64_image.specs.Image.{sector_at}
use Rattle.d64_image.proofs.Pairs.{pair_at-counted}
use Rattle.d64_map.specs.Map.{map_block, blocks, bit_in, is_free, free_blocks}
use Rattle.d64_map.proofs.Ranges.{any-range, contains-filtered}

-- all blocks, counted one after another
pub all_blocks : (n : ℕ) → n ≡ BLOCKS → range_with_len 0 n ≡ blocks
unfolding blocks
all_blocks n e = ap (range_with_len 0) e

-- the numbers below n are those of n blocks
pub any-below : (n q : ℕ) → list_any (λ y. nat_eq y q) (range_with_len 0 n) ≡ ltb q n
any-below n q = any-range 0 n q ∙ grind (arith, nat_tests)

-- a block is free if the image has it and its bit is 1
pub contains-free_blocks-both : (image : List (List ℕ)) (block : ℕ) → set.contains (free_blocks image) block ≡ (ltb block (length image) && is_free image block)
unfolding free_blocks
contains-free_blocks-both image block =
    contains-filtered (is_free image) (range_with_len 0 (length image)) block
    ∙ ap (λ (b : Bool). b && is_free image block) (any-below (length image) block)

-- a block is free if its bit is 1
pub contains-free_blocks : (image : List (List ℕ)) (block : ℕ) → block < length image → set.contains (free_blocks image) block ≡ is_free image block
contains-free_blocks image block h =
    contains-free_blocks-both image block
    ∙ ap (λ (b : Bool). b && is_free image block) (let e : ltb block (length image) ≡ true = grind (arith, nat_tests) in e)

-- no number past the last block is free
pub contains-free_blocks-past : (image : List (List ℕ)) (block : ℕ) → length image ≤ block → set.contains (free_blocks image) block ≡ false
contains-free_blocks-past image block h =
    contains-free_blocks-both image block
    ∙ ap (λ (b : Bool). b && is_free image block) (let e : ltb block (length image) ≡ false = grind (arith, nat_tests) in e)

-- the bit of a block's track and sector says whether the block is free
pub bit_decides : (image : List (List ℕ)) (block track sector : ℕ) (bytes : List ℕ) → bytes ≡ sector_at image map_block
    → track ≡ (pair_at block).0 → sector ≡ (pair_at block).1 → nat_eq (bit_in bytes track sector) 1 ≡ is_free image block
unfolding is_free
bit_decides image block track sector bytes e f g =
    ap (λ (x : List ℕ). nat_eq (bit_in x track sector) 1) e
    ∙ ap (λ (t : ℕ). nat_eq (bit_in (sector_at image map_block) t sector) 1) f
    ∙ ap (λ (s : ℕ). nat_eq (bit_in (sector_at image map_block) (pair_at block).0 s) 1) g

-- the bit of a sector that the disk has says whether its block is one of the free blocks
pub bit_is_member : (image : List (List ℕ)) (track sector : ℕ) (bytes : List ℕ) → bytes ≡ sector_at image map_block
    → 1 ≤ track → track < 41 → sector < sectors_on track → first_block track + sector < length image
    → nat_eq (bit_in bytes track sector) 1 ≡ set.contains (free_blocks image) (first_block track + sector)
bit_is_member image track sector bytes e one last held there =
    let pair = pair_at-counted track sector one last held in
    bit_decides image (first_block track + sector) track sector bytes e (sym (ap (λ (p : ℕ × ℕ). p.0) pair)) (sym (ap (λ (p : ℕ × ℕ). p.1) pair))
    ∙ sym (contains-free_blocks image (first_block track + sector) there)
