-- what a patch keeps are blocks of bytes
use Rattle.std.proofs.Common.{◌≡◌, ℕ, ◌+◌, ◌<◌, not, List, [], ◌∷◌, ◌++◌, length, take, drop, get_or, nat_eq}
use Rattle.std.specs.Cmp.Lexicographic.{pointwise}
use Rattle.std.specs.List.{insert}
use Rattle.std.proofs.lemmas.List.Elements.{All-nil, All-cons, All-append, All-take, All-drop, All-filter, All-from_get_or}
use Rattle.d64_image.specs.declared.image.TheConstants.{BLOCK_BYTES}
use Rattle.d64_image.specs.Image.{IsBlock, IsImage, sector_at}
use Rattle.d64_image.specs.Patch.{Kept, HaveBlocks, RisesBetween, taken_blocks, trimmed_blocks}

-- an entry has the bytes of a block
abbrev HasBlock : ℕ × List ℕ → Type 0
HasBlock entry = IsBlock entry.1

-- 256 bytes are those of a block
pub is_block : (bytes : List ℕ) → length bytes ≡ BLOCK_BYTES → ((place : ℕ) → get_or bytes place 0 < 256) → IsBlock bytes
is_block bytes long small = (long, All-from_get_or (λ (byte : ℕ). byte < 256) bytes 0 (λ place h. small place))

pub no_blocks : HaveBlocks []
no_blocks = All-nil HasBlock

-- one block more at the end
pub blocks-pushed : (patch : Kept) (entry : ℕ × List ℕ) → HaveBlocks patch → IsBlock entry.1 → HaveBlocks (patch ++ entry ∷ [])
blocks-pushed patch entry blocks is = All-append HasBlock patch (entry ∷ []) blocks (All-cons HasBlock entry [] is no_blocks)

-- one block more in its place
pub blocks-insert : (patch : Kept) (place : ℕ) (entry : ℕ × List ℕ) → HaveBlocks patch → IsBlock entry.1 → HaveBlocks (insert patch place entry)
blocks-insert patch place entry blocks is =
    All-append HasBlock (take place patch) (entry ∷ drop place patch) (All-take HasBlock place patch blocks)
    (All-cons HasBlock entry (drop place patch) is (All-drop HasBlock place patch blocks))

-- the bytes that an image of a disk has there
pub blocks-taken_blocks : (patch : Kept) (image : List (List ℕ)) (low : ℕ) → IsImage image → RisesBetween low (length image) patch → HaveBlocks (taken_blocks image patch)
unfolding taken_blocks RisesBetween
blocks-taken_blocks [] image low is r = no_blocks
blocks-taken_blocks (entry ∷ patch) image low is r =
    All-cons HasBlock (entry.0, sector_at image entry.0) (taken_blocks image patch) (is.1 entry.0 [] r.1) (blocks-taken_blocks patch image (entry.0 + 1) is r.2)

-- what a trim leaves
pub blocks-trimmed_blocks : (patch : Kept) (image : List (List ℕ)) → HaveBlocks patch → HaveBlocks (trimmed_blocks image patch)
unfolding trimmed_blocks
blocks-trimmed_blocks patch image blocks = All-filter (λ (entry : ℕ × List ℕ). not (pointwise nat_eq entry.1 (sector_at image entry.0))) HasBlock patch blocks
