-- Patches: blocks with the bytes that they had, and the image that they put back.
use Rattle.std.specs.Prelude.{◌≡◌, ℕ, ◌+◌, ◌<◌, ◌≤◌, ◌==◌, not, nat_lt, nat_eq, if◌then◌else◌, Bool, List, [], ◌∷◌, length, map, filter, fold, count_by, All}
use Rattle.std.specs.Cmp.Lexicographic.{pointwise}
use Rattle.std.specs.List.{list_any, insert}
use Rattle.d64_image.specs.Disk.{Disk, Bytes}
use Rattle.d64_image.specs.declared.block.TheConstants.{BLOCKS}
use Rattle.d64_image.specs.Image.{IsBlock, sector_at, with_sector, differences}

-- blocks, each with 256 bytes that it had
abbrev pub Kept : Type 0
Kept = List (ℕ × Bytes)

-- the kept blocks lie between two numbers, ascending, so that each comes once
unfoldable pub RisesBetween : ℕ → ℕ → Kept → Type 0
RisesBetween low high [] = Unit {0}
RisesBetween low high (entry ∷ patch) = (low ≤ entry.0) × (entry.0 < high) × RisesBetween (entry.0 + 1) high patch

-- a patch keeps blocks that a disk can have, ascending
abbrev pub IsPatch : Kept → Type 0
IsPatch patch = RisesBetween 0 BLOCKS patch

-- a patch keeps blocks of an image
abbrev pub IsPatchOf : Disk → Kept → Type 0
IsPatchOf image patch = RisesBetween 0 (length image) patch

-- each kept block has the bytes of a block
abbrev pub HaveBlocks : Kept → Type 0
HaveBlocks patch = All (λ entry. IsBlock entry.1) patch

-- the image with the kept blocks put back
unfoldable pub restored_image : Disk → Kept → Disk
restored_image image patch = fold (λ held entry. with_sector held entry.0 entry.1) image patch

-- whether a patch keeps a block
abbrev pub is_kept : Kept → ℕ → Bool
is_kept patch block = list_any (λ entry. entry.0 == block) patch

-- the patch with a block added in its place, if the patch does not keep it yet
unfoldable pub with_kept : Kept → ℕ → Bytes → Kept
with_kept patch block bytes =
    if is_kept patch block then patch else insert patch (count_by (λ entry. nat_lt entry.0 block) patch) (block, bytes)

-- after a change of an image, its patch put back still gives the same image as before it; and if
-- the patch kept blocks of the image, it still does
abbrev pub StillRestores : Disk → Kept → Disk → Kept → Type 0
StillRestores before patch after longer =
    (restored_image after longer ≡ restored_image before patch) × (IsPatchOf before patch → IsPatchOf after longer)

-- the blocks of a patch, each with the bytes that an image has there
unfoldable pub taken_blocks : Disk → Kept → Kept
taken_blocks image patch = map (λ entry. (entry.0, sector_at image entry.0)) patch

-- the kept blocks whose bytes differ from the image's
unfoldable pub trimmed_blocks : Disk → Kept → Kept
trimmed_blocks image patch = filter (λ entry. not (pointwise nat_eq entry.1 (sector_at image entry.0))) patch

-- the blocks in which two images differ, with the bytes of the first
unfoldable pub changed_blocks : Disk → Disk → Kept
changed_blocks before after = map (λ block. (block, sector_at before block)) (differences before after)
