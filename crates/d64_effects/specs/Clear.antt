-- Clearing slots, and freeing blocks.
use Rattle.std.specs.Prelude.{ℕ, Bool, List, map, filter, fold}
use Rattle.std.specs.FinSet as set
use Rattle.d64_image.specs.Disk.{Disk, Bytes, Blocks}
use Rattle.d64_image.specs.BlockSet.{BlockSet}
use Rattle.d64_files.specs.Clearing.{with_cleared_slot}
use Rattle.d64_files.specs.Directory.{numbered_slots}

-- the numbers of the slots that pass a test
abbrev pub slots_where : (Bytes → Bool) → List Bytes → List ℕ
slots_where test cells = map (λ slot. slot.0) (filter (λ slot. test slot.1) (numbered_slots cells))

-- the image with these slots unused
abbrev pub with_cleared : Disk → List ℕ → Disk
with_cleared image numbers = fold with_cleared_slot image numbers

-- the free blocks, and those given back
abbrev pub with_freed : BlockSet → Blocks → BlockSet
with_freed free given = fold set.insert free given
