-- what a new file takes, and the image that its writing leaves
use Rattle.std.proofs.Common.{◌≡◌, ℕ, ◌≤◌, ◌&&◌, List, [], ◌++◌, length, get_or, Option, refl, sym, ap, ◌∙◌, arith}
use Rattle.std.specs.Option.{option_map_or}
use Rattle.std.specs.Ordering.{nat_cmp}
use Rattle.std.specs.FinSet as set
use Rattle.std.proofs.lemmas.List.FromFn.{length-range_with_len}
use Rattle.std.proofs.lemmas.List.Sums.{count_by-le-length}
use Rattle.d64_image.specs.declared.block.TheConstants.{BLOCKS}
use Rattle.d64_map.specs.Map.{blocks, free_blocks, with_map}
use Rattle.d64_map.specs.Plan.{is_outside, room}
use Rattle.d64_map.proofs.FreeBlocks.{all_blocks}
use Rattle.d64_files.specs.Writing.{entry_bytes, with_chain}
use Rattle.d64_files.specs.declared.kind.Kind.{Kind}
use Rattle.d64_effects.specs.Write.{taken_by, blocks_without, with_new_entry, with_file, written_disk}
use Rattle.d64_dos.specs.Space.{IsSpace}
use Rattle.d64_dos.specs.declared.write.Space.{Space}
use Rattle.d64_dos.proofs.Entries.{directory_grown-is}

-- how many blocks a disk has
length-blocks : (n : ℕ) → n ≡ BLOCKS → length blocks ≡ n
length-blocks n e = ap length (sym (all_blocks n e)) ∙ length-range_with_len 0 n

-- there is room for at most as many blocks as a disk has
pub room-bound : (free : set.FinSet nat_cmp) → room free ≤ BLOCKS
unfolding room
room-bound free =
    let l = length-blocks BLOCKS refl in
    let h = count_by-le-length (λ block. set.contains free block && is_outside block) blocks in
    omega (arith, l, h)

-- the image with a file in its space
pub written_disk-in_space : (image : List (List ℕ)) (name : List ℕ) (kind : Kind) (bytes taken : List ℕ) (space : Space)
    → IsSpace image (length bytes) taken space
    → written_disk image name kind bytes
    ≡ with_map (with_chain (with_new_entry image (entry_bytes name kind (get_or taken 0 0) (length taken))) taken bytes) space.free
unfolding written_disk with_file
written_disk-in_space image name kind bytes taken space is =
    let same : taken_by (free_blocks image) (length bytes) ≡ taken =
    ap (λ (found : Option (List ℕ)). option_map_or (λ blocks. blocks) found []) is.taken in
    let entry : List ℕ = entry_bytes name kind (get_or taken 0 0) (length taken) in
    ap (with_file image name kind bytes) same
    ∙ ap (with_map (with_chain (with_new_entry image entry) taken bytes))
    (ap (λ (grown : List ℕ). blocks_without (free_blocks image) (taken ++ grown)) (directory_grown-is image space.place is.place) ∙ sym is.left)
