-- Sets of blocks, and the words whose bits say which blocks are members.
use Rattle.std.specs.Prelude.{◌≡◌, ℕ, zero, suc, ◌+◌, ◌-◌, ◌*◌, ◌/◌, ◌%◌, ◌^◌, ◌<◌, ◌==◌, ◌&&◌, if◌then◌else◌, Bool, true, List, map, length, slice_index, All, nat_le, bit_or}
use Rattle.std.specs.List.{range_with_len, slice_set}
use Rattle.std.specs.Int.{bit_at}
use Rattle.std.specs.Ordering.{nat_cmp}
use Rattle.std.specs.FinSet as set
use Rattle.d64_image.specs.declared.block.TheConstants.{BLOCKS}

-- a set of blocks, by their numbers
abbrev pub BlockSet : Type 0
BlockSet = set.FinSet nat_cmp

-- whether a block is marked: each word has the bits of 32 blocks, the lowest bit for the first of
-- them
abbrev pub is_marked : List ℕ → ℕ → Bool
is_marked words block = bit_at (slice_index words (block / 32)) (block % 32) == 1

-- the set of the marked blocks below a number
unfoldable pub marked_below : ℕ → List ℕ → BlockSet
marked_below zero words = set.empty
marked_below (suc block) words =
    if is_marked words block then set.insert (marked_below block words) block else marked_below block words

-- the set of the blocks of a disk that are marked
abbrev pub marked_blocks : List ℕ → BlockSet
marked_blocks words = marked_below BLOCKS words

-- words with one bit for each block of a disk
pub record AreWords (words : List ℕ) : Type 0 where
  pub all : 32 * length words ≡ BLOCKS
  pub fit : All (λ word. word < 2 ^ 32) words

-- the words after some bits of the word at a place are set
abbrev pub with_bits : List ℕ → ℕ → ℕ → List ℕ
with_bits words place bits = slice_set words place (bit_or (slice_index words place) bits)

-- whether the bit of a block is 1 in a number: bit b is that of block b after the first one
abbrev pub is_given : ℕ → ℕ → ℕ → Bool
is_given first bits block = nat_le first block && (bit_at bits (block - first) == 1)

-- the number of n bits, in which bit b is 1 if b passes a test
unfoldable pub bits_where : (ℕ → Bool) → ℕ → ℕ
bits_where passes zero = 0
bits_where passes (suc bit) = (if passes bit then 1 else 0) * 2 ^ bit + bits_where passes bit

-- the words in which exactly the members are marked
unfoldable pub words_of : BlockSet → List ℕ
words_of blocks = map (λ place. bits_where (λ bit. set.contains blocks (32 * place + bit)) 32) (range_with_len 0 (BLOCKS / 32))

-- whether two sets have the same members
abbrev pub same_members : BlockSet → BlockSet → Bool
same_members blocks others = set.is_subset blocks others && set.is_subset others blocks

-- each member is below a number
abbrev pub MembersAreBelow : ℕ → BlockSet → Type 0
MembersAreBelow count blocks = (block : ℕ) → set.contains blocks block ≡ true → block < count

-- each member is a block of a disk
abbrev pub MembersAreBlocks : BlockSet → Type 0
MembersAreBlocks blocks = MembersAreBelow BLOCKS blocks
