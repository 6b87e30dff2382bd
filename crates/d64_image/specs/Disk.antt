-- The subjects of the definitions: bytes, blocks by their numbers, and disks.
use Rattle.std.specs.Prelude.{ℕ, ◌<◌, List, All}

-- a sequence of bytes, each a number
abbrev pub Bytes : Type 0
Bytes = List ℕ

-- each of the numbers is a byte
abbrev pub AreBytes : Bytes → Type 0
AreBytes bytes = All (λ byte. byte < 256) bytes

-- a sequence of blocks, by their numbers, which are places in the image
abbrev pub Blocks : Type 0
Blocks = List ℕ

-- an image of a disk: the bytes of each block
abbrev pub Disk : Type 0
Disk = List Bytes
