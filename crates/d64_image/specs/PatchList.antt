-- Patches one after another: the list of them, cut from one list of blocks.
use Rattle.std.specs.Prelude.{ℕ, ◌+◌, List, [], ◌∷◌, length, map, take, drop}
use Rattle.d64_image.specs.Patch.{Kept}

-- a list cut into lists of the given lengths
unfoldable pub cut_blocks : List ℕ → Kept → List Kept
cut_blocks [] blocks = []
cut_blocks (len ∷ lens) blocks = take len blocks ∷ cut_blocks lens (drop len blocks)

-- the sum of a list of numbers
unfoldable pub total : List ℕ → ℕ
total [] = 0
total (len ∷ lens) = len + total lens

-- how many blocks the records before one keep
abbrev pub blocks_before : List Kept → ℕ → ℕ
blocks_before records number = total (map (λ (patch : Kept). length patch) (take number records))
