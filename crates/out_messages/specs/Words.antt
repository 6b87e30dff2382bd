-- Small wordings: numbers of things, blocks, and the lines below an image's.
use Rattle.std.specs.Prelude.{ℕ, ◌==◌, if◌then◌else◌, List, [], ◌++◌, codes, decimal}
use Rattle.d64_image.specs.Block.{pair_at}

-- the ending of a noun after this number
abbrev pub plural_of : ℕ → List ℕ
plural_of count = if count == 1 then [] else codes "s"

-- a number and a noun: `1 file`, `2 files`
unfoldable pub counted_text : ℕ → List ℕ → List ℕ
counted_text count noun = decimal count ++ (codes " " ++ (noun ++ plural_of count))

-- a track and a sector: `17/3`
unfoldable pub pair_text : ℕ × ℕ → List ℕ
pair_text pair = decimal pair.0 ++ (codes "/" ++ decimal pair.1)

-- the track and the sector of a block
abbrev pub block_text : ℕ → List ℕ
block_text block = pair_text (pair_at block)

-- a line about what is wrong, below the image's line
unfoldable pub line_below : List ℕ → List ℕ
line_below text = codes "  " ++ (text ++ codes "\n")
