-- Pairs of track and sector as text.
use Rattle.std.specs.Prelude.{ℕ, List, ◌++◌, decimal, codes}
use Rattle.d64_image.specs.Block.{pair_at}

-- a track and a sector in decimal, with a slash between them
abbrev pub pair_field : ℕ × ℕ → List ℕ
pair_field pair = decimal pair.0 ++ codes "/" ++ decimal pair.1

-- the pair of a block
abbrev pub block_field : ℕ → List ℕ
block_field block = pair_field (pair_at block)
