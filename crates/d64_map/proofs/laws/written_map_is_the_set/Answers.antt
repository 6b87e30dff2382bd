use Rattle.std.proofs.Common.{◌<◌, ℕ, List, [], length, get_or, ap, ◌∙◌, arith}
use Rattle.d64_image.specs.Image.{IsImage, tracks_of, sector_at}
use Rattle.d64_image.proofs.Sizes.{size_least}
use Rattle.d64_map.specs.Map.{map_block}
use Rattle.d64_map.proofs.Maps.{free_blocks-with_map, counts-with_map, IsImage-with_map, sector_at-with_map, sector_at-with_map-other, elsewhere}
use Rattle.d64_map.proofs.laws.written_map_is_the_set.Goals as goal

-- an image has the map's block
there : (image : List (List ℕ)) → IsImage image → map_block < length image
there image is = let e = size_least (length image) is.0 in omega arith

pub returns-clause-set : goal.returns-clause-set
returns-clause-set c = λ image free is legal. free_blocks-with_map image free is.0 legal

pub returns-clause-counts : goal.returns-clause-counts
returns-clause-counts c = λ image free is legal. counts-with_map image free is.0 legal

pub returns-clause-others : goal.returns-clause-others
returns-clause-others c = λ image free is. (
  IsImage-with_map image free is,
  λ block other. sector_at-with_map-other image free block other,
  λ place outside. ap (λ (bytes : List ℕ). get_or bytes place 0) (sector_at-with_map image free (there image is))
      ∙ elsewhere (tracks_of (length image)) (sector_at image map_block) free place (is.1 map_block [] (there image is)).0 outside,
)
