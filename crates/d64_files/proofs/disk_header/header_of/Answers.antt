use Rattle.std.proofs.Common.{length, ap, ◌∙◌, arith}
use Rattle.d64_image.specs.Image.{sector_at}
use Rattle.d64_image.proofs.Sizes.{size_least}
use Rattle.d64_files.proofs.disk_header.header_of.Goals as goal

-- the image has the map's block
pub sector-requires : goal.sector-requires
sector-requires c =
    let least = size_least (length c.args.image.now) c.known_image.ensures.size in
    let e = c.map_block.ensures in
    omega arith

pub returns-clause-value : goal.returns-clause-value
returns-clause-value c = c.sector.ensures.value ∙ ap (sector_at c.args.image.now) c.map_block.ensures
