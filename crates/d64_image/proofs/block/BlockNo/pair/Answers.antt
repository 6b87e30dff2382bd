use Rattle.std.proofs.Common.{ap, ◌∙◌}
use Rattle.d64_image.specs.Block.{pair_at}
use Rattle.d64_image.proofs.Pairs.{pair_at-in_zone}
use Rattle.d64_image.proofs.block.BlockNo.pair.Goals as goal

pub returns-clause-pair : goal.returns-clause-pair
returns-clause-pair c =
    let zone = c.of_block-zone.ensures in
    rw c.new.ensures (rw c.from-sectors.ensures (pair_at-in_zone c.of_block-zone.result c.self.inside.index zone.some zone.from_one zone.starts zone.track ∙ ap pair_at c.self.view_is))
