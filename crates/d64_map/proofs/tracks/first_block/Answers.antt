use Rattle.std.proofs.Common.{◌+◌, sym, ap, ◌∙◌, arith}
use Rattle.std.proofs.lemmas.Option.{same_Some, none-some}
use Rattle.d64_image.specs.Block.{first_block}
use Rattle.d64_image.proofs.Pairs.{block_of-legal}
use Rattle.d64_map.proofs.Sectors.{sectors_some}
use Rattle.d64_map.proofs.tracks.first_block.Goals as goal

pub returns-in-Some-clause-first : goal.returns-in-Some-clause-first
returns-in-Some-clause-first c =
    let number = c.number.result in
    let place = block_of-legal number 0 c.number.ensures.range.0 c.number.ensures.range.1 (sectors_some number) in
    let found = same_Some c.in-Some.block (first_block number + 0) (sym c.in-Some.is ∙ c.of.ensures.place ∙ place) in
    let same = ap first_block c.number.ensures.value in
    omega (arith, found, same, c.index.ensures.value)

pub returns-in-None-clause-first : goal.returns-in-None-clause-first
returns-in-None-clause-first c =
    let number = c.number.result in
    absurd (none-some (first_block number + 0) (sym c.in-None.is ∙ c.of.ensures.place ∙ block_of-legal number 0 c.number.ensures.range.0 c.number.ensures.range.1 (sectors_some number)))
