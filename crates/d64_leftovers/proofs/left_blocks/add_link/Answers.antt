use Rattle.std.proofs.Common.{◌≡◌, Some, None, rules}
use Rattle.d64_files.specs.Chain.{link_at}
use Rattle.d64_survey.specs.Way.{block_at}
use Rattle.d64_leftovers.proofs.LeftBlocks.{link_some, link_none}
use Rattle.d64_leftovers.proofs.left_blocks.add_link.Goals as goal

pub returns-in-Some : goal.returns-in-Some
returns-in-Some c =
    let found : block_at c.args.image.now (link_at c.args.image.now c.args.block) ≡ Some c.in-Some.next = search rules in
    link_some c.args.image.now c.args.members.now c.add.new.self c.args.block c.in-Some.next c.add.ensures.value found

pub returns-in-None : goal.returns-in-None
returns-in-None c =
    let found : block_at c.args.image.now (link_at c.args.image.now c.args.block) ≡ None = search rules in
    link_none c.args.image.now c.args.members.now c.args.block found
