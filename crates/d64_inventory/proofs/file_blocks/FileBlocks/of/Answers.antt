use Rattle.std.proofs.Common.{ap, ◌∙◌}
use Rattle.std.specs.Ordering.{nat_cmp}
use Rattle.std.specs.List.{list_any}
use Rattle.std.specs.FinSet as set
use Rattle.d64_survey.specs.Owners.{is_shared}
use Rattle.d64_survey.specs.SlotBlocks.{slot_blocks}
use Rattle.d64_inventory.proofs.FileTests.{both_parts, either_part}
use Rattle.d64_inventory.proofs.file_blocks.FileBlocks.of.Goals as goal

pub returns-clause-members : goal.returns-clause-members
returns-clause-members c =
    both_parts c.args.survey.now c.args.entry.now.bytes c.empty.result c.add_way.new.self.members c.add_way-2.new.self.members c.data_pair.result c.side_pair.result
    c.empty.ensures.value c.data_pair.ensures c.side_pair.ensures c.add_way.ensures.blocks c.add_way-2.ensures.blocks

pub returns-clause-shared : goal.returns-clause-shared
returns-clause-shared c =
    either_part (is_shared c.args.survey.now) c.args.survey.now c.args.entry.now.bytes c.data_pair.result c.side_pair.result
    c.add_way.new.self.is_shared c.add_way-2.new.self.is_shared c.data_pair.ensures c.side_pair.ensures c.add_way.ensures.shared c.add_way-2.ensures.shared

pub returns-clause-free : goal.returns-clause-free
returns-clause-free c =
    either_part (set.contains c.args.free.now) c.args.survey.now c.args.entry.now.bytes c.data_pair.result c.side_pair.result
    c.add_way.new.self.is_marked_free c.add_way-2.new.self.is_marked_free c.data_pair.ensures c.side_pair.ensures c.add_way.ensures.free c.add_way-2.ensures.free
    ∙ ap (λ (free : set.FinSet nat_cmp). list_any (set.contains free) (slot_blocks c.args.survey.now c.args.entry.now.bytes)) c.requires
