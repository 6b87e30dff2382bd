use Rattle.std.proofs.Common.{◌≡◌, ◌+◌, ◌≤◌, ◌&&◌, not, length}
use Rattle.std.specs.List.{count_by}
use Rattle.std.specs.FinSet as set
use Rattle.d64_image.specs.declared.block.TheConstants.{BLOCKS}
use Rattle.d64_survey.specs.Owners.{is_owned, unowned_count}
use Rattle.d64_survey.proofs.survey.Survey.unowned.Given as goal

abbrev pub invariant-loop-block : goal.invariant-loop-block
invariant-loop-block l = record {
  counted : l.count + count_by (λ block. not (is_owned l.self block) && not (set.contains l.free block)) l.block-iterator ≡ unowned_count l.self;
  room : l.count + length l.block-iterator ≤ BLOCKS;
}
