use Rattle.std.proofs.Common.{◌≡◌, ◌||◌, ◌&&◌, not, ltb}
use Rattle.std.specs.List.{list_any}
use Rattle.std.specs.FinSet as set
use Rattle.d64_survey.specs.Owners.{is_owned}
use Rattle.d64_survey.specs.Doubts.{has_strays}
use Rattle.d64_survey.proofs.doubt_list.has_strays.Given as goal

abbrev pub invariant-loop-block : goal.invariant-loop-block
invariant-loop-block l =
    (l.is_any || list_any (λ block. ltb block 683 && (not (is_owned l.survey block) && not (set.contains l.free block))) l.block-iterator)
    ≡ has_strays l.survey
