use Rattle.std.proofs.Common.{◌≡◌, ◌||◌}
use Rattle.std.specs.List.{list_any}
use Rattle.d64_survey.specs.Doubts.{is_filler, has_filler}
use Rattle.d64_survey.proofs.doubt_list.has_filler.Given as goal

abbrev pub invariant-loop-block : goal.invariant-loop-block
invariant-loop-block l = (l.is_any || list_any (is_filler l.image) l.block-iterator) ≡ has_filler l.image
