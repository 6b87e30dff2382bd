use Rattle.std.proofs.Common.{◌≡◌, ◌+◌, drop, not}
use Rattle.std.specs.List.{position_from}
use Rattle.d64_files.specs.Slot.{cells, is_used}
use Rattle.d64_files.proofs.vacancy.first_empty_of.Given as goal

abbrev pub invariant-loop-index : goal.invariant-loop-index
invariant-loop-index l =
    position_from (λ cell. not (is_used cell)) (l.first + l.index) (drop l.index (cells l.block)) ≡ position_from (λ cell. not (is_used cell)) l.first (cells l.block)
