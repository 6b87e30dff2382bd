use Rattle.std.proofs.Common.{◌≡◌, ◌*◌, drop, not}
use Rattle.std.specs.List.{position_from}
use Rattle.d64_files.specs.Directory.{slots, slots_in}
use Rattle.d64_files.specs.Slot.{is_used}
use Rattle.d64_files.proofs.directory_blocks.Directory.first_empty.Given as goal

abbrev pub invariant-loop-place : goal.invariant-loop-place
invariant-loop-place l =
    position_from (λ cell. not (is_used cell)) (8 * l.place) (slots_in l.self (drop l.place l.blocks)) ≡ position_from (λ cell. not (is_used cell)) 0 (slots l.self)
