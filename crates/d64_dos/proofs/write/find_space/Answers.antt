use Rattle.std.proofs.Common.{◌≡◌, ◌<◌, ◌&&◌, ◌||◌, Bool, false, sym, ap, arith}
use Rattle.std.specs.Prelude.{nat_le, is_some}
use Rattle.std.proofs.lemmas.Bool.Decides.{nat_tests}
use Rattle.d64_map.specs.Map.{free_blocks}
use Rattle.d64_map.specs.Plan.{room}
use Rattle.d64_files.specs.Directory.{slots}
use Rattle.d64_files.specs.Writing.{blocks_for, first_unused, dir_last}
use Rattle.d64_effects.specs.Write.{next_of_directory}
use Rattle.d64_dos.proofs.Spaces.{room-bound}
use Rattle.d64_dos.proofs.write.find_space.Goals as goal

-- a disk has room for no more blocks than it has
pub returns-then-count-gt-BLOCKS-clause-room : goal.returns-then-count-gt-BLOCKS-clause-room
returns-then-count-gt-BLOCKS-clause-room c =
    let disk = c.args.directory.now in
    let bound = room-bound (free_blocks disk) in
    let many = c.if-count-gt-BLOCKS.true in
    let count = c.blocks_for-count.ensures in
    let more : room (free_blocks disk) < blocks_for c.args.bytes = omega (arith, bound, many, count) in
    let over : nat_le (blocks_for c.args.bytes) (room (free_blocks disk)) ≡ false = grind (arith, nat_tests) in
    sym (ap (λ (fits : Bool). fits && (is_some (first_unused (slots disk)) || is_some (next_of_directory (free_blocks disk) (dir_last disk)))) over)
