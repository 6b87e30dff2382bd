use Rattle.std.proofs.Common.{◌≡◌, drop}
use Rattle.std.specs.List.{list_any}
use Rattle.d64_image.specs.Image.{sector_at}
use Rattle.d64_files.specs.Directory.{has_name, is_name_taken}
use Rattle.d64_files.specs.Slot.{cells}
use Rattle.d64_files.proofs.vacancy.is_taken_in.Given as goal

abbrev pub invariant-loop-index : goal.invariant-loop-index
invariant-loop-index l =
    list_any (has_name l.name) (drop l.index (cells (sector_at l.image l.block))) ≡ is_name_taken l.name (cells (sector_at l.image l.block))
