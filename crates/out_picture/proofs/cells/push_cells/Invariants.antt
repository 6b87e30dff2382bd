use Rattle.std.proofs.Common.{◌≡◌, ◌++◌}
use Rattle.std.specs.List.{flat_map}
use Rattle.out_picture.specs.Cells.{block_cell, block_cells}
use Rattle.out_picture.proofs.cells.push_cells.Given as goal

abbrev pub invariant-loop-block : goal.invariant-loop-block
invariant-loop-block l = l.out.items ++ flat_map (block_cell l.inspection) l.block-iterator ≡ l.initial.out.items ++ block_cells l.inspection
