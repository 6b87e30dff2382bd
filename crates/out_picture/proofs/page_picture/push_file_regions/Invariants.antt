use Rattle.std.proofs.Common.{◌≡◌, ◌++◌}
use Rattle.std.specs.List.{flat_map}
use Rattle.out_picture.specs.PagePicture.{file_region, file_regions}
use Rattle.out_picture.proofs.page_picture.push_file_regions.Given as goal

abbrev pub invariant-loop-entry : goal.invariant-loop-entry
invariant-loop-entry l = l.out.items ++ flat_map (file_region l.inspection.image) l.entry-iterator ≡ l.initial.out.items ++ file_regions l.inspection.image
