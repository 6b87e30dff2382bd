use Rattle.std.proofs.Common.{◌≡◌, ◌++◌}
use Rattle.d64_files.specs.Directory.{entries}
use Rattle.d64_survey.specs.Owners.{way_slots}
use Rattle.cmd_catalogue.specs.Files.{linked_rows}
use Rattle.cmd_catalogue.specs.Links.{first_naming}
use Rattle.cmd_catalogue.specs.Namings.{naming_of}
use Rattle.cmd_catalogue.proofs.files.push_linked_rows.Given as goal

abbrev pub invariant-loop-entry : goal.invariant-loop-entry
invariant-loop-entry l =
    l.out.items ++ linked_rows l.folder l.all (naming_of l.files) l.entry-iterator
    ≡ l.initial.out.items ++ linked_rows l.folder l.all first_naming (entries l.all.image (way_slots l.all.image))
