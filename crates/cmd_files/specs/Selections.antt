-- Which rows of a dump are printed together.
use Rattle.std.specs.Prelude.{true, false}
use Rattle.d64_leftovers.specs.declared.selection.Selection.{Selection}

-- the rows of files alone, those of deleted files alone, and those of orphans alone
abbrev pub files_alone : Selection
files_alone = record { files = true; deleted = false; orphans = false }

abbrev pub deleted_alone : Selection
deleted_alone = record { files = false; deleted = true; orphans = false }

abbrev pub orphans_alone : Selection
orphans_alone = record { files = false; deleted = false; orphans = true }
