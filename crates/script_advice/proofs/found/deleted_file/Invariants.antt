use Rattle.std.proofs.Common.{◌≡◌}
use Rattle.std.specs.Prelude.{find}
use Rattle.script_advice.specs.Found.{deleted_file, is_deleted_as}
use Rattle.script_advice.proofs.found.deleted_file.Given as goal

-- none of the files before had the name
abbrev pub invariant-loop-entry : goal.invariant-loop-entry
invariant-loop-entry l = find (is_deleted_as l.name) l.entry-iterator ≡ deleted_file l.survey l.name
