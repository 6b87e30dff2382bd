use Rattle.std.proofs.Common.{◌≡◌, ◌++◌, take}
use Rattle.cmd_catalogue.specs.Sections.{error_items}
use Rattle.cmd_catalogue.proofs.section.push_error_items.Given as goal

abbrev pub invariant-loop-error : goal.invariant-loop-error
invariant-loop-error l = l.out.items ≡ l.initial.out.items ++ error_items l.survey (take l.error-index l.list)
