use Rattle.std.proofs.Common.{◌∙◌, Bool, ◌&&◌, Option, if◌then◌else◌, ap, ap₂}
use Rattle.d64_image.specs.Image.{bytes_of}
use Rattle.d64_survey.specs.Dump.{DumpView, code_bytes}
use Rattle.cmd_diff.specs.Differences.{difference_by, printed_difference, amiss_with, silence}
use Rattle.cmd_diff.proofs.Unchanged.{same_bytes, no_changes}
use Rattle.cmd_diff.proofs.laws.equal_dumps_are_silent.Goals as goal

pub returns-clause-changes : goal.returns-clause-changes
returns-clause-changes c = no_changes

pub returns-clause-silent : goal.returns-clause-silent
returns-clause-silent c = λ form old_name new_name old new dump old_is new_is.
    ap₂ (λ (d e : Option DumpView). difference_by form old_name old new_name new d e) old_is new_is
    ∙ ap (λ (same : Bool). if same then silence else amiss_with (printed_difference form old_name new_name dump dump)) (ap₂ ◌&&◌ (same_bytes (bytes_of dump.image)) (same_bytes (code_bytes dump.codes)))
