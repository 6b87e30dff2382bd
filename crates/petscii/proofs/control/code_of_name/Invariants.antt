use Rattle.std.proofs.Common.{◌≢◌, ℕ, ◌<◌, Some}
use Rattle.std.specs.Str.{str_to_ascii_lowercase}
use Rattle.petscii.specs.ControlNames.{control_name}
use Rattle.petscii.proofs.control.code_of_name.Given as goal

abbrev pub invariant-loop-code : goal.invariant-loop-code
invariant-loop-code l = (k : ℕ) → k < l.code → control_name k ≢ Some (str_to_ascii_lowercase l.name)
