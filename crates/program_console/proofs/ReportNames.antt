-- The names of the subcommands that print what they find.
use Rattle.std.proofs.Common.{List, ℕ, inr}
use Rattle.program_arguments.specs.Requested.{IsOneOf, subcommands}
use Rattle.program_arguments.specs.Subcommands.{reports}

-- such a name is that of a subcommand; the first three are no such names
pub report_is_subcommand : (name : List ℕ) → IsOneOf reports name → IsOneOf subcommands name
report_is_subcommand name is = inr (inr (inr is))
