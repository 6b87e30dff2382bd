use Rattle.std.proofs.Common.{map, take}
use Rattle.program_arguments.specs.Requested.{IsOneOf}
use Rattle.program_arguments.specs.Subcommands.{name_for}
use Rattle.program_arguments.proofs.subcommand.Subcommand.named.Given as goal

abbrev pub invariant-loop-subcommand : goal.invariant-loop-subcommand
invariant-loop-subcommand l = record {
  none : ¬ IsOneOf (map name_for (take l.subcommand-index l.subcommand-items)) l.name;
}
