use Rattle.std.proofs.Common.{take}
use Rattle.program_arguments.specs.Making.{IsCommandMade}
use Rattle.program_arguments.proofs.Additions.{with_these}
use Rattle.program_arguments.proofs.command.d64sh.Given as goal

abbrev pub invariant-loop-subcommand : goal.invariant-loop-subcommand
invariant-loop-subcommand l = record {
  made : IsCommandMade (with_these (take l.subcommand-index l.subcommand-items)) l.command;
}
