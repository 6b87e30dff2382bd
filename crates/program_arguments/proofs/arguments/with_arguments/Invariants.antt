use Rattle.std.proofs.Common.{take}
use Rattle.clap.specs.Words.{App}
use Rattle.program_arguments.specs.Making.{IsCommand, IsCommandMade, with_rules}
use Rattle.program_arguments.proofs.arguments.with_arguments.Given as goal

abbrev pub invariant-loop-argument : goal.invariant-loop-argument
invariant-loop-argument l = record {
  made : (app : App) → IsCommand app l.fn.command → IsCommandMade (with_rules app (take l.argument-index l.arguments)) l.command;
}
