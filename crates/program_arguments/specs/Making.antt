-- Commands and arguments as the program makes them for `clap`.
use Rattle.std.specs.Prelude.{◌≡◌, false, List, Result, IfOk, fold}
use Rattle.clap.specs.Words.{App, Rule, app_of, rule_of, with_rule}
use Rattle.clap.specs.declared.builder.arg.Arg.{Arg}
use Rattle.clap.specs.declared.builder.command.Command.{Command}
use Rattle.clap.specs.declared.builder.command.Command.TheViews.{out-Command as fields_of}
use Rattle.program_arguments.specs.Commands.{files_argument, flag, line_option, optional_argument, output_option, required_argument, stop_flag, valued_option}
use Rattle.program_arguments.specs.declared.arguments.Argument.{Argument}
use Rattle.program_arguments.specs.declared.arguments.Argument.TheVariants.{Valued, Flag, Required, Optional, Files, Output, Line, StopFlag}

-- an argument has this rule, and is not global
abbrev pub IsArgument : Rule → Arg → Type 0
IsArgument rule argument = (rule_of argument ≡ rule) × (argument.global ≡ false)

-- a command is this one, without global arguments
abbrev pub IsCommand : App → Command → Type 0
IsCommand app command = (app_of command ≡ app) × ((fields_of command).has_globals ≡ false)

-- such a command was made, unless memory ran out
abbrev pub IsCommandMade : {E : Type 0} → App → Result Command E → Type 0
IsCommandMade app made = IfOk made (IsCommand app)

-- the rule of an argument
abbrev pub rule_for : Argument → Rule
rule_for (Valued name value help) = valued_option name.now
rule_for (Flag name help) = flag name.now
rule_for (Required id name help) = required_argument id.now
rule_for (Optional id name help) = optional_argument id.now
rule_for (Files help) = files_argument
rule_for (Output value help) = output_option
rule_for Line = line_option
rule_for StopFlag = stop_flag

-- a command with these arguments, too
abbrev pub with_rules : App → List Argument → App
with_rules = fold (λ app argument. with_rule app (rule_for argument))
