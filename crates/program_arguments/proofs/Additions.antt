-- A command that an argument or a subcommand is added to is the one that is described so, and stays
-- without global arguments.
use Rattle.std.proofs.Common.{◌≡◌, ◌∙◌, ◌∷◌, ◌+◌, ◌<◌, ℕ, List, [], Ok, Result, ap, ap₂, refl, subst, fold, length, slice_index_or, take}
use Rattle.std.proofs.lemmas.List.{take_more}
use Rattle.std.proofs.lemmas.List.Sums.{fold-append}
use Rattle.clap.specs.Words.{AddsSubcommand, App, Rule, with_rule, with_subcommand}
use Rattle.clap.specs.Built.{AddsArg}
use Rattle.clap.specs.declared.builder.arg.Arg.{Arg}
use Rattle.clap.specs.declared.builder.command.Command.{Command}
use Rattle.program_arguments.specs.Commands.{bare_app}
use Rattle.program_arguments.specs.Making.{IsArgument, IsCommand, IsCommandMade, rule_for, with_rules}
use Rattle.program_arguments.specs.Subcommands.{app_for}
use Rattle.program_arguments.specs.declared.arguments.Argument.{Argument}
use Rattle.program_arguments.specs.declared.subcommand.Subcommand.{Subcommand}
use Rattle.program_arguments.specs.declared.subcommand.Subcommand.TheVariants.{Shell}

pub is_made : {E : Type 0} {app : App} {made : Result Command E} {command : Command} → made ≡ Ok command → IsCommandMade app made → IsCommand app command
is_made {app = app} same is = subst (IsCommandMade app) same is

pub with_one : {old new : Command} {argument : Arg} {app : App} {rule : Rule} → AddsArg old argument new → IsCommand app old → IsArgument rule argument
    → IsCommand (with_rule app rule) new
with_one adds is is_argument = (adds.shape is_argument.1 ∙ ap₂ with_rule is.0 is_argument.0, adds.globals ∙ rw (is.1, is_argument.1) refl)

pub added : {old sub new : Command} {app below : App} → AddsSubcommand old sub new → IsCommand app old → IsCommand below sub
    → IsCommand (with_subcommand app below.top) new
added adds is is_below =
    (adds.shape is_below.1 ∙ ap₂ with_subcommand is.0 (ap (λ (a : App). a.top) is_below.0), adds.globals ∙ rw (is.1, is_below.1) refl)

-- `d64sh` with these of its subcommands
abbrev pub with_these : List Subcommand → App
with_these subcommands = fold (λ command subcommand. with_subcommand command (app_for subcommand).top) bare_app subcommands

pub with_next : (subcommands : List Subcommand) (i : ℕ) → i < length subcommands
    → with_these (take (i + 1) subcommands) ≡ with_subcommand (with_these (take i subcommands)) (app_for (slice_index_or subcommands i Shell)).top
with_next subcommands i within =
    ap with_these (take_more subcommands i Shell within) ∙ fold-append (λ command subcommand. with_subcommand command (app_for subcommand).top) bare_app (take i subcommands) (slice_index_or subcommands i Shell ∷ [])

pub with_more : (app : App) (arguments : List Argument) (i : ℕ) (other : Argument) → i < length arguments
    → with_rules app (take (i + 1) arguments) ≡ with_rule (with_rules app (take i arguments)) (rule_for (slice_index_or arguments i other))
with_more app arguments i other within =
    ap (with_rules app) (take_more arguments i other within) ∙ fold-append (λ below argument. with_rule below (rule_for argument)) app (take i arguments) (slice_index_or arguments i other ∷ [])
