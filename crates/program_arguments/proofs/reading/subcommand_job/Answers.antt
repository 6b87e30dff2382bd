use Rattle.std.proofs.Common.{◌≡◌, ◌∙◌, ◌∷◌, ℕ, true, List, Some, Bor, sym, ap, drop, map}
use Rattle.std.proofs.lemmas.List.{drop-map}
use Rattle.std.proofs.lemmas.Result.{IfOk-weaker, IfErr-weaker}
use Rattle.clap.specs.Words.{App, HasMatchesOf, Text, fault_of, found_of, is_simple, is_simple_and_free, matches_of, rows_of, subcommand_of}
use Rattle.clap.specs.declared.parser.matches.ArgMatches.{ArgMatches}
use Rattle.program_arguments.specs.Commands.{d64sh}
use Rattle.program_arguments.specs.Subcommands.{app_for, name_for}
use Rattle.program_arguments.specs.declared.subcommand.Subcommand.{Subcommand}
use Rattle.program_arguments.proofs.Alone.{free, same_fault, same_met, simple}
use Rattle.program_arguments.proofs.Parses.{asked, refused, reported}
use Rattle.program_arguments.proofs.Required.{met_is_whole}
use Rattle.program_arguments.proofs.reading.subcommand_job.Goals as goal

abbrev text : Bor (List ℕ) → Text
text argument = argument.now

-- the arguments of the program begin with the name of this subcommand, its command is this one, and
-- it is given what is left of them
module _ (arguments passed : List (Bor (List ℕ))) (rest : List Text) (subcommand : Subcommand) (app : App)
    (begins : drop 1 (map text arguments) ≡ name_for subcommand ∷ rest) (passes : passed ≡ drop 1 arguments) (is_app : app ≡ app_for subcommand) where
  given : map text passed ≡ name_for subcommand ∷ rest
  given = ap (map text) passes ∙ sym (drop-map text 1 arguments) ∙ begins

  is_free : is_simple_and_free app ≡ true
  is_free = ap is_simple_and_free is_app ∙ free subcommand

  fault_is : fault_of app (map text passed) ≡ fault_of d64sh (map text arguments)
  fault_is =
      ap (λ a. fault_of a (map text passed)) is_app ∙ ap (fault_of (app_for subcommand)) given
      ∙ sym (same_fault (map text arguments) rest subcommand begins)

  met_is : (matches : ArgMatches) → HasMatchesOf app (map text passed) matches → subcommand_of d64sh (map text arguments) ≡ Some (name_for subcommand, rows_of (found_of matches))
  met_is matches has =
      let rows = ap (λ a. matches_of a (map text passed)) is_app ∙ ap (matches_of (app_for subcommand)) given in
      same_met (map text arguments) rest subcommand begins
      ∙ ap (λ rows. Some (name_for subcommand, rows)) (sym rows ∙ sym (has (ap is_simple is_app ∙ simple subcommand)).0)

pub job-requires : goal.job-requires
job-requires c =
    let is_app = c.in_ok-command.ensures.0 in
    let none = sym (fault_is _ _ _ _ _ c.requires.1 c.after_program.ensures is_app) ∙ c.in-Ok.ensures.kinds (is_free _ _ _ _ _ c.requires.1 c.after_program.ensures is_app) in
    (met_is_whole _ _ none (met_is _ _ _ _ _ c.requires.1 c.after_program.ensures is_app c.in-Ok.arguments c.in-Ok.ensures.matches)).1

pub returns-in-Ok-clause-job : goal.returns-in-Ok-clause-job
returns-in-Ok-clause-job c =
    let is_app = c.in_ok-command.ensures.0 in
    let none = sym (fault_is _ _ _ _ _ c.requires.1 c.after_program.ensures is_app) ∙ c.in-Ok.ensures.kinds (is_free _ _ _ _ _ c.requires.1 c.after_program.ensures is_app) in
    IfOk-weaker c.job.result _ _ (asked _ _ none (met_is _ _ _ _ _ c.requires.1 c.after_program.ensures is_app c.in-Ok.arguments c.in-Ok.ensures.matches)) c.job.ensures.job

pub returns-in-Ok-clause-fault : goal.returns-in-Ok-clause-fault
returns-in-Ok-clause-fault c =
    let is_app = c.in_ok-command.ensures.0 in
    let none = sym (fault_is _ _ _ _ _ c.requires.1 c.after_program.ensures is_app) ∙ c.in-Ok.ensures.kinds (is_free _ _ _ _ _ c.requires.1 c.after_program.ensures is_app) in
    IfErr-weaker c.job.result _ _ (refused _ _ none (met_is _ _ _ _ _ c.requires.1 c.after_program.ensures is_app c.in-Ok.arguments c.in-Ok.ensures.matches)) c.job.ensures.fault

pub returns-in-Err-clause-fault : goal.returns-in-Err-clause-fault
returns-in-Err-clause-fault c =
    let is_app = c.in_ok-command.ensures.0 in
    let kinds = c.in-Err.ensures.kinds (is_free _ _ _ _ _ c.requires.1 c.after_program.ensures is_app) in
    reported _ c.in-Err.error c.refusal.result (rw (← fault_is _ _ _ _ _ c.requires.1 c.after_program.ensures is_app) kinds) c.refusal.ensures
