-- What an error of `clap` gets beside its message.
use Rattle.std.specs.Prelude.{Bool, true, false, List, Option, Some, None}
use Rattle.clap.specs.declared.error.kind.ErrorKind.{ErrorKind}
use Rattle.clap.specs.declared.error.kind.ErrorKind.TheVariants.{InvalidSubcommand, InvalidValue, UnknownArgument}
use Rattle.program_tips.specs.Meant.{MeantParts, Text, image_first, line_after_image}
use Rattle.program_arguments.specs.declared.subcommand.Subcommand.{Subcommand}
use Rattle.program_arguments.specs.declared.subcommand.Subcommand.TheVariants.{Shell}

-- what was probably meant by arguments that the program's command refuses by an error of this kind,
-- or that of the subcommand that they name
abbrev pub tip_for : List Text → Option Subcommand → ErrorKind → Option MeantParts
tip_for arguments None InvalidSubcommand = image_first arguments
tip_for arguments (Some Shell) UnknownArgument = line_after_image arguments
tip_for arguments subcommand kind = None

-- `clap` prints no usage for such an error
abbrev pub lacks_usage : Option Subcommand → ErrorKind → Bool
lacks_usage (Some subcommand) InvalidValue = true
lacks_usage subcommand kind = false
