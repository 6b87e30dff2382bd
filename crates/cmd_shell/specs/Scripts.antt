-- The script that the arguments ask for, by the fields of `ShellJob`.
use Rattle.std.specs.Prelude.{map, option_copied, string_bytes}
use Rattle.std.specs.Option.{option_and_then}
use Rattle.cmd_shell.specs.Transcript.{RunOptions, home_of}
use Rattle.cmd_shell.specs.Beginnings.{Beginning, Source, beginning_of, source_of}
use Rattle.cmd_shell.specs.declared.shell_job.ShellJob.{ShellJob}

-- what it begins with
abbrev pub beginning_in : ShellJob → Beginning
beginning_in job = beginning_of (option_copied job.image) job.disk (option_copied job.resume)

-- where it comes from
abbrev pub source_in : ShellJob → Source
source_in job = source_of (map string_bytes job.lines.now)

-- how it is run: by default `save` stores in the image file, if there is one
abbrev pub options_in : ShellJob → RunOptions
options_in job = record { home = option_and_then home_of (option_copied job.image); refusals = job.refusals }
