-- What is wrong with the text of a refused `crunch`.
use Rattle.std.specs.Prelude.{◌≡◌, nat_eq, ◌&&◌, Bool, true, not, ◌∷◌, ◌++◌, List, Ok, codes}
use Rattle.std.specs.List.{starts_with}
use Rattle.d64_image.specs.Disk.{Bytes}
use Rattle.cbm_text.specs.Causes.{cause_text}
use Rattle.cbm_text.specs.FaultyLines.{AreFaultyIn}
use Rattle.cbm_text.specs.declared.cause.Cause.{Cause}
use Rattle.cbm_text.specs.declared.faulty_text.FaultyLine.{FaultyLine}
use Rattle.cbm_text.specs.declared.fault.BasicFault.{BasicFault}
use Rattle.host_storage.specs.Files.{HostState}
use Rattle.host_storage.specs.Host.{Fetches}
use Rattle.script_lines.specs.BasicFiles.{program_start}
use Rattle.script_lines.specs.Line.{host_file_limit}
use Rattle.script_lines.specs.declared.status.Status.{Status}
use Rattle.script_lines.specs.declared.status.Status.TheVariants.{BasicText}

-- a host file can be read again: it is no device
abbrev pub can_be_read_again : Bytes → Bool
can_be_read_again name = not (starts_with nat_eq name (codes "/dev/")) && not (starts_with nat_eq name (codes "/proc/"))

-- this is wrong with the first faulty line, which has this fault
abbrev pub HasCauseFirst : List FaultyLine → BasicFault → Cause → Type 0
HasCauseFirst lines fault cause =
    (first : FaultyLine) × (more : List FaultyLine) × (lines ≡ first ∷ more) × (first.fault ≡ fault) × (cause ≡ first.cause)

-- this is wrong with the first faulty line of a text, which has this fault
abbrev pub IsFirstCause : Bytes → BasicFault → Cause → Type 0
IsFirstCause text fault cause = (lines : List FaultyLine) × AreFaultyIn program_start text lines × HasCauseFirst lines fault cause

-- this is wrong with the text that the host has under a name, which was refused with a status, if it
-- can be read again
abbrev pub IsFoundCause : HostState → Bytes → Status → Cause → Type 0
IsFoundCause host name (BasicText fault) cause = (can_be_read_again name ≡ true) × (text : Bytes) × Fetches host.files name host_file_limit (Ok text) × IsFirstCause text fault cause
IsFoundCause host name status cause = ⊥

-- the beginning of a line, and then what is wrong with the text of this name
unfoldable pub text_cause_line : Bytes → Bytes → Cause → Bytes
text_cause_line start name cause = ((((start ++ codes "the text \"") ++ name) ++ codes "\" is not a program: ") ++ cause_text cause) ++ codes "\n"

-- the line about what is wrong with such a text
abbrev pub IsFoundLine : HostState → Bytes → Bytes → Status → Bytes → Type 0
IsFoundLine host start name status line = (cause : Cause) × IsFoundCause host name status cause × (line ≡ text_cause_line start name cause)
