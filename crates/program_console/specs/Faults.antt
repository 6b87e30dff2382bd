-- What stops the program, and how that is reported.
use Rattle.std.specs.Prelude.{◌≡◌, ℕ, List, [], ◌++◌, length, codes}
use Rattle.std.specs.Fmt.{decimal}
use Rattle.host_storage.specs.Output.{Account, Writes}
use Rattle.host_storage.specs.declared.host.HostFault.{HostFault}
use Rattle.host_storage.specs.declared.host.HostFault.TheVariants as files
use Rattle.program_console.specs.declared.stream_fault.StreamFault.{StreamFault}
use Rattle.program_console.specs.declared.stream_fault.StreamFault.TheVariants as streams
use Rattle.program_console.specs.declared.program_fault.ProgramFault.{ProgramFault}
use Rattle.program_console.specs.declared.program_fault.ProgramFault.TheVariants.{UnreadableArgument, WrongLength, UnreadableImage, UnreadableSession, NoSession, Read, Write, Memory}

-- the fault for a file that cannot be fetched: the file is unreadable, or memory ran out
abbrev pub fault_of_file : ProgramFault → HostFault → ProgramFault
fault_of_file unreadable (files.Memory error) = Memory
fault_of_file unreadable fault = unreadable

-- the fault for a fault of a job's streams
abbrev pub fault_of_stream : StreamFault → ProgramFault
fault_of_stream streams.Read = Read
fault_of_stream streams.Write = Write
fault_of_stream streams.Memory = Memory

-- the text of a fault, without its number if it has one
abbrev pub fault_begin : ProgramFault → List ℕ
fault_begin UnreadableArgument = codes "usage: an argument is not UTF-8"
fault_begin (WrongLength length) = codes "image: wrong length "
fault_begin UnreadableImage = codes "image: cannot be read"
fault_begin UnreadableSession = codes "session: cannot be read"
fault_begin (NoSession fault) = codes "session: fault "
fault_begin Read = codes "read fault"
fault_begin Write = codes "write fault"
fault_begin Memory = codes "out of memory"

-- the number at the end of the text
abbrev pub fault_digits : ProgramFault → List ℕ
fault_digits (WrongLength length) = decimal length
fault_digits (NoSession fault) = decimal fault
fault_digits other = []

-- the whole text of a fault
unfoldable pub program_fault_text : ProgramFault → List ℕ
program_fault_text fault = fault_begin fault ++ fault_digits fault

-- the line with this text and a line feed
unfoldable pub line_with : List ℕ → List ℕ
line_with text = codes "d64sh: " ++ text ++ codes "\n"

-- a fault with this text was reported: exit status 2, and its line, whole unless writing it failed
abbrev pub ReportsText : List ℕ → Account → Account → ℕ → Type 0
ReportsText text faults reported status = (status ≡ 2) × Writes faults reported (line_with text)

-- this fault was reported
abbrev pub Reports : ProgramFault → Account → Account → ℕ → Type 0
Reports fault faults reported status = ReportsText (program_fault_text fault) faults reported status
