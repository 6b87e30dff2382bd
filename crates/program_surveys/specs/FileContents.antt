-- What is read of a file by a task that reads its files whole, and what is printed and reported of a
-- file that cannot be read or is not a dump.
use Rattle.std.specs.Prelude.{List, ℕ, [], Option, None, Result, Ok, Err, is_some, if◌then◌else◌}
use Rattle.d64_image.specs.Disk.{Bytes}
use Rattle.d64_g64.specs.DumpOf.{dump_of}
use Rattle.host_storage.specs.Files.{HostState}
use Rattle.out_json_csv.specs.Values.{line_of}
use Rattle.out_json_csv.specs.FailedDumps.{unread_object, no_dump_object}
use Rattle.out_messages.specs.FaultLines.{unread_line, wrong_length_line}
use Rattle.program_arguments.specs.declared.jobs.DiffForm.{DiffForm}
use Rattle.program_arguments.specs.declared.jobs.DiffForm.TheVariants.{Text, Json}
use Rattle.program_surveys.specs.Names.{File}
use Rattle.program_console.specs.Reasons.{with_known_reason}
use Rattle.program_surveys.specs.Runs.{IsFetched, SaysWhy}
use Rattle.program_console.specs.declared.reason.Reason.{Reason}

-- what is read of a file: its bytes, or why it cannot be read, if that is known
abbrev pub Contents : Type 0
Contents = Result Bytes (Option Reason)

-- what is read of a file, by the bytes of the value that holds them
abbrev pub contents_by : {B : Type 0} → (B → Bytes) → Result B (Option Reason) → Contents
contents_by bytes_of (Ok bytes) = Ok (bytes_of bytes)
contents_by bytes_of (Err reason) = Err reason

-- this was read of a file: its bytes, or why it cannot be read, as far as the host can say
abbrev pub IsReadAs : List ℕ → HostState → Contents → HostState → Type 0
IsReadAs name old (Ok bytes) new = IsFetched name old (Ok bytes) new
IsReadAs name old (Err reason) new = SaysWhy (File name) old None new reason

-- the line on standard error of a file that cannot be read, with the reason, or is not a dump
abbrev pub contents_fault_line : Bytes → Contents → List ℕ
contents_fault_line name (Err reason) = with_known_reason reason (unread_line name)
contents_fault_line name (Ok bytes) = if is_some (dump_of bytes) then [] else wrong_length_line name bytes

-- what is printed of such a file
abbrev pub printed_contents_fault : DiffForm → Bytes → Contents → List ℕ
printed_contents_fault Text name contents = []
printed_contents_fault Json name (Err reason) = line_of (unread_object name)
printed_contents_fault Json name (Ok bytes) = if is_some (dump_of bytes) then [] else line_of (no_dump_object name bytes)
