-- How a tool that is run as a job ends, and how that is reported.
use Rattle.std.specs.Prelude.{◌≡◌, ℕ, List, [], Option, Some, None, Result, Ok, Err, ◌⊎◌}
use Rattle.std.specs.Io.KnownBytes.{Keeps}
use Rattle.host_storage.specs.Input.{IsUnreadable, input_limit}
use Rattle.host_storage.specs.Output.{Account, Writes}
use Rattle.script_lines.specs.Status.{status_line}
use Rattle.host_storage.specs.Files.{Files, HostState}
use Rattle.host_storage.specs.declared.host.HostFault.{HostFault}
use Rattle.host_storage.specs.declared.host.HostFault.TheVariants as files
use Rattle.script_lines.specs.Act.{FetchesFile}
use Rattle.script_lines.specs.BasicFiles.{status_of_basic, status_of_listing}
use Rattle.out_messages.specs.FaultLines.{unwritten_line}
use Rattle.cbm_text.specs.FaultyLines.{AreFaultyIn}
use Rattle.cbm_text.specs.ListFault.{list_fault_text}
use Rattle.cbm_text.specs.declared.fault.ListFault.{ListFault}
use Rattle.cbm_text.specs.declared.faulty_text.FaultyLine.{FaultyLine}
use Rattle.cmd_basic.specs.RefusalLine.{refusal_line}
use Rattle.cmd_basic.specs.RefusedText.{refused_text}
use Rattle.cmd_basic.specs.Tools.{HasRead, HasStored, HasWritten, RanTool, ReadsNot, ReadsWith, WritesWith, start_of}
use Rattle.cmd_basic.specs.declared.tools.Tool.{Tool}
use Rattle.cmd_basic.specs.declared.tools.ToolFault.{ToolFault}
use Rattle.cmd_basic.specs.declared.tools.ToolFault.TheVariants as tool_faults
use Rattle.program_console.specs.declared.program_fault.ProgramFault.TheVariants.{Read, Write, Memory}
use Rattle.program_console.specs.Outside.{Outside}
use Rattle.program_console.specs.Faults.{Reports}
use Rattle.program_console.specs.Reasons.{IsWriteReason, with_known_reason}
use Rattle.program_console.specs.declared.reason.Reason.{Reason}

-- the tool's fault for a host file that cannot be fetched
abbrev pub fault_of_fetch : HostFault → ToolFault
fault_of_fetch (files.Memory error) = tool_faults.Memory error
fault_of_fetch fault = tool_faults.Read

-- the tool's input, if a host file was fetched with this result
abbrev pub taken_of : Result (List ℕ) HostFault → Result (List ℕ) ToolFault
taken_of (Ok bytes) = Ok bytes
taken_of (Err fault) = Err (fault_of_fetch fault)

-- what a tool has written, and its result, if its host file was fetched with this result
abbrev pub WritesFetched : {A : Type 0} → Tool → Result (List ℕ) HostFault → Option (List ℕ) → Option (List ℕ) → Result A ToolFault → Type 0
WritesFetched tool (Ok bytes) old new outcome = HasWritten tool bytes old new outcome
WritesFetched tool (Err fault) old new outcome = (outcome ≡ Err (fault_of_fetch fault)) × Keeps old new

-- a tool has run on the input, or on the host file with this name
abbrev pub RanToolOn : {A : Type 0} → Tool → Option (List ℕ) → Outside → Outside → Result A ToolFault → Type 0
RanToolOn tool None old new outcome = RanTool tool old.reader new.reader old.output.contents new.output.contents outcome × (new.host ≡ old.host)
RanToolOn tool (Some name) old new outcome = (new.reader ≡ old.reader)
    × (fetched : Result (List ℕ) HostFault) × FetchesFile old.host name input_limit fetched new.host × WritesFetched tool fetched old.output.contents new.output.contents outcome

-- how a tool's result is reported: status 0 and no line if it wrote its output; 1 and a status
-- line, whole unless writing it failed, if it refused its input; and otherwise 2 and the line of a
-- fault
abbrev pub ReportsToolResult : {A : Type 0} → Result A ToolFault → Account → Account → ℕ → Type 0
ReportsToolResult (Ok done) faults reported status = (status ≡ 0) × (reported ≡ faults)
ReportsToolResult (Err (tool_faults.Text fault)) faults reported status =
    (status ≡ 1) × Writes faults reported (status_line (status_of_basic fault))
ReportsToolResult (Err (tool_faults.NotBasic fault)) faults reported status = (status ≡ 1) × Writes faults reported (status_line (status_of_listing fault))
ReportsToolResult (Err tool_faults.Read) faults reported status = Reports Read faults reported status
ReportsToolResult (Err tool_faults.Write) faults reported status = Reports Write faults reported status
ReportsToolResult (Err (tool_faults.Memory error)) faults reported status = Reports Memory faults reported status

-- a tool has taken its input, of the standard input or of the host file with this name; or it could
-- not, by this fault
abbrev pub TakesInput : Option (List ℕ) → Option (List ℕ) → Option (List ℕ) → HostState → HostState → Result (List ℕ) ToolFault → Type 0
TakesInput None reader left old new (Ok bytes) = HasRead reader left bytes × (new ≡ old)
TakesInput None reader left old new (Err fault) = ReadsNot reader left fault × (new ≡ old)
TakesInput (Some name) reader left old new taken =
    (left ≡ reader) × (fetched : Result (List ℕ) HostFault) × FetchesFile old name input_limit fetched new × (taken ≡ taken_of fetched)

-- what a tool has stored of the input that was taken with this result; nothing is stored if it
-- could not be taken
abbrev pub StoresTaken : Tool → Result (List ℕ) ToolFault → List ℕ → HostState → HostState → Result (Unit {0}) ToolFault → Type 0
StoresTaken tool (Ok bytes) target old new outcome = HasStored tool bytes target old new outcome
StoresTaken tool (Err fault) target old new outcome = (outcome ≡ Err fault) × (new ≡ old)

-- the bytes of a tool's input, if it has taken them
abbrev pub input_bytes_of : Result (List ℕ) ToolFault → List ℕ
input_bytes_of (Ok bytes) = bytes
input_bytes_of (Err fault) = []

-- a tool that has taken these bytes has run on the input, or on the host file with this name, to
-- the target file; nothing was printed
pub record RanToolTo (tool : Tool) (name : Option (List ℕ)) (target : List ℕ) (taken : Result (List ℕ) ToolFault) (old new : Outside) (outcome : Result (Unit {0}) ToolFault) : Type 0 where
  pub host : HostState
  pub takes : TakesInput name old.reader new.reader old.host host taken
  pub stores : StoresTaken tool taken target host new.host outcome
  pub output : new.output ≡ old.output

-- the faulty lines of a text whose program is loaded at an address are reported, with status 1; or
-- memory ran out
abbrev pub ReportsFaultyLines : Option (List ℕ) → ℕ → List ℕ → Account → Account → ℕ → Type 0
ReportsFaultyLines name start text faults reported status =
    ((status ≡ 1) × (lines : List FaultyLine) × AreFaultyIn start text lines × Writes faults reported (refused_text name lines)) ⊎ Reports Memory faults reported status

-- why an input is no program is reported, with status 1; or memory ran out
abbrev pub ReportsProgram : Option (List ℕ) → ListFault → Account → Account → ℕ → Type 0
ReportsProgram name fault faults reported status =
    ((status ≡ 1) × Writes faults reported (refusal_line name None (status_of_listing fault) (list_fault_text fault))) ⊎ Reports Memory faults reported status

-- a result that cannot be stored on a host with these files is reported with the reason, as far as
-- the host can say, and with status 2; or memory ran out
abbrev pub ReportsUnwritten : List ℕ → Option Files → Account → Account → ℕ → Type 0
ReportsUnwritten target all faults reported status =
    ((status ≡ 2) × (reason : Option Reason) × IsWriteReason all target reason × Writes faults reported (with_known_reason reason (unwritten_line target)))
    ⊎ Reports Memory faults reported status

-- how a tool is reported that had these bytes and stores its result, on a host with these files
-- then
abbrev pub ReportsStored : {A : Type 0} → Tool → Option (List ℕ) → List ℕ → List ℕ → Option Files → Result A ToolFault → Account → Account → ℕ → Type 0
ReportsStored tool name bytes target all (Ok done) faults reported status = (status ≡ 0) × (reported ≡ faults)
ReportsStored tool name bytes target all (Err (tool_faults.Text fault)) faults reported status = ReportsFaultyLines name (start_of tool) bytes faults reported status
ReportsStored tool name bytes target all (Err (tool_faults.NotBasic fault)) faults reported status = ReportsProgram name fault faults reported status
ReportsStored tool name bytes target all (Err tool_faults.Read) faults reported status = Reports Read faults reported status
ReportsStored tool name bytes target all (Err tool_faults.Write) faults reported status = ReportsUnwritten target all faults reported status
ReportsStored tool name bytes target all (Err (tool_faults.Memory error)) faults reported status = Reports Memory faults reported status

-- how a tool ended that stores its result; it reports a fault of reading its input only if that
-- cannot be read to its end
abbrev pub EndedToolTo : Tool → Option (List ℕ) → List ℕ → Outside → Outside → ℕ → Type 0
EndedToolTo tool name target old new status =
    (taken : Result (List ℕ) ToolFault) × (outcome : Result (Unit {0}) ToolFault) × RanToolTo tool name target taken old new outcome
    × (name ≡ None → outcome ≡ Err tool_faults.Read → IsUnreadable new.reading) × ReportsStored tool name (input_bytes_of taken) target new.host.files outcome old.error new.error status

-- how a tool ended that prints its result; it reports a fault of reading its input, or of writing,
-- only if the input cannot be read to its end, or a write or a flush has failed
abbrev pub EndedTool : Tool → Option (List ℕ) → Outside → Outside → ℕ → Type 0
EndedTool tool name old new status =
    (outcome : Result (Unit {0}) ToolFault) × RanToolOn tool name old new outcome
    × (name ≡ None → ReadsWith outcome new.reading) × WritesWith outcome old.output.has_failed new.output.has_failed × ReportsToolResult outcome old.error new.error status

-- how a tool ended whose result goes to the output, or to the host file with this name
abbrev pub EndedConversion : Tool → Option (List ℕ) → Option (List ℕ) → Outside → Outside → ℕ → Type 0
EndedConversion tool name None old new status = EndedTool tool name old new status
EndedConversion tool name (Some target) old new status = EndedToolTo tool name target old new status
