-- What the tools make of an input, and what they write.
use Rattle.std.specs.Prelude.{◌≡◌, ◌⊎◌, ℕ, ◌≤◌, Bool, true, false, List, length, Option, IfSome, Result, Ok, Err, ⊤}
use Rattle.std.specs.Io.KnownBytes.{Appends, Consumes, IsAtEnd, Keeps}
use Rattle.cbm_text.specs.BasicText.{IsFileOf, IsFirstBasicFault, NamesLine}
use Rattle.cbm_text.specs.Listing.{Lists}
use Rattle.cbm_text.specs.ListFault.{ListsNot}
use Rattle.cbm_text.specs.declared.fault.ListFault.{ListFault}
use Rattle.cbm_text.specs.declared.fault.ListFault.TheVariants as list_faults
use Rattle.host_storage.specs.Input.{Reading, IsUnreadable, input_limit}
use Rattle.host_storage.specs.Output.{AppendsPart}
use Rattle.host_storage.specs.Files.{HostState}
use Rattle.host_storage.specs.declared.host.HostFault.{HostFault}
use Rattle.host_storage.specs.declared.host.HostFault.TheVariants as files
use Rattle.script_lines.specs.Act.{StoresFile}
use Rattle.cmd_basic.specs.declared.tools.Tool.{Tool}
use Rattle.cmd_basic.specs.declared.tools.Tool.TheVariants.{Petcat, Crunch}
use Rattle.cmd_basic.specs.declared.tools.ToolFault.{ToolFault}
use Rattle.cmd_basic.specs.declared.tools.ToolFault.TheVariants.{Read, Write, Memory, Text, NotBasic}

-- what the tool makes of an input
abbrev pub ToolMakes : Tool → List ℕ → List ℕ → Type 0
ToolMakes Petcat input output = Lists input output
ToolMakes (Crunch start) input output = IsFileOf start input output

-- the address at which the tool's program is loaded; petcat makes none
abbrev pub start_of : Tool → ℕ
start_of Petcat = 0
start_of (Crunch start) = start

-- why bytes are not a program; out of memory is no such reason
abbrev pub IsNoProgram : List ℕ → ListFault → Type 0
IsNoProgram input list_faults.NoAddress = ListsNot input list_faults.NoAddress
IsNoProgram input list_faults.Truncated = ListsNot input list_faults.Truncated
IsNoProgram input (list_faults.Memory error) = ⊥

-- why the tool makes nothing of an input: it is not a program, or not the text of one, by this
-- fault; or memory ran out
abbrev pub Refuses : Tool → List ℕ → ToolFault → Type 0
Refuses Petcat input (NotBasic fault) = IsNoProgram input fault
Refuses Petcat input (Text fault) = ⊥
Refuses Petcat input (Memory error) = ⊤
Refuses Petcat input Read = ⊥
Refuses Petcat input Write = ⊥
Refuses (Crunch start) input (NotBasic fault) = ⊥
Refuses (Crunch start) input (Text fault) = IsFirstBasicFault start input fault × NamesLine input fault
Refuses (Crunch start) input (Memory error) = ⊤
Refuses (Crunch start) input Read = ⊥
Refuses (Crunch start) input Write = ⊥

-- what the tool writes of an input: all that it makes of it, a first part if a write fails, and
-- nothing after another fault
abbrev pub HasWritten : {A : Type 0} → Tool → List ℕ → Option (List ℕ) → Option (List ℕ) → Result A ToolFault → Type 0
HasWritten tool input old new (Ok done) = (output : List ℕ) × ToolMakes tool input output × Appends old new output
HasWritten tool input old new (Err Read) = ⊥
HasWritten tool input old new (Err Write) = (output : List ℕ) × ToolMakes tool input output × AppendsPart old new output
HasWritten tool input old new (Err (Memory error)) = Keeps old new
HasWritten tool input old new (Err (Text fault)) = Refuses tool input (Text fault) × Keeps old new
HasWritten tool input old new (Err (NotBasic fault)) = Refuses tool input (NotBasic fault) × Keeps old new

-- the tool's fault for a store's: a result that cannot be stored cannot be written
abbrev pub fault_of_store : HostFault → ToolFault
fault_of_store (files.Memory error) = Memory error
fault_of_store fault = Write

-- the tool's result for a store's
abbrev pub outcome_of_store : {A : Type 0} → Result A HostFault → Result A ToolFault
outcome_of_store (Ok done) = Ok done
outcome_of_store (Err fault) = Err (fault_of_store fault)

-- what the tool stores of an input under a name: all that it makes of it, with the host's result;
-- or nothing, if it refuses the input
abbrev pub HasStored : Tool → List ℕ → List ℕ → HostState → HostState → Result (Unit {0}) ToolFault → Type 0
HasStored tool input name old new outcome =
    ((output : List ℕ) × ToolMakes tool input output × (stored : Result (Unit {0}) HostFault) × StoresFile old name output stored new × (outcome ≡ outcome_of_store stored))
    ⊎ ((fault : ToolFault) × Refuses tool input fault × (outcome ≡ Err fault) × (new ≡ old))

-- the input is all that the reader had, and no longer than a script may be
pub record HasRead (reader left : Option (List ℕ)) (input : List ℕ) : Type 0 where
  pub all : IfSome reader (λ bytes. input ≡ bytes)
  pub ended : IsAtEnd left
  pub within : length input ≤ input_limit

-- the reader's bytes were not read to their end: some were read; or memory ran out, and nothing is
-- known of those left
abbrev pub ReadsNot : Option (List ℕ) → Option (List ℕ) → ToolFault → Type 0
ReadsNot reader left Read = (consumed : List ℕ) × Consumes reader left consumed
ReadsNot reader left (Memory error) = ⊤
ReadsNot reader left Write = ⊥
ReadsNot reader left (Text fault) = ⊥
ReadsNot reader left (NotBasic fault) = ⊥

-- the tool has read a whole input, with this result
abbrev pub RanWholly : {A : Type 0} → Tool → Option (List ℕ) → Option (List ℕ) → Option (List ℕ) → Option (List ℕ) → Result A ToolFault → Type 0
RanWholly tool reader left old new outcome = (input : List ℕ) × HasRead reader left input × HasWritten tool input old new outcome

-- what a run of the tool leaves of its reader and its writer, by its result
abbrev pub RanTool : {A : Type 0} → Tool → Option (List ℕ) → Option (List ℕ) → Option (List ℕ) → Option (List ℕ) → Result A ToolFault → Type 0
RanTool {A} tool reader left old new (Ok done) = RanWholly {A = A} tool reader left old new (Ok done)
RanTool {A} tool reader left old new (Err Read) = ReadsNot reader left Read × Keeps old new
RanTool {A} tool reader left old new (Err Write) = RanWholly {A = A} tool reader left old new (Err Write)
RanTool {A} tool reader left old new (Err (Memory error)) = Keeps old new
RanTool {A} tool reader left old new (Err (Text fault)) = RanWholly {A = A} tool reader left old new (Err (Text fault))
RanTool {A} tool reader left old new (Err (NotBasic fault)) = RanWholly {A = A} tool reader left old new (Err (NotBasic fault))

-- a tool returns a fault of writing if and only if its output has failed
abbrev pub WritesWith : {A : Type 0} → Result A ToolFault → Bool → Bool → Type 0
WritesWith (Ok done) old new = new ≡ old
WritesWith (Err Write) old new = new ≡ true
WritesWith (Err Read) old new = new ≡ old
WritesWith (Err (Memory error)) old new = new ≡ old
WritesWith (Err (Text fault)) old new = new ≡ old
WritesWith (Err (NotBasic fault)) old new = new ≡ old

-- a tool returns a fault of reading if and only if its input cannot be read to its end; if memory
-- runs out, it may have stopped before
abbrev pub ReadsWith : {A : Type 0} → Result A ToolFault → Reading → Type 0
ReadsWith (Ok done) input = input.has_failed ≡ false
ReadsWith (Err Read) input = IsUnreadable input
ReadsWith (Err Write) input = input.has_failed ≡ false
ReadsWith (Err (Memory error)) input = ⊤
ReadsWith (Err (Text fault)) input = input.has_failed ≡ false
ReadsWith (Err (NotBasic fault)) input = input.has_failed ≡ false
