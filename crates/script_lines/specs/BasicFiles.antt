-- The program of a BASIC text of the host and the text of a program of the disk, or the status that
-- refuses them.
use Rattle.std.specs.Prelude.{◌≡◌, ℕ, Result, Ok, Err}
use Rattle.d64_image.specs.Disk.{Bytes}
use Rattle.cbm_text.specs.BasicText as texts
use Rattle.cbm_text.specs.ListFault.{ListsNot}
use Rattle.cbm_text.specs.Listing.{Lists}
use Rattle.cbm_text.specs.declared.fault.BasicFault.{BasicFault}
use Rattle.cbm_text.specs.declared.fault.ListFault.{ListFault}
use Rattle.cbm_text.specs.declared.fault.BasicFault.TheVariants as basic_faults
use Rattle.cbm_text.specs.declared.fault.ListFault.TheVariants as list_faults
use Rattle.script_lines.specs.declared.status.Status.{Status}
use Rattle.script_lines.specs.declared.status.Status.TheVariants.{BasicText, NotBasic, OutOfMemory}

-- a BASIC program's place in memory
abbrev pub program_start : ℕ
program_start = 0x0801

-- the status of a BASIC text's fault
abbrev pub status_of_basic : BasicFault → Status
status_of_basic (basic_faults.Memory error) = OutOfMemory
status_of_basic fault = BasicText fault

-- the status of a fault of a program
abbrev pub status_of_listing : ListFault → Status
status_of_listing (list_faults.Memory error) = OutOfMemory
status_of_listing fault = NotBasic fault

-- a BASIC text gives its program file, or its first fault
abbrev pub Crunches : Bytes → Result Bytes Status → Type 0
Crunches text (Ok file) = texts.IsFileOf program_start text file
Crunches text (Err status) = (fault : BasicFault) × texts.IsFirstBasicFault program_start text fault × (status ≡ status_of_basic fault)

-- a program file gives its text, or its fault
abbrev pub Expands : Bytes → Result Bytes Status → Type 0
Expands file (Ok text) = Lists file text
Expands file (Err status) = (fault : ListFault) × ListsNot file fault × (status ≡ status_of_listing fault)
