-- Refusals, and their causes in an image.
use Rattle.std.specs.Prelude.{Option, Some, None, Result, Ok, Err}
use Rattle.d64_files.specs.declared.reading.ReadFault.{ReadFault}
use Rattle.d64_files.specs.declared.reading.ReadFault.TheVariants as faults
use Rattle.d64_dos.specs.declared.refusal.Refusal.{Refusal}
use Rattle.d64_dos.specs.declared.refusal.Refusal.TheVariants.{NotClosed, NotFound, WrongType, Directory, Memory}

-- a refusal that the image causes: any but out of memory
abbrev pub cause_of : Refusal → Option Refusal
cause_of Memory = None
cause_of refusal = Some refusal

-- the refusal that was returned with a cause in the image: None if the request was accepted or
-- memory was out
abbrev pub refused_by : {T : Type 0} → Result T Refusal → Option Refusal
refused_by (Ok value) = None
refused_by (Err refusal) = cause_of refusal

-- the refusal for a file that can't be read
abbrev pub of_read_fault : ReadFault → Refusal
of_read_fault (faults.Directory fault) = Directory fault
of_read_fault faults.NotFound = NotFound
of_read_fault faults.NotClosed = NotClosed
of_read_fault faults.WrongType = WrongType
of_read_fault (faults.Memory error) = Memory
