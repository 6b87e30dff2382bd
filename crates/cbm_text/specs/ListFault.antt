-- Why bytes can't be listed as a program.
use Rattle.std.specs.Prelude.{ℕ, ◌<◌, ◌≤◌, List, length, codes}
use Rattle.cbm_text.specs.declared.fault.ListFault.{ListFault}
use Rattle.cbm_text.specs.declared.fault.ListFault.TheVariants.{NoAddress, Truncated, Memory}
use Rattle.cbm_text.specs.Program.{Program, ReadsProgram}

-- The fault of bytes: fewer than two have no load address, all others that are no program are cut
-- short.
abbrev pub ListsNot : List ℕ → ListFault → Type 0
ListsNot file NoAddress = length file < 2
ListsNot file Truncated = (2 ≤ length file) × ((program : Program) → ¬ (ReadsProgram file program))
ListsNot file (Memory error) = 2 ≤ length file

-- The numbers of the faults.
abbrev pub list_fault_number : ListFault → ℕ
list_fault_number NoAddress = 1
list_fault_number Truncated = 2
list_fault_number (Memory error) = 3

-- The faults in plain words.
abbrev pub list_fault_text : ListFault → List ℕ
list_fault_text NoAddress = codes "a program begins with a load address of two bytes"
list_fault_text Truncated = codes "the program is cut short"
list_fault_text (Memory error) = codes "out of memory"
