-- The faults of images, sessions and scripts as those of the program.
use Rattle.d64_image.specs.declared.image.ImageFault.{ImageFault}
use Rattle.d64_image.specs.declared.image.ImageFault.TheVariants as images
use Rattle.d64_history.specs.ResumeFault.{resume_fault_number}
use Rattle.d64_history.specs.declared.resume_fault.ResumeFault.{ResumeFault}
use Rattle.d64_history.specs.declared.resume_fault.ResumeFault.TheVariants as resumes
use Rattle.cmd_shell.specs.declared.runner.ShellFault.{ShellFault}
use Rattle.cmd_shell.specs.declared.runner.ShellFault.TheVariants as runs
use Rattle.program_console.specs.declared.program_fault.ProgramFault.{ProgramFault}
use Rattle.program_console.specs.declared.program_fault.ProgramFault.TheVariants.{WrongLength, NoSession, Read, Write, Memory}

-- the fault for the bytes of a session file, with the number of what is wrong with them
abbrev pub fault_of_resume : ResumeFault → ProgramFault
fault_of_resume (resumes.Memory error) = Memory
fault_of_resume fault = NoSession (resume_fault_number fault)

-- the fault for the bytes of an image file
abbrev pub fault_of_image : ImageFault → ProgramFault
fault_of_image (images.WrongLength length) = WrongLength length
fault_of_image (images.Memory error) = Memory

-- the fault for a fault of the shell
abbrev pub fault_of_run : ShellFault → ProgramFault
fault_of_run runs.Read = Read
fault_of_run runs.Write = Write
fault_of_run (runs.Memory error) = Memory
