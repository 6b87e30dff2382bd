-- Arguments that ask for a program on the output.
use Rattle.std.specs.Prelude.{◌≡◌, ◌↔◌, ℕ, Bool, false, List, Option, None, Result, Ok, Err, IsNone, IsSomeAnd, IsTrue, ⊤}
use Rattle.program_arguments.specs.Requested.{IsJob}
use Rattle.program_arguments.specs.declared.jobs.Job.{Job}
use Rattle.program_arguments.specs.declared.jobs.Job.TheVariants.{Crunch}
use Rattle.program_arguments.specs.declared.jobs.JobFault.{JobFault}
use Rattle.program_arguments.specs.declared.jobs.JobFault.TheVariants.{Memory}

-- the job writes a program to the output
abbrev pub IsForProgram : Job → Type 0
IsForProgram (Crunch start file None) = ⊤
IsForProgram job = ⊥

-- the arguments ask for a job that writes a program to the output
abbrev pub AsksForProgram : List (List ℕ) → Type 0
AsksForProgram arguments = (job : Job) × IsJob arguments job × IsForProgram job

-- whether what the arguments were read as is such a job; nothing is known if memory ran out
abbrev pub IsReadAsForProgram : Result Job JobFault → Option Bool → Type 0
IsReadAsForProgram (Ok job) asks = IsSomeAnd asks (λ asks. IsTrue asks ↔ IsForProgram job)
IsReadAsForProgram (Err Memory) asks = IsNone asks
IsReadAsForProgram (Err fault) asks = IsSomeAnd asks (λ asks. asks ≡ false)
