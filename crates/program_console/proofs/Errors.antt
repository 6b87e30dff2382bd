-- Errors of arguments.
use Rattle.std.proofs.Common.{ℕ, List, inr}
use Rattle.program_arguments.specs.Requested.{IsFault}
use Rattle.program_arguments.specs.declared.jobs.JobFault.{JobFault}
use Rattle.program_arguments.specs.declared.jobs.JobFault.TheVariants.{Arguments, Start, Memory, Tracks, Both, Format, Names, Null, Picture, Difference, Folder, Title, Links, Output, Dumps}
use Rattle.program_console.specs.RequestedJob.{IsErrorOf}

-- a fault of arguments is an error of them, if it is one of clap's
pub of_arguments : (arguments : List (List ℕ)) (fault : JobFault) → IsFault arguments fault → IsErrorOf arguments fault
of_arguments arguments (Arguments error) is = inr is
of_arguments arguments Start is = tt
of_arguments arguments Memory is = tt
of_arguments arguments Tracks is = tt
of_arguments arguments Both is = tt
of_arguments arguments Format is = tt
of_arguments arguments Names is = tt
of_arguments arguments Null is = tt
of_arguments arguments Picture is = tt
of_arguments arguments Difference is = tt
of_arguments arguments Folder is = tt
of_arguments arguments Title is = tt
of_arguments arguments Links is = tt
of_arguments arguments Output is = tt
of_arguments arguments Dumps is = tt
