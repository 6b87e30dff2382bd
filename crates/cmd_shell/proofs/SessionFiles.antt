-- What was read of an opened host file is what a fetch gives of it.
use Rattle.std.proofs.Common.{◌≡◌, ℕ, ◌<◌, ◌≤◌, List, length, Option, None, Some, Ok, Err, inl, inr, refl, sym, subst}
use Rattle.std.specs.Option.{IfSome, IsSomeAnd}
use Rattle.std.specs.FinMap.{get}
use Rattle.host_storage.specs.Files.{Files}
use Rattle.host_storage.specs.Host.{Fetches, Opens, IsOfDeviceOrMemory}
use Rattle.host_storage.specs.declared.host.HostFault.{HostFault}
use Rattle.host_storage.specs.declared.host.HostFault.TheVariants.{Missing, Device, TooLong, Memory}
use Rattle.d64_history.specs.ResumeFault.{first_resume_fault, reported_by}
use Rattle.d64_history.specs.declared.resume_fault.ResumeFault.{ResumeFault}
use Rattle.d64_history.specs.declared.resume_fault.ResumeFault.TheVariants as resumes
use Rattle.cmd_shell.specs.ShellRuns.{GivesNoSession}
use Rattle.cmd_shell.specs.ShellFaults.{fault_of_resume}

-- a file of which all bytes were read
pub fetches_read : (files : Option Files) (name : List ℕ) (limit : ℕ) (rest : Option (List ℕ)) (bytes : List ℕ)
    → Opens files name (Ok rest) → IfSome rest (λ all. all ≡ bytes) → length bytes ≤ limit → Fetches files name limit (Ok bytes)
fetches_read None name limit rest bytes opened whole within = within
fetches_read (Some all) name limit None bytes opened whole within = absurd opened
fetches_read (Some all) name limit (Some reported) bytes opened whole within = (subst (λ (it : List ℕ). get all name ≡ Some it) whole opened, within)

-- a file that has more bytes than may be read
pub fetches_too_long : (files : Option Files) (name : List ℕ) (limit : ℕ) (rest : Option (List ℕ))
    → Opens files name (Ok rest) → IfSome rest (λ all. limit < length all) → Fetches files name limit (Err TooLong)
fetches_too_long None name limit rest opened long = tt
fetches_too_long (Some all) name limit None opened long = absurd opened
fetches_too_long (Some all) name limit (Some reported) opened long =
    subst (λ (it : Option (List ℕ)). IsSomeAnd it (λ bytes. limit < length bytes)) (sym opened) long

-- a file that could not be opened
pub fetches_none : (files : Option Files) (name : List ℕ) (limit : ℕ) (fault : HostFault)
    → Opens files name (Err fault) → Fetches files name limit (Err fault)
fetches_none None name limit Missing opened = tt
fetches_none None name limit Device opened = tt
fetches_none None name limit TooLong opened = tt
fetches_none None name limit (Memory error) opened = tt
fetches_none (Some all) name limit Missing opened = opened
fetches_none (Some all) name limit Device opened = tt
fetches_none (Some all) name limit TooLong opened = absurd opened
fetches_none (Some all) name limit (Memory error) opened = tt

-- whatever the files are, a device may fail and memory may run out
pub fetches_failed : (files : Option Files) (name : List ℕ) (limit : ℕ) (fault : HostFault) → IsOfDeviceOrMemory fault → Fetches files name limit (Err fault)
fetches_failed files name limit Missing failed = absurd failed
fetches_failed files name limit TooLong failed = absurd failed
fetches_failed None name limit Device failed = tt
fetches_failed None name limit (Memory error) failed = tt
fetches_failed (Some all) name limit Device failed = tt
fetches_failed (Some all) name limit (Memory error) failed = tt

-- bytes that are refused give no session
pub gives_none : (fault : ResumeFault) (bytes : List ℕ) → reported_by fault (first_resume_fault bytes) ≡ first_resume_fault bytes → GivesNoSession (Ok bytes) (fault_of_resume fault)
gives_none resumes.NotSession bytes reported = inl (resumes.NotSession, sym reported, refl)
gives_none resumes.Truncated bytes reported = inl (resumes.Truncated, sym reported, refl)
gives_none resumes.Trailing bytes reported = inl (resumes.Trailing, sym reported, refl)
gives_none resumes.BadCursor bytes reported = inl (resumes.BadCursor, sym reported, refl)
gives_none resumes.BadRecord bytes reported = inl (resumes.BadRecord, sym reported, refl)
gives_none (resumes.Memory error) bytes reported = inr refl
