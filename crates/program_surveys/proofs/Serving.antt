-- Files that are read and processed, and those that cannot be read.
use Rattle.std.proofs.Common.{◌≡◌, ℕ, List, Option, Some, None, Result, Ok, Err, refl, inl}
use Rattle.host_storage.specs.Files.{HostState}
use Rattle.host_storage.specs.declared.host.HostFault.{HostFault}
use Rattle.program_surveys.specs.Names.{File, NoFile}
use Rattle.program_console.specs.Reasons.{IsReason}
use Rattle.program_surveys.specs.FileOutcomes.{FileOutcome, Effects}
use Rattle.program_surveys.specs.Runs.{EndsServing, EndsUnread, Halts, IsFetched, IsRead, Serves, given_by}
use Rattle.program_console.specs.declared.reason.Reason.{Reason}
use Rattle.program_surveys.specs.declared.report.Verdict.{Verdict}
use Rattle.program_console.specs.declared.stream_fault.StreamFault.{StreamFault}
use Rattle.program_console.specs.declared.stream_fault.StreamFault.TheVariants as faults

-- a file was read and processed
pub serves_read : (effects : Effects) (name bytes : List ℕ) (old host new : HostState) (outcome : FileOutcome)
    → IsRead (File name) old (Some bytes) host → effects.does name (Some bytes) host outcome new → Serves effects (File name) old outcome new
serves_read effects name bytes old host new outcome read done = record {
  bytes = Some bytes;
  host = host;
  read = read;
  plain = outcome;
  done = done;
  reason = None;
  why = refl;
  is = refl;
}

-- or memory ran out while it was
pub halts_read : (effects : Effects) (name bytes : List ℕ) (old host new : HostState)
    → IsRead (File name) old (Some bytes) host → effects.halts name (Some bytes) host new → Halts effects (File name) old new
halts_read effects name bytes old host new read halted = record { bytes = Some bytes; host = host; read = read; halted = halted }

-- a file that could not be read ends as its task ends
pub ends_unread : (effects : Effects) (name : List ℕ) (fault : HostFault) (reason : Option Reason) (old host new : HostState) (outcome : Verdict → FileOutcome) (result : Result Verdict StreamFault)
    → IsFetched name old (Err fault) host → given_by (Err fault) ≡ Some None → IsReason host.files name fault reason
    → EndsUnread effects name reason host new outcome result → EndsServing effects (File name) old new outcome result
ends_unread effects name fault reason old host new outcome (Ok verdict) fetched given is_reason ends = record {
  bytes = None;
  host = host;
  read = (Err fault, fetched, given);
  plain = ends.0;
  done = ends.1;
  reason = reason;
  why = (fault, fetched, given, is_reason);
  is = ends.2;
}
ends_unread effects name fault reason old host new outcome (Err faults.Memory) fetched given is_reason ends =
    inl (record { bytes = None; host = host; read = (Err fault, fetched, given); halted = ends })
ends_unread effects name fault reason old host new outcome (Err faults.Write) fetched given is_reason ends = absurd ends
ends_unread effects name fault reason old host new outcome (Err faults.Read) fetched given is_reason ends = absurd ends

-- a name that cannot be a file's ends as its task ends
pub ends_no_file : (effects : Effects) (name : List ℕ) (reason : Reason) (old new : HostState) (outcome : Verdict → FileOutcome) (result : Result Verdict StreamFault)
    → EndsUnread effects name (Some reason) old new outcome result → EndsServing effects (NoFile name reason) old new outcome result
ends_no_file effects name reason old new outcome (Ok verdict) ends = record {
  bytes = None;
  host = old;
  read = (refl, refl);
  plain = ends.0;
  done = ends.1;
  reason = Some reason;
  why = refl;
  is = ends.2;
}
ends_no_file effects name reason old new outcome (Err faults.Memory) ends = inl (record { bytes = None; host = old; read = (refl, refl); halted = ends })
ends_no_file effects name reason old new outcome (Err faults.Write) ends = absurd ends
ends_no_file effects name reason old new outcome (Err faults.Read) ends = absurd ends
