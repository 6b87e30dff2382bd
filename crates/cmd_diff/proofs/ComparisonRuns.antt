-- What a comparison leaves, by what its steps leave.
use Rattle.std.proofs.Common.{◌≡◌, ℕ, List, Result, Err, inr, refl, sym, subst}
use Rattle.host_storage.specs.Files.{HostState}
use Rattle.program_surveys.specs.FileOutcomes.{FileOutcome}
use Rattle.program_surveys.specs.Runs.{IsCut, IsReported, Reported, run_state}
use Rattle.cmd_diff.specs.Comparisons.{AreCompared, Compares, PairRule}
use Rattle.program_console.specs.declared.stream_fault.StreamFault.{StreamFault}
use Rattle.program_console.specs.declared.stream_fault.StreamFault.TheVariants.{Memory, Write}
use Rattle.program_surveys.specs.FileContents.{Contents, IsReadAs}

-- both files were read, and memory ran out
pub wants_memory : (rule : PairRule) (old_name new_name : List ℕ) (first middle last : HostState) (reported : Reported) (old new : Contents) (result : Result (Unit {0}) StreamFault)
    → IsReadAs old_name first old middle → IsReadAs new_name middle new last → result ≡ Err Memory
    → Compares rule old_name new_name (run_state first reported) (run_state last reported) result
wants_memory rule old_name new_name first middle last reported old new result old_read new_read is =
    let ended : Compares {A = Unit {0}} rule old_name new_name (run_state first reported) (run_state last reported) (Err Memory) =
    (inr (inr (old, new, record { middle = middle; old_read = old_read; new_read = new_read })), refl) in
    subst (λ (r : Result (Unit {0}) StreamFault). Compares rule old_name new_name (run_state first reported) (run_state last reported) r) (sym is) ended

-- both files were read, and the output failed while the result was written
pub was_cut : (rule : PairRule) (old_name new_name : List ℕ) (first middle last : HostState) (before after : Reported) (old new : Contents) (said : FileOutcome) (result : Result (Unit {0}) StreamFault)
    → IsReadAs old_name first old middle → IsReadAs new_name middle new last → said ≡ rule old_name old new_name new → IsCut said before after → result ≡ Err Write
    → Compares rule old_name new_name (run_state first before) (run_state last after) result
was_cut rule old_name new_name first middle last before after old new said result old_read new_read same cut is =
    let ended : Compares {A = Unit {0}} rule old_name new_name (run_state first before) (run_state last after) (Err Write) = record {
      old = old;
      new = new;
      read = record { middle = middle; old_read = old_read; new_read = new_read };
      reported = subst (λ (a : FileOutcome). IsCut a before after) same cut;
    } in
    subst (λ (r : Result (Unit {0}) StreamFault). Compares rule old_name new_name (run_state first before) (run_state last after) r) (sym is) ended

-- both files were read, and the result was written
pub compared : (rule : PairRule) (old_name new_name : List ℕ) (first middle last : HostState) (before after : Reported) (old new : Contents) (said : FileOutcome)
    → IsReadAs old_name first old middle → IsReadAs new_name middle new last → said ≡ rule old_name old new_name new → IsReported said before after
    → AreCompared rule old_name new_name (run_state first before) (run_state last after)
compared rule old_name new_name first middle last before after old new said old_read new_read same reported = record {
  old = old;
  new = new;
  read = record { middle = middle; old_read = old_read; new_read = new_read };
  reported = subst (λ (a : FileOutcome). IsReported a before after) same reported;
}
