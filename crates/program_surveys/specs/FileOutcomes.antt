-- The result of a file, and what a task may do with it.
use Rattle.std.specs.Prelude.{◌≡◌, ℕ, List, [], Option}
use Rattle.host_storage.specs.Files.{HostState}
use Rattle.program_surveys.specs.declared.report.Verdict.{Verdict}
use Rattle.program_surveys.specs.declared.report.Verdict.TheVariants.{Clean, Amiss, Failed}

-- the result of one file: what goes to the standard output, what goes to the standard error, and
-- the verdict
pub record FileOutcome : Type 0 where
  pub printed : List ℕ
  pub complaint : List ℕ
  pub verdict : Verdict

abbrev pub file_outcome : List ℕ → List ℕ → Verdict → FileOutcome
file_outcome printed complaint verdict = record { printed = printed; complaint = complaint; verdict = verdict }

-- the result of a file with this name and these bytes (None if it cannot be read)
abbrev pub Rule : Type 0
Rule = List ℕ → Option (List ℕ) → FileOutcome

-- the effects of a task on a file with this name and these bytes (None if it cannot be read): which
-- results it may have with which state of the host before and after, and which states if memory
-- runs out
pub record Effects : Type 1 where
  pub does : List ℕ → Option (List ℕ) → HostState → FileOutcome → HostState → Type 0
  pub halts : List ℕ → Option (List ℕ) → HostState → HostState → Type 0

-- a task that follows a rule leaves the host as it was
abbrev pub by_rule : Rule → Effects
by_rule rule = record {
  does = λ name bytes old outcome new. (outcome ≡ rule name bytes) × (new ≡ old);
  halts = λ name bytes old new. new ≡ old;
}

-- a file with a clean verdict puts nothing on the standard error
abbrev pub KeepsQuiet : Effects → Type 0
KeepsQuiet effects = (name : List ℕ) (bytes : Option (List ℕ)) (old : HostState) (outcome : FileOutcome) (new : HostState)
    → effects.does name bytes old outcome new → outcome.verdict ≡ Clean → outcome.complaint ≡ []

-- the worse of two verdicts
abbrev pub worse_verdict : Verdict → Verdict → Verdict
worse_verdict Failed verdict = Failed
worse_verdict Amiss Failed = Failed
worse_verdict Amiss Amiss = Amiss
worse_verdict Amiss Clean = Amiss
worse_verdict Clean verdict = verdict

-- the exit status of a verdict
abbrev pub status_of : Verdict → ℕ
status_of Clean = 0
status_of Amiss = 1
status_of Failed = 2
