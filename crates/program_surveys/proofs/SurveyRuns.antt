-- What a survey leaves, by what its run leaves.
use Rattle.std.proofs.Common.{◌≡◌, ℕ, List, map, true, false, Bool, Option, Result, Ok, Err, refl, sym, subst, Bor, String, Global, string_bytes}
use Rattle.std.proofs.lemmas.Simd.{map-map}
use Rattle.std.specs.Prelude.{MatchBool}
use Rattle.host_storage.specs.Output.{Account}
use Rattle.program_surveys.specs.Names.{Request, File}
use Rattle.program_surveys.specs.FileOutcomes.{Effects}
use Rattle.host_storage.specs.Files.{HostState}
use Rattle.program_surveys.specs.Runs.{Begins, Runs, RunState, run_state, reported_of}
use Rattle.program_surveys.specs.Lists.{RunsStream}
use Rattle.program_console.specs.declared.stream_fault.StreamFault.{StreamFault}
use Rattle.program_console.specs.declared.stream_fault.StreamFault.TheVariants as stops
use Rattle.program_surveys.specs.declared.report.Verdict.{Verdict}
use Rattle.program_surveys.specs.declared.report.Verdict.TheVariants.{Clean}
use Rattle.program_surveys.specs.JobEnds.{EndedSurvey, first_state}
use Rattle.program_console.specs.Outside.{Outside}
use Rattle.program_console.specs.Faults.{Reports}
use Rattle.program_console.specs.declared.program_fault.ProgramFault.TheVariants.{Memory}
use Rattle.program_surveys.specs.SurveyFiles.{SurveyFiles, files_in}
use Rattle.program_surveys.specs.Surveys.{RunsListFile, RunsOver, Surveys, is_input}
use Rattle.program_surveys.specs.declared.file_names.FileNames.{FileNames}
use Rattle.program_surveys.specs.declared.file_names.FileNames.TheVariants.{Given, Listed}

-- one of the two cases that a test decides
pub first_case : (test : Bool) (P Q : Type 0) → test ≡ true → P → MatchBool test P Q
first_case true P Q is p = p
first_case false P Q is p = cc

pub second_case : (test : Bool) (P Q : Type 0) → test ≡ false → Q → MatchBool test P Q
second_case true P Q is q = cc
second_case false P Q is q = q

-- a run over given names
pub over_given : (effects : Effects) (names : FileNames) (given : Bor (List (String Global))) (reader : Option (List ℕ)) (has_failed : Bool) (a b : RunState) (ended : Result (Unit {0}) StreamFault)
    → names ≡ Given given → Runs effects (map (λ name. File (string_bytes name)) given.now) a b ended → RunsOver effects (files_in names) reader reader has_failed a b ended
over_given effects names given reader has_failed a b ended is ran =
    let whole : RunsOver effects (files_in (Given given)) reader reader has_failed a b ended =
    (refl, subst (λ (l : List Request). Runs effects l a b ended) (sym (map-map File string_bytes given.now)) ran) in
    subst (λ (n : FileNames). RunsOver effects (files_in n) reader reader has_failed a b ended) (sym is) whole

-- a run over the names of the input
pub over_input : (effects : Effects) (names : FileNames) (list : Bor (List ℕ)) (separator byte : ℕ) (reader left : Option (List ℕ)) (has_failed : Bool) (a b : RunState) (ended : Result (Unit {0}) StreamFault)
    → names ≡ Listed list separator → is_input list.now ≡ true → byte ≡ separator → RunsStream effects byte reader left has_failed a b ended
    → RunsOver effects (files_in names) reader left has_failed a b ended
over_input effects names list separator byte reader left has_failed a b ended is input bytes ran =
    let whole : RunsOver effects (files_in (Listed list separator)) reader left has_failed a b ended =
    first_case (is_input list.now) _ _ input (subst (λ (s : ℕ). RunsStream effects s reader left has_failed a b ended) bytes ran) in
    subst (λ (n : FileNames). RunsOver effects (files_in n) reader left has_failed a b ended) (sym is) whole

-- a run over the names of a list of the host
pub over_file : (effects : Effects) (names : FileNames) (list : Bor (List ℕ)) (separator byte : ℕ) (reader : Option (List ℕ)) (has_failed : Bool) (a b : RunState) (ended : Result (Unit {0}) StreamFault)
    → names ≡ Listed list separator → is_input list.now ≡ false → byte ≡ separator → RunsListFile effects byte list.now a b ended
    → RunsOver effects (files_in names) reader reader has_failed a b ended
over_file effects names list separator byte reader has_failed a b ended is file bytes ran =
    let whole : RunsOver effects (files_in (Listed list separator)) reader reader has_failed a b ended =
    second_case (is_input list.now) _ _ file (refl, subst (λ (s : ℕ). RunsListFile effects s list.now a b ended) bytes ran) in
    subst (λ (n : FileNames). RunsOver effects (files_in n) reader reader has_failed a b ended) (sym is) whole

-- a survey that was begun goes on as its run
pub surveyed : (effects same : Effects) (heading : List ℕ) (files : SurveyFiles) (reader left : Option (List ℕ)) (has_failed : Bool) (host : HostState) (before after error unchanged : Account) (worst : Verdict) (last : RunState)
    (done : Unit {0}) (ended : Result (Unit {0}) StreamFault)
    → Begins {A = Unit {0}} heading before after (Ok done) → worst ≡ Clean → same ≡ effects → unchanged ≡ error → RunsOver same files reader left has_failed (run_state host (reported_of after unchanged worst)) last ended
    → Surveys effects heading files reader left has_failed (run_state host (reported_of before error Clean)) last ended
surveyed effects same heading files reader left has_failed host before after error unchanged worst last done ended begins clean is_same silent ran = record {
  begun = Ok done;
  output = after;
  begins = begins;
  goes_on = subst (λ (r : Effects). RunsOver r files reader left has_failed (run_state host (reported_of after error Clean)) last ended) is_same
      (subst (λ (a : Account). RunsOver same files reader left has_failed (run_state host (reported_of after a Clean)) last ended) silent
      (subst (λ (w : Verdict). RunsOver same files reader left has_failed (run_state host (reported_of after unchanged w)) last ended) clean ran));
}

-- if memory runs out before a survey begins, it has ended with nothing printed
pub not_begun : (effects : Effects) (heading : List ℕ) (files : SurveyFiles) (old new : Outside) (status : ℕ)
    → new.reader ≡ old.reader → new.output ≡ old.output → new.host ≡ old.host → Reports Memory old.error new.error status → EndedSurvey effects heading files old new status
not_begun effects heading files old new status reader output host reports = record {
  ended = Err stops.Memory;
  last = first_state old;
  surveyed = record {
    begun = Err stops.Memory;
    output = old.output;
    begins = refl;
    goes_on = (reader, refl, refl);
  };
  host = host;
  output = output;
  reports = reports;
}

-- a survey of files has ended as one of the same files has
pub survey_of : (effects : Effects) (heading : List ℕ) (files shown : SurveyFiles) (old new : Outside) (status : ℕ)
    → shown ≡ files → EndedSurvey effects heading shown old new status → EndedSurvey effects heading files old new status
survey_of effects heading files shown old new status same ended = subst (λ (f : SurveyFiles). EndedSurvey effects heading f old new status) same ended
