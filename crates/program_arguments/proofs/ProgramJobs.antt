-- Whether the arguments ask for a program on the output.
use Rattle.std.proofs.Common.{◌≡◌, ◌∙◌, ◌↔◌, ◌∷◌, ℕ, List, [], Option, Some, None, IsSomeAnd, is_some, Bool, true, false, IfErr, IfOk, IfSome, IsTrue, Result, Ok, Err, codes, ap, refl, sym, subst, inl, inr, true≢false}
use Rattle.std.specs.Str.{bytes_eq}
use Rattle.std.proofs.lemmas.Slice.Eq.{bytes_eq-Decides}
use Rattle.clap.specs.Words.{Text, IsAmong, first_of, kind_of, subcommand_of}
use Rattle.program_arguments.specs.Commands.{d64sh}
use Rattle.program_arguments.specs.Requested.{IsFault, IsFaultOf, IsJob, IsJobOf, IsOneOf, IsUse, Met, TakesNames, surveys}
use Rattle.program_arguments.specs.Start.{HasNoAddress, IsStartBy}
use Rattle.program_arguments.specs.declared.jobs.Job.{Job}
use Rattle.program_arguments.specs.declared.jobs.Job.TheVariants.{Shell, Petcat, Crunch, Check, Files, Extract, Map, Diff, Merge, Catalogue}
use Rattle.program_arguments.specs.declared.jobs.JobFault.{JobFault}
use Rattle.program_arguments.specs.declared.jobs.JobFault.TheVariants.{Arguments, Start, Memory, Tracks, Both, Format, Names, Null, Picture, Difference, Folder, Title, Links, Output, Dumps}
use Rattle.program_arguments.specs.ProgramJobs.{AsksForProgram, IsForProgram, IsReadAsForProgram}

-- `crunch` with a start that is an address, and without a file for the output
abbrev IsCrunch : Met → Type 0
IsCrunch met = (met.0 ≡ codes "crunch") × (first_of (codes "output") met.1 ≡ None) × (start : ℕ) × IsStartBy (first_of (codes "start") met.1) start

-- another subcommand is not `crunch`
other : {A : Type 0} (name another : Text) → bytes_eq another (codes "crunch") ≡ false → name ≡ another → name ≡ codes "crunch" → A
other name another differs is crunch = absurd (true≢false (sym ((bytes_eq-Decides another (codes "crunch")).1 (sym is ∙ crunch)) ∙ differs))

-- ---- one subcommand

crunch_of : (met : Met) (job : Job) → IsJobOf met job → IsForProgram job → IsCrunch met
crunch_of met (Shell image tracks resume lines stops) is writes = absurd writes
crunch_of met (Petcat file output) is writes = absurd writes
crunch_of met (Crunch start file None) is writes = (is.0, sym is.2, start, is.3)
crunch_of met (Crunch start file (Some name)) is writes = absurd writes
crunch_of met (Check digest format names) is writes = absurd writes
crunch_of met (Files leftovers format names) is writes = absurd writes
crunch_of met (Extract extraction leftovers format names) is writes = absurd writes
crunch_of met (Map format file) is writes = absurd writes
crunch_of met (Diff format old new) is writes = absurd writes
crunch_of met (Merge merging format files) is writes = absurd writes
crunch_of met (Catalogue page names) is writes = absurd writes

job_of : (met : Met) (job : Job) → IsJobOf met job → IsCrunch met → IsForProgram job
job_of met (Shell image tracks resume lines stops) is crunch = other met.0 (codes "shell") refl is.0 crunch.0
job_of met (Petcat file output) is crunch = other met.0 (codes "petcat") refl is.0 crunch.0
job_of met (Crunch start file None) is crunch = tt
job_of met (Crunch start file (Some name)) is crunch = absurd (true≢false (ap is_some (is.2 ∙ crunch.1)))
job_of met (Check digest format names) is crunch = other met.0 (codes "check") refl is.0 crunch.0
job_of met (Files leftovers format names) is crunch = other met.0 (codes "files") refl is.0 crunch.0
job_of met (Extract extraction leftovers format names) is crunch = other met.0 (codes "extract") refl is.0 crunch.0
job_of met (Map format file) is crunch = other met.0 (codes "map") refl is.0 crunch.0
job_of met (Diff format old new) is crunch = other met.0 (codes "diff") refl is.0 crunch.0
job_of met (Merge merging format files) is crunch = other met.0 (codes "merge") refl is.0 crunch.0
job_of met (Catalogue page names) is crunch = other met.0 (codes "catalogue") refl is.0 crunch.0

no_survey : (name : Text) → IsOneOf surveys name → name ≡ codes "crunch" → ⊥
no_survey name (inl is) crunch = other name (codes "check") refl is crunch
no_survey name (inr (inl is)) crunch = other name (codes "files") refl is crunch
no_survey name (inr (inr (inl is))) crunch = other name (codes "extract") refl is crunch
no_survey name (inr (inr (inr is))) crunch = is

no_names : (met : Met) → TakesNames met → met.0 ≡ codes "crunch" → ⊥
no_names met (inl survey) crunch = no_survey met.0 survey.0 crunch
no_names met (inr catalogue) crunch = other met.0 (codes "catalogue") refl catalogue.0 crunch

no_start : (given : Option Text) (start : ℕ) → HasNoAddress given → IsStartBy given start → ⊥
no_start None start none by = none
no_start (Some hex) start none by = none by.0

no_change : (name : Text) → IsOneOf (codes "diff" ∷ codes "merge" ∷ []) name → name ≡ codes "crunch" → ⊥
no_change name (inl is) crunch = other name (codes "diff") refl is crunch
no_change name (inr (inl is)) crunch = other name (codes "merge") refl is crunch
no_change name (inr (inr is)) crunch = is

no_fault : (met : Met) (fault : JobFault) (asks : Bool) → IsReadAsForProgram (Err fault) (Some asks) → IsFaultOf met fault → IsCrunch met → ⊥
no_fault met (Arguments error) asks read is crunch = is
no_fault met Start asks read is (crunch, none, start, by) = no_start _ start is.1 by
no_fault met Memory asks read is crunch = true≢false read
no_fault met Tracks asks read is crunch = other met.0 (codes "shell") refl is.0 crunch.0
no_fault met Both asks read is crunch = other met.0 (codes "shell") refl is.0 crunch.0
no_fault met Format asks read is crunch = no_survey met.0 is.0 crunch.0
no_fault met Names asks read is crunch = no_names met is.0 crunch.0
no_fault met Null asks read is crunch = no_names met is.0 crunch.0
no_fault met Picture asks read is crunch = other met.0 (codes "map") refl is.0 crunch.0
no_fault met Difference asks read is crunch = no_change met.0 is.0 crunch.0
no_fault met Folder asks read is crunch = other met.0 (codes "extract") refl is.0.0 crunch.0
no_fault met Title asks read is crunch = other met.0 (codes "catalogue") refl is.0 crunch.0
no_fault met Links asks read is crunch = other met.0 (codes "catalogue") refl is.0 crunch.0
no_fault met Output asks read is crunch = other met.0 (codes "merge") refl is.0 crunch.0
no_fault met Dumps asks read is crunch = other met.0 (codes "merge") refl is.0 crunch.0

-- ---- all arguments

-- what holds of one subcommand by two things that hold of it
by_both : {P Q : Met → Type 0} {R : Type 0} (met : Option Met) → IsSomeAnd met P → IsSomeAnd met Q → ((some : Met) → P some → Q some → R) → R
by_both None first second by = absurd first
by_both (Some met) first second by = by met first second

no_use : (arguments : List Text) (fault : JobFault) (asks : Bool) → IsReadAsForProgram (Err fault) (Some asks) → IsUse arguments (λ met. IsFaultOf met fault)
    → ¬ AsksForProgram arguments
no_use arguments fault asks read used (job, other_used, writes) =
    by_both (subcommand_of d64sh arguments) used.1 other_used.1 (λ met this that. no_fault met fault asks read this (crunch_of met job that writes))

-- no program is asked for, and so it is said
never : {A : Type 0} (asks : Bool) → asks ≡ false → ¬ A → IsTrue asks ↔ A
never false is none = (λ asked. absurd (true≢false (sym asked)), λ a. absurd (none a))
never true is none = absurd (true≢false is)

-- what the arguments were read as decides whether a program is asked for
decides : (arguments : List Text) (read : Result Job JobFault) (asks : Bool) → IfOk read (IsJob arguments) → IfErr read (IsFault arguments)
    → IsReadAsForProgram read (Some asks) → IsTrue asks ↔ AsksForProgram arguments
decides arguments (Ok job) asks used fault by = (
  λ asked. (job, used, by.0 asked),
  λ (other_job, other_used, writes).
      by.1 (by_both (subcommand_of d64sh arguments) used.1 other_used.1 (λ met this that. job_of met job this (crunch_of met other_job that writes))),
)
decides arguments (Err (Arguments error)) asks job fault by =
    never asks by (λ (other_job, used, writes). subst (λ kinds. IsAmong (kind_of error) kinds) used.0 fault.0)
decides arguments (Err Memory) asks job fault by = absurd (true≢false by)
decides arguments (Err Start) asks job fault by = never asks by (no_use arguments Start asks by fault)
decides arguments (Err Tracks) asks job fault by = never asks by (no_use arguments Tracks asks by fault)
decides arguments (Err Both) asks job fault by = never asks by (no_use arguments Both asks by fault)
decides arguments (Err Format) asks job fault by = never asks by (no_use arguments Format asks by fault)
decides arguments (Err Names) asks job fault by = never asks by (no_use arguments Names asks by fault)
decides arguments (Err Null) asks job fault by = never asks by (no_use arguments Null asks by fault)
decides arguments (Err Picture) asks job fault by = never asks by (no_use arguments Picture asks by fault)
decides arguments (Err Difference) asks job fault by = never asks by (no_use arguments Difference asks by fault)
decides arguments (Err Folder) asks job fault by = never asks by (no_use arguments Folder asks by fault)
decides arguments (Err Title) asks job fault by = never asks by (no_use arguments Title asks by fault)
decides arguments (Err Links) asks job fault by = never asks by (no_use arguments Links asks by fault)
decides arguments (Err Output) asks job fault by = never asks by (no_use arguments Output asks by fault)
decides arguments (Err Dumps) asks job fault by = never asks by (no_use arguments Dumps asks by fault)

pub is_asked : (arguments : List Text) (read : Result Job JobFault) (asks : Option Bool) → IfOk read (IsJob arguments) → IfErr read (IsFault arguments)
    → IsReadAsForProgram read asks → IfSome asks (λ asks. IsTrue asks ↔ AsksForProgram arguments)
is_asked arguments read None job fault by = tt
is_asked arguments read (Some asks) job fault by = decides arguments read asks job fault by
