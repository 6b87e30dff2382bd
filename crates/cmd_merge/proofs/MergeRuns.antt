-- What a merge leaves, by what its steps leave.
use Rattle.std.proofs.Common.{◌≡◌, ◌<◌, ◌≤◌, ◌+◌, ℕ, List, ◌∷◌, Result, Err, length, map, drop, drop-cons, refl, sym, ap, ◌∙◌, subst, suc, arith}
use Rattle.std.specs.Prelude.{slice_index_or, IfErr, String, string_bytes}
use Rattle.std.proofs.lemmas.List.{drop_all}
use Rattle.host_storage.specs.Files.{HostState}
use Rattle.program_arguments.specs.declared.jobs.DiffForm.{DiffForm}
use Rattle.cmd_merge.specs.Reports.{ReadingsView, with_read_file}
use Rattle.cmd_merge.specs.Merges.{ReadsFiles}
use Rattle.program_console.specs.declared.stream_fault.StreamFault.TheVariants.{Memory}
use Rattle.program_console.specs.declared.stream_fault.StreamFault.{StreamFault}
use Rattle.program_surveys.specs.FileContents.{Contents, IsReadAs}

-- of the files from a place on, one was read, and then the others
pub files_left : {Z : Type 0} (form : DiffForm) (names : List (String Z)) (place : ℕ) (name : String Z) (contents : Contents) (old middle new : HostState) (begun between read : ReadingsView)
    → place < length names → name ≡ slice_index_or names place name → IsReadAs (string_bytes name) old contents middle → between ≡ with_read_file form (string_bytes name) contents begun
    → ReadsFiles form (map string_bytes (drop (place + 1) names)) middle between new read → ReadsFiles form (map string_bytes (drop place names)) old begun new read
unfolding ReadsFiles
files_left form names place name contents old middle new begun between read less is one added rest =
    let e : place + 1 ≡ suc place = omega arith in
    let split : drop place names ≡ name ∷ drop (suc place) names = drop-cons names place name less ∙ ap (λ n. n ∷ drop (suc place) names) (sym is) in
    subst (λ (xs : List _). ReadsFiles form (map string_bytes xs) old begun new read) (sym split) (
      contents,
      middle,
      one,
      subst (λ (r : ReadingsView). ReadsFiles form (map string_bytes (drop (suc place) names)) middle r new read) added
          (subst (λ (k : ℕ). ReadsFiles form (map string_bytes (drop k names)) middle between new read) e rest),
    )

pub no_files_left : {Z : Type 0} (form : DiffForm) (names : List (String Z)) (place : ℕ) (host : HostState) (readings : ReadingsView)
    → length names ≤ place → ReadsFiles form (map string_bytes (drop place names)) host readings host readings
unfolding ReadsFiles
no_files_left form names place host readings past =
    subst (λ (xs : List _). ReadsFiles form (map string_bytes xs) host readings host readings) (sym (drop_all place names past)) (refl, refl)

-- memory ran out
pub wants_memory : {A : Type 0} (P : Type 0) (result : Result A StreamFault) → result ≡ Err Memory → P → IfErr result (λ fault. (fault ≡ Memory) × P)
wants_memory P result is holds = subst (λ (r : Result _ StreamFault). IfErr r (λ fault. (fault ≡ Memory) × P)) (sym is) (refl, holds)
