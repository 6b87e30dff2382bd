-- The names of many files.
use Rattle.std.proofs.Common.{◌≡◌, ℕ, ◌+◌, ◌^◌, ◌<◌, Bool, false, List, [], ◌∷◌, ◌++◌, length, arith}
use Rattle.std.specs.List.{IsDistinct}
use Rattle.std.proofs.lemmas.List.{length_push}
use Rattle.std.proofs.lemmas.Map.Keys.{IsDistinct-push}
use Rattle.host_names.specs.declared.ending.Ending.{Ending}
use Rattle.host_names.specs.HostName.{is_same_name, stem, tail}
use Rattle.host_names.specs.TakenNames.{Named, is_taken, next_name, with_taken_names}
use Rattle.host_names.specs.Laws.{AreCounted}
use Rattle.host_names.proofs.SameNames.{same_laws}
use Rattle.host_names.proofs.Search.{first_is_free}

-- no name is given twice
pub name_is_free : (taken : List (List ℕ)) (text : List ℕ) (ending : Ending) (is_part : Bool) → AreCounted taken → is_taken taken (next_name taken text ending is_part) ≡ false
unfolding next_name
name_is_free taken text ending is_part counted = first_is_free taken (stem text) (tail ending is_part) counted

pub names_differ : (files : List Named) (taken : List (List ℕ)) → length taken + length files < 2 ^ 63 → IsDistinct is_same_name taken → IsDistinct is_same_name (with_taken_names taken files)
unfolding with_taken_names
names_differ [] taken few differ = differ
names_differ (file ∷ files) taken few differ =
    let name = next_name taken file.text file.ending file.is_part in
    names_differ files (taken ++ name ∷ []) (omega (arith, length_push taken name))
    (IsDistinct-push same_laws taken name differ (name_is_free taken file.text file.ending file.is_part (omega arith)))

pub none_differ : IsDistinct is_same_name []
unfolding IsDistinct
none_differ = tt
