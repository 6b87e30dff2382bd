-- The files of a map's entries: the content of a name, and the effect of an insertion on them.
use Rattle.std.proofs.Common.{◌≡◌, ℕ, Bool, true, false, true≢false, cond, List, [], ◌∷◌, ◌++◌, map, Some, None, Option, is_some, String, Vec, BTreeMap, string_bytes, refl, sym, ap, ◌∙◌}
use Rattle.std.specs.Prelude.{option_map}
use Rattle.std.specs.Ordering.{nat_cmp, eq_by_cmp}
use Rattle.std.specs.Cmp.Lexicographic.{slice_cmp, nat_list_cmp_total, nat_list_eq_equiv}
use Rattle.std.specs.BTreeMap.{get_by_text, is_at}
use Rattle.std.specs.FinMap.{contains_key, find, get, insert, get-insert, get-from_entries, same_map, nat_cmp-IsAntisymmetric, slice_cmp-IsAntisymmetric}
use Rattle.std.specs.Map.{lookup, update}
use Rattle.std.specs.Str.{bytes_eq}
use Rattle.std.proofs.lemmas.Map.Text.{is_eq-slice_cmp}
use Rattle.std.proofs.lemmas.Slice.Eq.{bytes_eq-Decides}
use Rattle.host_memory.specs.MemoryHost.{MemoryFiles, files_of_entries}

-- a name has the same bytes among the pairs as among the entries
find-entries : {A B : Type 0} (entries : List (String A × Vec ℕ B)) (name : List ℕ) → find (slice_cmp nat_cmp) name (map (λ entry. (string_bytes entry.0, entry.1.items)) entries) ≡ option_map (λ value. value.items) (lookup (is_at (λ key. slice_cmp nat_cmp name (string_bytes key))) entries)
find-entries [] name = refl
find-entries (entry ∷ entries) name =
    elim (eq_by_cmp (slice_cmp nat_cmp) name (string_bytes entry.0)) as (λ same. cond same (Some entry.1.items) (find (slice_cmp nat_cmp) name (map (λ entry. (string_bytes entry.0, entry.1.items)) entries)) ≡ option_map (λ value. value.items) (cond same (Some entry.1) (lookup (is_at (λ key. slice_cmp nat_cmp name (string_bytes key))) entries))) [
      | true ↦ refl
      | false ↦ find-entries entries name
    ]

-- a name has the bytes that the map has for its text
get-files_of : {A B : Type 0} (m : BTreeMap (String A) (Vec ℕ B)) (name : List ℕ) → get (files_of_entries m.entries) name ≡ option_map (λ value. value.items) (get_by_text m name)
get-files_of m name = get-from_entries nat_list_cmp_total _ name ∙ find-entries m.entries name

-- the two tests of a name against another, either way round, are one
same_name : (name other : List ℕ) → bytes_eq name other ≡ eq_by_cmp (slice_cmp nat_cmp) other name
same_name name other = nat_list_eq_equiv.symm name other ∙ sym (is_eq-slice_cmp other name)

-- a value under a name, read as bytes
read_updated : {B : Type 0} (same : Bool) (value : Vec ℕ B) (old : Option (Vec ℕ B)) → option_map (λ v. v.items) (cond same (Some value) old) ≡ cond same (Some value.items) (option_map (λ v. v.items) old)
read_updated true value old = refl
read_updated false value old = refl

-- a map that has a new value under one text has the old files with that one file set
files_of-update : {A B : Type 0} (old new : BTreeMap (String A) (Vec ℕ B)) (name : List ℕ) (value : Vec ℕ B) → ((other : List ℕ) → get_by_text new other ≡ update bytes_eq (get_by_text old) name (Some value) other) → files_of_entries new.entries ≡ insert (files_of_entries old.entries) name value.items
files_of-update old new name value updates =
    same_map nat_list_cmp_total (slice_cmp-IsAntisymmetric nat_cmp-IsAntisymmetric) _ _ (λ other.
    get-files_of new other
    ∙ ap (option_map (λ v. v.items)) (updates other)
    ∙ read_updated (bytes_eq name other) value (get_by_text old other)
    ∙ ap (λ rest. cond (bytes_eq name other) (Some value.items) rest) (sym (get-files_of old other))
    ∙ ap (λ same. cond same (Some value.items) (get (files_of_entries old.entries) other)) (same_name name other)
    ∙ sym (get-insert nat_list_cmp_total (files_of_entries old.entries) name value.items other))

-- what a look-up found among the entries is the content of the name
pub found_file : {A B : Type 0} (m : BTreeMap (String A) (Vec ℕ B)) (name : List ℕ) (found : Option (Vec ℕ B)) (host : MemoryFiles) → found ≡ get_by_text m name → files_of_entries m.entries ≡ host.files → option_map (λ value. value.items) found ≡ get host.files name
found_file m name found host is files = ap (option_map (λ value. value.items)) is ∙ sym (get-files_of m name) ∙ ap (λ all. get all name) files

-- the files after an insertion, if key and value have the name and the bytes
pub set_file : {A B : Type 0} (old new : BTreeMap (String A) (Vec ℕ B)) (key name : List ℕ) (value : Vec ℕ B) (bytes : List ℕ) → ((other : List ℕ) → get_by_text new other ≡ update bytes_eq (get_by_text old) key (Some value) other) → key ≡ name → value.items ≡ bytes → files_of_entries new.entries ≡ insert (files_of_entries old.entries) name bytes
set_file old new key name value bytes updates is_name is_bytes =
    files_of-update old new key value updates ∙ ap (λ k. insert (files_of_entries old.entries) k value.items) is_name ∙ ap (insert (files_of_entries old.entries) name) is_bytes

-- the test of a map's key against a name
abbrev pub is_named : {A : Type 0} → List ℕ → String A → Bool
is_named name key = is_at (λ other. slice_cmp nat_cmp name (string_bytes other)) key

-- a key that is the name, and one that isn't
named : {A : Type 0} (name : List ℕ) (key : String A) → string_bytes key ≡ name → is_named name key ≡ true
named name key is = is_eq-slice_cmp name (string_bytes key) ∙ (bytes_eq-Decides name (string_bytes key)).1 (sym is)

not_true : (test : Bool) → (test ≡ true → ⊥) → test ≡ false
not_true true refuted = absurd (refuted refl)
not_true false refuted = refl

pub unnamed : {A : Type 0} (name : List ℕ) (key : String A) (returned : Bool) → returned ≡ false → (string_bytes key ≡ name → returned ≡ true) → is_named name key ≡ false
unnamed name key returned is_false known =
    not_true (is_named name key) (λ is. true≢false (sym (known (sym ((bytes_eq-Decides name (string_bytes key)).0 (sym (is_eq-slice_cmp name (string_bytes key)) ∙ is)))) ∙ is_false))

-- an entry among others is found, or one before it
found_among : {A X : Type 0} (test : A → Bool) (before after : List (A × X)) (entry : A × X) → test entry.0 ≡ true → is_some (lookup test (before ++ entry ∷ after)) ≡ true
found_among test [] after entry is = ap (λ t. is_some (cond t (Some entry.1) (lookup test after))) is
found_among test (other ∷ before) after entry is =
    elim (test other.0) as (λ t. is_some (cond t (Some other.1) (lookup test (before ++ entry ∷ after))) ≡ true) [
      | true ↦ refl
      | false ↦ found_among test before after entry is
    ]

-- after entries that aren't found, one that isn't
pub lookup-push : {A X : Type 0} (test : A → Bool) (before : List (A × X)) (entry : A × X) → lookup test before ≡ None → test entry.0 ≡ false → lookup test (before ++ entry ∷ []) ≡ None
lookup-push test [] entry none isnt = ap (λ t. cond t (Some entry.1) None) isnt
lookup-push test (other ∷ before) entry none isnt =
    (elim (test other.0) as (λ t. cond t (Some other.1) (lookup test before) ≡ None → cond t (Some other.1) (lookup test (before ++ entry ∷ [])) ≡ None) [
      | true ↦ λ found. found
      | false ↦ λ rest. lookup-push test before entry rest isnt
    ]) none

-- whether there is a value stays as it is, whatever it is read as
is_some-map : {A B : Type 0} (f : A → B) (value : Option A) → is_some (option_map f value) ≡ is_some value
is_some-map f None = refl
is_some-map f (Some value) = refl

-- there is a file of a name exactly if it is found among the entries
contains-files_of : {A B : Type 0} (m : BTreeMap (String A) (Vec ℕ B)) (name : List ℕ) → contains_key (files_of_entries m.entries) name ≡ is_some (lookup (is_named name) m.entries)
contains-files_of m name = ap is_some (get-files_of m name) ∙ is_some-map (λ value. value.items) (get_by_text m name)

pub has_file : {A B : Type 0} (m : BTreeMap (String A) (Vec ℕ B)) (name : List ℕ) (host : MemoryFiles) (before after : List (String A × Vec ℕ B)) (entry : String A × Vec ℕ B)
    → m.entries ≡ before ++ entry ∷ after → files_of_entries m.entries ≡ host.files → string_bytes entry.0 ≡ name → true ≡ contains_key host.files name
has_file m name host before after entry all files is =
    sym (ap (λ all. is_some (lookup (is_named name) all)) all ∙ found_among (is_named name) before after entry (named name entry.0 is))
    ∙ sym (contains-files_of m name) ∙ ap (λ all. contains_key all name) files

pub lacks_file : {A B : Type 0} (m : BTreeMap (String A) (Vec ℕ B)) (name : List ℕ) (host : MemoryFiles) → lookup (is_named name) m.entries ≡ None → files_of_entries m.entries ≡ host.files → false ≡ contains_key host.files name
lacks_file m name host none files = sym (ap is_some none) ∙ sym (contains-files_of m name) ∙ ap (λ all. contains_key all name) files
