-- A host's files after a folder gets a new path, entry by entry.
use Rattle.std.proofs.Common.{◌≡◌, ◌≢◌, ℕ, Bool, true, false, nat_eq, List, [], ◌∷◌, ◌++◌, map, length, drop, String, Vec, BTreeMap, string_bytes, if◌then◌else◌, refl, sym, ap, ◌∙◌, subst, Less, Option, Some, None, Bor}
use Rattle.std.specs.Ordering.{nat_cmp}
use Rattle.std.specs.BTreeMap.{IsOrdered, get_by_text}
use Rattle.std.specs.Map.{update}
use Rattle.std.specs.Map.Iter.{deref_pair}
use Rattle.std.specs.Str.{bytes_eq}
use Rattle.std.specs.String.{string_cmp}
use Rattle.std.specs.Cmp.Lexicographic.{slice_cmp, nat_list_cmp_total}
use Rattle.std.specs.FinMap.{empty, entries, entries-insert, insert, len-empty, len-entries}
use Rattle.std.specs.FinMap.Entries.{put, by_order}
use Rattle.std.specs.List.{fold, starts_with, AllByRecursion}
use Rattle.std.specs.List.Sorted.{IsStrictlySortedBy}
use Rattle.std.specs.Prelude.{MatchOption}
use Rattle.std.specs.Str.Pattern.{FindsTextPrefix, StripsPrefix}
use Rattle.std.proofs.lemmas.Bool.Decides.{Decides-eqb}
use Rattle.std.proofs.Math.Seq.{drop-append_seam}
use Rattle.std.proofs.lemmas.Slice.Eq.{starts_is}
use Rattle.std.proofs.lemmas.List.{map-append, nil_from_length}
use Rattle.std.proofs.lemmas.List.Sums.{fold-append}
use Rattle.host_storage.specs.Files.{Files}
use Rattle.host_storage.specs.Folders.{folder_name, moved_name, with_moved}
use Rattle.host_memory.specs.MemoryHost.{files_of_entries}
use Rattle.host_memory.proofs.FilesOfEntries.{set_file}

-- an entry of a map as a name and its bytes
abbrev pub as_file : {A B : Type 0} → String A × Vec ℕ B → List ℕ × List ℕ
as_file entry = (string_bytes entry.0, entry.1.items)

-- one more file, under the name that it has once a folder has another path
abbrev pub moved_in : List ℕ → List ℕ → Files → List ℕ × List ℕ → Files
moved_in from to all entry = insert all (moved_name (folder_name from) (folder_name to) entry.0) entry.1

-- what a strip of a text from a name says
abbrev pub StripsText : List ℕ → List ℕ → Option (Bor (List ℕ)) → Type 0
StripsText text name r = MatchOption r (FindsTextPrefix text name None) (λ rest. StripsPrefix (FindsTextPrefix text) name rest.now)

pub stripped : (text name : List ℕ) (r : Option (Bor (List ℕ))) → StripsText text name r → (rest : Bor (List ℕ)) → r ≡ Some rest → name ≡ text ++ rest.now
stripped text name r strips rest is =
    let known = subst (StripsText text name) is strips in
    known.1.1 ∙ ap (λ part. text ++ part) (sym known.2)

pub unstripped : (text name : List ℕ) (r : Option (Bor (List ℕ))) → StripsText text name r → r ≡ None → (rest : List ℕ) → name ≢ text ++ rest
unstripped text name r strips is = subst (StripsText text name) is strips

-- of a name that begins with the one text
pub moved_name-within : (from to name rest : List ℕ) → name ≡ from ++ rest → moved_name from to name ≡ to ++ rest
moved_name-within from to name rest is =
    ap (λ t. if t then to ++ drop (length from) name else name) ((starts_is Decides-eqb name from _ refl).1 rest is)
    ∙ ap (λ n. to ++ drop (length from) n) is ∙ ap (λ part. to ++ part) (drop-append_seam from rest)

-- of a name that doesn't, by what the test says
moved_name-tested : (from to name : List ℕ) (test : Bool) → starts_with nat_eq name from ≡ test → ((rest : List ℕ) → name ≢ from ++ rest) → moved_name from to name ≡ name
moved_name-tested from to name true is none = absurd (none _ ((starts_is Decides-eqb name from _ refl).0 is))
moved_name-tested from to name false is none = ap (λ t. if t then to ++ drop (length from) name else name) is

pub moved_name-beside : (from to name : List ℕ) → ((rest : List ℕ) → name ≢ from ++ rest) → moved_name from to name ≡ name
moved_name-beside from to name none = moved_name-tested from to name _ refl none

-- an entry whose key is below all others comes first
put-first : {A B : Type 0} (key : String A) (bytes : List ℕ) (more : List (String A × Vec ℕ B)) → AllByRecursion (λ other. string_cmp key other ≡ Less) (map (λ entry. entry.0) more) → put (slice_cmp nat_cmp) (string_bytes key) bytes (map as_file more) ≡ (string_bytes key, bytes) ∷ map as_file more
put-first key bytes [] below = refl
put-first key bytes (entry ∷ more) below =
    ap (λ order. by_order order ((string_bytes key, bytes) ∷ map as_file (entry ∷ more)) ((string_bytes entry.0, bytes) ∷ map as_file more) (as_file entry ∷ put (slice_cmp nat_cmp) (string_bytes key) bytes (map as_file more))) below.0

-- the files of entries whose keys rise are these entries
entries-files_of : {A B : Type 0} (all : List (String A × Vec ℕ B)) → IsStrictlySortedBy string_cmp (map (λ entry. entry.0) all) → entries (files_of_entries all) ≡ map as_file all
unfolding IsStrictlySortedBy
entries-files_of [] rises = nil_from_length (entries empty) (sym (len-entries empty) ∙ len-empty (slice_cmp nat_cmp) (List ℕ))
entries-files_of (entry ∷ more) rises =
    entries-insert nat_list_cmp_total (files_of_entries more) (string_bytes entry.0) entry.1.items
    ∙ ap (put (slice_cmp nat_cmp) (string_bytes entry.0) entry.1.items) (entries-files_of more rises.1)
    ∙ put-first entry.0 entry.1.items more rises.0

-- all entries have come
pub moved_all : {A B : Type 0} (m : BTreeMap (String A) (Vec ℕ B)) (from to : List ℕ) → IsOrdered string_cmp m → fold (moved_in from to) empty (map as_file m.entries) ≡ with_moved from to (files_of_entries m.entries)
moved_all m from to ordered = ap (fold (moved_in from to) empty) (sym (entries-files_of m.entries ordered))

-- one more entry has come
moved_one : (from to : List ℕ) (before : List (List ℕ × List ℕ)) (entry : List ℕ × List ℕ) (all : Files) → all ≡ fold (moved_in from to) empty before → moved_in from to all entry ≡ fold (moved_in from to) empty (before ++ entry ∷ [])
moved_one from to before entry all is = ap (λ files. moved_in from to files entry) is ∙ sym (fold-append (moved_in from to) empty before (entry ∷ []))

-- one text after another in a name that is moved
pub moved_name-same : (from to name from' to' name' : List ℕ) → from ≡ from' → to ≡ to' → name ≡ name' → moved_name from to name ≡ moved_name from' to' name'
moved_name-same from to name from' to' name' same_from same_to same_name =
    ap (λ text. moved_name text to name) same_from ∙ ap (λ text. moved_name from' text name) same_to ∙ ap (moved_name from' to') same_name

-- one more entry of a map has its new name
module _ {A B : Type 0} (from to : List ℕ) (old new : BTreeMap (String A) (Vec ℕ B)) (yielded : List (Bor (String A) × Bor (Vec ℕ B))) (item : Bor (String A) × Bor (Vec ℕ B)) where
  pub moved_step : (key : List ℕ) (value : Vec ℕ B) → ((other : List ℕ) → get_by_text new other ≡ update bytes_eq (get_by_text old) key (Some value) other) → key ≡ moved_name (folder_name from) (folder_name to) (string_bytes item.0.now) → value.items ≡ item.1.now.items
      → files_of_entries old.entries ≡ fold (moved_in from to) empty (map as_file (map deref_pair yielded))
      → files_of_entries new.entries ≡ fold (moved_in from to) empty (map as_file (map deref_pair (yielded ++ item ∷ [])))
  moved_step key value updates is_name is_bytes before =
      set_file old new key (moved_name (folder_name from) (folder_name to) (string_bytes item.0.now)) value item.1.now.items updates is_name is_bytes
      ∙ moved_one from to (map as_file (map deref_pair yielded)) (as_file (deref_pair item)) (files_of_entries old.entries) before
      ∙ sym (ap (fold (moved_in from to) empty) (ap (map as_file) (map-append deref_pair yielded (item ∷ [])) ∙ map-append as_file (map deref_pair yielded) (deref_pair item ∷ [])))
