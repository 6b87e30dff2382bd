-- What is kept of the names that are taken.
use Rattle.std.proofs.Common.{◌≡◌, ℕ, ◌+◌, ◌<◌, ◌≤◌, Bool, true, false, Option, Some, None, List, [], ◌∷◌, ◌++◌, length, take, drop, get_or, set, All, refl, sym, ap, subst, ◌∙◌, inl, inr, arith}
use Rattle.std.specs.Prelude.{map, MatchOption, IfSome}
use Rattle.std.specs.Option.{is_some}
use Rattle.std.specs.Char.{to_ascii_lowercase}
use Rattle.std.specs.List.{HoldsAt}
use Rattle.std.specs.Str.{str_to_ascii_lowercase}
use Rattle.std.proofs.lemmas.Bool.{cases_eq}
use Rattle.std.proofs.lemmas.List.{length-map, map-set, map_push, get_or-map, set-get_or, take-map, drop-map, take-append-drop}
use Rattle.std.proofs.lemmas.List.Elements.{All-nil, All-push, All-set, All-weaker, All-map}
use Rattle.std.proofs.lemmas.List.Folds.{list_any_none, list_any_at}
use Rattle.host_names.specs.declared.ending.Ending.{Ending}
use Rattle.host_names.specs.declared.taken_names.Taken.{Taken}
use Rattle.host_names.specs.Digest.{name_digest}
use Rattle.host_names.specs.HostName.{is_same_name, numbered_name, tail}
use Rattle.host_names.specs.TakenNames.{is_taken, first_free}
use Rattle.host_names.specs.Records.{names_of, HasEndingAt, AreTried, IsRecord, AreNameRecords}
use Rattle.host_names.proofs.SameNames.{same_laws, lower_from_same, taken_alike, taken_still, last_taken}
use Rattle.host_names.proofs.Numbers.{same_parts, first_mark}
use Rattle.host_names.proofs.Search.{before_first_free}
use Rattle.host_names.proofs.Tails.{same_ends}

-- no name is kept
pub names-nil : names_of [] ≡ []
unfolding names_of
names-nil = refl

pub records-nil : AreNameRecords []
unfolding AreNameRecords
records-nil = All-nil (IsRecord (names_of []))

-- as many names as records
pub length-names : (records : List Taken) → length (names_of records) ≡ length records
unfolding names_of
length-names records = length-map records (λ taken. taken.name.items)

-- one record of them
pub record_at : (records : List Taken) → AreNameRecords records → (place : ℕ) (d : Taken) → place < length records → IsRecord (names_of records) (get_or records place d)
unfolding AreNameRecords
record_at records all place d within = all place d within

-- no record is of the name: it isn't taken
pub none_of_records : (records : List Taken) (name : List ℕ)
    → ((k : ℕ) → k < length records → HoldsAt (λ taken. is_same_name taken.name.items name ≡ false) records k) → is_taken (names_of records) name ≡ false
unfolding names_of
none_of_records records name none =
    let Differs : List ℕ → Type 0 = λ other. is_same_name name other ≡ false in
    list_any_none (is_same_name name) (map (λ taken. taken.name.items) records)
    (All-map Differs (λ taken. taken.name.items) records (λ k d within. same_laws.symm name (get_or records k d).name.items ∙ none k within d))

-- ---- finding

-- a record is of a name that is the same: it is taken
same_at_taken : (records : List Taken) (name : List ℕ) (place : ℕ) → place < length records
    → HoldsAt (λ taken. is_same_name taken.name.items name ≡ true) records place → is_taken (names_of records) name ≡ true
unfolding names_of
same_at_taken [] name place within at = absurd (omega arith)
same_at_taken (first ∷ records) name place within at =
    let all = first ∷ records in
    list_any_at (is_same_name name) (map (λ taken. taken.name.items) all) place []
    (omega (arith, length-map all (λ (taken : Taken). taken.name.items)))
    (ap (is_same_name name) (get_or-map (λ (taken : Taken). taken.name.items) all place first [] within) ∙ same_laws.symm name (get_or all place first).name.items ∙ at first)

-- what was looked for is found exactly if it is taken
pub found_is_taken : (records : List Taken) (name : List ℕ) (found : Option ℕ) → IfSome found (λ place. place < length records)
    → MatchOption found (is_taken (names_of records) name ≡ false) (λ place. HoldsAt (λ taken. is_same_name taken.name.items name ≡ true) records place)
    → is_some found ≡ is_taken (names_of records) name
found_is_taken records name None within is = sym is
found_is_taken records name (Some place) within is = sym (same_at_taken records name place within is)

-- the search begins after names that are taken
abbrev pub BeginsAt : List Taken → List ℕ → ℕ → List ℕ → ℕ → Type 0
BeginsAt records name stem_len back first =
    (1 ≤ first) × ((number : ℕ) → 1 ≤ number → number < first → is_taken (names_of records) (numbered_name (take stem_len name) back number) ≡ true)

-- the names that are made of a record are those that are made of a name that is the same
pub made_alike : (names : List (List ℕ)) (taken : Taken) (name : List ℕ) (stem_len number : ℕ) (ending : Ending) (is_part : Bool)
    → is_same_name taken.name.items name ≡ true → taken.stem_len ≤ length taken.name.items → HasEndingAt taken.name.items taken.stem_len
    → stem_len ≤ length name → drop stem_len name ≡ tail ending is_part
    → is_same_name (numbered_name (take stem_len name) (tail ending is_part) number) (numbered_name (take taken.stem_len taken.name.items) (drop taken.stem_len taken.name.items) number) ≡ true
made_alike names taken name stem_len number ending is_part same within ends fits is =
    let kept = taken.name.items in
    let lower = lower_from_same kept name same in
    let places : taken.stem_len ≡ stem_len = same_ends kept name taken.stem_len stem_len lower within fits ends (ending, is_part, is) in
    same_parts (take stem_len name) (tail ending is_part) (take taken.stem_len kept) (drop taken.stem_len kept) number
    (sym (take-map to_ascii_lowercase stem_len name) ∙ ap (take stem_len) (sym lower) ∙ ap (λ (n : ℕ). take n (str_to_ascii_lowercase kept)) (sym places)
    ∙ take-map to_ascii_lowercase taken.stem_len kept)
    (ap str_to_ascii_lowercase (sym is) ∙ sym (drop-map to_ascii_lowercase stem_len name) ∙ ap (drop stem_len) (sym lower)
    ∙ ap (λ (n : ℕ). drop n (str_to_ascii_lowercase kept)) (sym places) ∙ drop-map to_ascii_lowercase taken.stem_len kept)

-- the record of a name that is the same gives the beginning of the search
begins_at_record : (records : List Taken) (name : List ℕ) (stem_len : ℕ) (ending : Ending) (is_part : Bool) (place first : ℕ)
    → AreNameRecords records → stem_len ≤ length name → drop stem_len name ≡ tail ending is_part → place < length records
    → HoldsAt (λ taken. is_same_name taken.name.items name ≡ true) records place → HoldsAt (λ taken. first ≡ taken.next) records place
    → BeginsAt records name stem_len (tail ending is_part) first
begins_at_record [] name stem_len ending is_part place first all fits is within same next = absurd (omega arith)
begins_at_record (one ∷ records) name stem_len ending is_part place first all fits is within same next =
    let taken = get_or (one ∷ records) place one in
    let names = names_of (one ∷ records) in
    let holds = record_at (one ∷ records) all place one within in
    let from : 1 ≤ first = subst (λ (n : ℕ). 1 ≤ n) (sym (next one)) holds.from in (
      from,
      λ number low below.
          taken_alike names (numbered_name (take stem_len name) (tail ending is_part) number) (numbered_name (take taken.stem_len taken.name.items) (drop taken.stem_len taken.name.items) number)
          (made_alike names taken name stem_len number ending is_part (same one) holds.within holds.ends fits is)
          ∙ holds.tried number low (subst (λ (n : ℕ). number < n) (next one) below),
    )

pub begins_at : (records : List Taken) (name : List ℕ) (stem_len : ℕ) (ending : Ending) (is_part : Bool) (found : Option ℕ) (first : ℕ)
    → AreNameRecords records → stem_len ≤ length name → drop stem_len name ≡ tail ending is_part → IfSome found (λ place. place < length records)
    → MatchOption found (is_taken (names_of records) name ≡ false) (λ place. HoldsAt (λ taken. is_same_name taken.name.items name ≡ true) records place)
    → MatchOption found (first ≡ 1) (λ place. HoldsAt (λ taken. first ≡ taken.next) records place)
    → BeginsAt records name stem_len (tail ending is_part) first
begins_at records name stem_len ending is_part None first all fits is within same next = (omega (arith, next), λ number low below. absurd (omega (arith, next)))
begins_at records name stem_len ending is_part (Some place) first all fits is within same next =
    begins_at_record records name stem_len ending is_part place first all fits is within same next

-- ---- changes

-- a record with another next number
abbrev pub with_next : Taken → ℕ → Taken
with_next taken next = record { name = taken.name; digest = taken.digest; stem_len = taken.stem_len; next = next }

pub passed_names : (records : List Taken) (place next : ℕ) (d : Taken) → place < length records
    → names_of (set records place (with_next (get_or records place d) next)) ≡ names_of records
unfolding names_of
passed_names records place next d within =
    let name_of = λ (taken : Taken). taken.name.items in
    map-set name_of records place (with_next (get_or records place d) next)
    ∙ ap (set (map name_of records) place) (sym (get_or-map name_of records place d d.name.items within))
    ∙ set-get_or (map name_of records) place d.name.items

pub passed_records : (records : List Taken) (place next : ℕ) (d : Taken) → place < length records → AreNameRecords records → 1 ≤ next
    → AreTried (names_of records) (get_or records place d) next → AreNameRecords (set records place (with_next (get_or records place d) next))
unfolding AreNameRecords
passed_records records place next d within all from tried =
    let old = all place d within in
    let after = set records place (with_next (get_or records place d) next) in
    subst (λ (names : List (List ℕ)). All (IsRecord names) after) (sym (passed_names records place next d within))
    (All-set (IsRecord (names_of records)) records place (with_next (get_or records place d) next)
    (record { digest = old.digest; within = old.within; ends = old.ends; from = from; tried = tried }) all)

-- one record more
pub kept_names : (records : List Taken) (taken : Taken) → names_of (records ++ taken ∷ []) ≡ names_of records ++ taken.name.items ∷ []
unfolding names_of
kept_names records taken = map_push (λ taken. taken.name.items) records taken

-- the name itself is the first that is made of it
whole_name : (name : List ℕ) (stem_len : ℕ) → numbered_name (take stem_len name) (drop stem_len name) 1 ≡ name
unfolding numbered_name
whole_name name stem_len = ap (λ (t : List ℕ). take stem_len name ++ (t ++ drop stem_len name)) first_mark ∙ take-append-drop stem_len name

-- a record stays right if one more name is taken
still_record : (names : List (List ℕ)) (more : List ℕ) (taken : Taken) → IsRecord names taken → IsRecord (names ++ more ∷ []) taken
still_record names more taken holds = record {
  digest = holds.digest;
  within = holds.within;
  ends = holds.ends;
  from = holds.from;
  tried = λ number low below. taken_still names more (numbered_name (take taken.stem_len taken.name.items) (drop taken.stem_len taken.name.items) number) (holds.tried number low below);
}

pub kept_records : (records : List Taken) (taken : Taken) → AreNameRecords records → taken.digest ≡ name_digest taken.name.items → taken.stem_len ≤ length taken.name.items
    → HasEndingAt taken.name.items taken.stem_len → taken.next ≡ 2 → AreNameRecords (records ++ taken ∷ [])
unfolding AreNameRecords
kept_records records taken all digest within ends next =
    let name = taken.name.items in
    let names = names_of records ++ name ∷ [] in
    let new : IsRecord names taken = record {
      digest = digest;
      within = within;
      ends = ends;
      from = omega (arith, next);
      tried = λ number low below.
          let one : number ≡ 1 = omega (arith, next) in
          last_taken (names_of records) name (numbered_name (take taken.stem_len name) (drop taken.stem_len name) number)
          (ap (λ (n : ℕ). is_same_name (numbered_name (take taken.stem_len name) (drop taken.stem_len name) n) name) one
          ∙ ap (λ (t : List ℕ). is_same_name t name) (whole_name name taken.stem_len) ∙ same_laws.refl name);
    } in
    subst (λ (all_names : List (List ℕ)). All (IsRecord all_names) (records ++ taken ∷ [])) (sym (kept_names records taken))
    (All-push (IsRecord names) records taken (All-weaker (IsRecord (names_of records)) (IsRecord names) (still_record (names_of records) name) records all) new)

-- once a name is kept that is the first free one, the names up to it that are made of a record are
-- taken
pub tried_all : (records : List Taken) (name new : List ℕ) (stem_len place : ℕ) (d : Taken) (ending : Ending) (is_part : Bool)
    → AreNameRecords records → stem_len ≤ length name → drop stem_len name ≡ tail ending is_part → place < length records
    → is_same_name (get_or records place d).name.items name ≡ true
    → new ≡ numbered_name (take stem_len name) (tail ending is_part) (first_free (names_of records) (take stem_len name) (tail ending is_part))
    → AreTried (names_of records ++ new ∷ []) (get_or records place d) (first_free (names_of records) (take stem_len name) (tail ending is_part) + 1)
tried_all records name new stem_len place d ending is_part all fits is within same new_is =
    let taken = get_or records place d in
    let holds = record_at records all place d within in
    let names = names_of records in
    let front = take stem_len name in
    let back = tail ending is_part in
    let last = first_free names front back in
    λ number low below.
    let one = numbered_name front back number in
    let other = numbered_name (take taken.stem_len taken.name.items) (drop taken.stem_len taken.name.items) number in
    let alike : is_same_name one other ≡ true = made_alike names taken name stem_len number ending is_part same holds.within holds.ends fits is in
    sym (taken_alike (names ++ new ∷ []) one other alike)
    ∙ elim (cases_eq number last) [
      | inl end ↦
          let new_one : one ≡ new = ap (numbered_name front back) end ∙ sym new_is in
          last_taken names new one (ap (λ (t : List ℕ). is_same_name t new) new_one ∙ same_laws.refl new)
      | inr before ↦ taken_still names new one (before_first_free names front back number low (omega arith))
    ]
