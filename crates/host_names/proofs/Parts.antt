-- The parts of a path.
use Rattle.std.proofs.Common.{◌≡◌, ℕ, suc, ◌+◌, ◌-◌, ◌<◌, ◌≤◌, Bool, true, false, cond, List, [], ◌∷◌, ◌++◌, length, take, get_or, sym, ap, subst, ◌∙◌, append_assoc, arith}
use Rattle.std.specs.Prelude.{filter, ◌==◌}
use Rattle.std.specs.List.{slice_split, position_or_len, before_first, after_first}
use Rattle.std.specs.Str.{IsUtf8}
use Rattle.std.proofs.lemmas.Bool.{cond-true, cond-false, eqb-true}
use Rattle.std.proofs.lemmas.Str.{IsUtf8-drop, IsCharBoundary-after_ascii}
use Rattle.std.proofs.lemmas.List.Splits.{slice_split_none, slice_split_first, length-slice_split}
use Rattle.std.proofs.lemmas.List.Sums.{fails_before_first, passes_at_first}
use Rattle.host_names.specs.HostName.{slash}
use Rattle.host_names.specs.ImagePlace.{parts, is_folder, folders_of, last_part}

-- a byte parts
abbrev pub is_slash : ℕ → Bool
is_slash byte = byte == slash

-- there is a part
pub some_parts : (path : List ℕ) → 1 ≤ length (parts path)
unfolding parts
some_parts path = omega (arith, length-slice_split is_slash path)

-- the folders in parts of which the last one names a file
abbrev folders_in : List (List ℕ) → List (List ℕ)
folders_in all = filter is_folder (take (length all - 1) all)

abbrev last_in : List (List ℕ) → List ℕ
last_in all = get_or all (length all - 1) []

-- a part in front of others
folders_more : (part : List ℕ) (others : List (List ℕ)) → 1 ≤ length others
    → folders_in (part ∷ others) ≡ cond (is_folder part) (part ∷ folders_in others) (folders_in others)
folders_more part [] some = absurd (omega arith)
folders_more part (next ∷ others) some =
    let less : suc (suc (length others)) - 1 ≡ suc (suc (length others) - 1) = omega arith in
    ap (λ (n : ℕ). filter is_folder (take n (part ∷ next ∷ others))) less

last_more : (part : List ℕ) (others : List (List ℕ)) → 1 ≤ length others → last_in (part ∷ others) ≡ last_in others
last_more part [] some = absurd (omega arith)
last_more part (next ∷ others) some =
    let less : suc (suc (length others)) - 1 ≡ suc (suc (length others) - 1) = omega arith in
    ap (λ (n : ℕ). get_or (part ∷ next ∷ others) n []) less

-- a path goes on after its first part
parted : (path before after : List ℕ) → before ≡ before_first is_slash path → after ≡ after_first is_slash path → position_or_len is_slash path < length path
    → parts path ≡ before ∷ parts after
unfolding parts
parted path before after before_is after_is within =
    slice_split_first is_slash path 0 within
    ∙ ap (λ (b : List ℕ). b ∷ slice_split is_slash (after_first is_slash path)) (sym before_is)
    ∙ ap (λ (a : List ℕ). before ∷ slice_split is_slash a) (sym after_is)

pub folders-parted : (path before after : List ℕ) → before ≡ before_first is_slash path → after ≡ after_first is_slash path
    → position_or_len is_slash path < length path → folders_of path ≡ cond (is_folder before) (before ∷ folders_of after) (folders_of after)
unfolding folders_of
folders-parted path before after before_is after_is within =
    ap folders_in (parted path before after before_is after_is within) ∙ folders_more before (parts after) (some_parts after)

pub last-parted : (path before after : List ℕ) → before ≡ before_first is_slash path → after ≡ after_first is_slash path
    → position_or_len is_slash path < length path → last_part path ≡ last_part after
unfolding last_part
last-parted path before after before_is after_is within =
    ap last_in (parted path before after before_is after_is within) ∙ last_more before (parts after) (some_parts after)

-- a path without a `/` is one part
one_part : (path : List ℕ) → position_or_len is_slash path ≡ length path → parts path ≡ path ∷ []
unfolding parts
one_part path none = slice_split_none is_slash path (λ k d within. fails_before_first is_slash path k d (omega arith))

pub folders-one : (path : List ℕ) → position_or_len is_slash path ≡ length path → folders_of path ≡ []
unfolding folders_of
folders-one path none = ap folders_in (one_part path none)

pub last-one : (path : List ℕ) → position_or_len is_slash path ≡ length path → last_part path ≡ path
unfolding last_part
last-one path none = ap last_in (one_part path none)

-- ---- a walk along the parts

-- how a path is cut at its first `/`
abbrev pub IsCut : List ℕ → List ℕ → List ℕ → Type 0
IsCut path before after = (before ≡ before_first is_slash path) × (after ≡ after_first is_slash path) × (position_or_len is_slash path < length path)

-- what follows is text if the path is
pub text_after : (path before after : List ℕ) → IsCut path before after → IsUtf8 path → IsUtf8 after
text_after path before after cut text =
    let place = position_or_len is_slash path in
    let is : get_or path place 0 ≡ slash = eqb-true (get_or path place 0) slash (passes_at_first is_slash path 0 cut.2) in
    subst IsUtf8 (sym cut.1) (IsUtf8-drop path (place + 1) text (IsCharBoundary-after_ascii path place text cut.2 (omega arith)))

-- one part more that names a folder
pub folder_more : (found : List (List ℕ)) (path before after whole : List ℕ) → IsCut path before after → is_folder before ≡ true
    → found ++ folders_of path ≡ folders_of whole → (found ++ before ∷ []) ++ folders_of after ≡ folders_of whole
folder_more found path before after whole cut is so =
    append_assoc found (before ∷ []) (folders_of after)
    ∙ ap (λ (fs : List (List ℕ)). found ++ fs)
    (sym (folders-parted path before after cut.0 cut.1 cut.2 ∙ cond-true (is_folder before) (before ∷ folders_of after) (folders_of after) is))
    ∙ so

-- one that doesn't
pub no_folder_more : (found : List (List ℕ)) (path before after whole : List ℕ) → IsCut path before after → is_folder before ≡ false
    → found ++ folders_of path ≡ folders_of whole → found ++ folders_of after ≡ folders_of whole
no_folder_more found path before after whole cut is so =
    ap (λ (fs : List (List ℕ)). found ++ fs)
    (sym (folders-parted path before after cut.0 cut.1 cut.2 ∙ cond-false (is_folder before) (before ∷ folders_of after) (folders_of after) is))
    ∙ so
