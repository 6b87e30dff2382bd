-- The tests of the conditions of a sound image, and the first that fails.
use Rattle.std.proofs.Common.{◌≡◌, ◌≢◌, ℕ, zero, suc, ◌+◌, ◌<◌, ◌≤◌, Bool, true, false, cond, not, eqb, List, [], ◌∷◌, ◌++◌, length, get_or, Option, Some, None, refl, sym, ap, ◌∙◌, subst, inl, inr, arith}
use Rattle.std.specs.Prelude.{All, find, nat_lt, nat_le, MatchOption, MatchResult, Result, Ok, Err}
use Rattle.std.specs.List.{list_any, list_all, range_with_len}
use Rattle.std.specs.Option.{option_or}
use Rattle.std.specs.FinSet as set
use Rattle.std.proofs.lemmas.Bool.{cases_Bool, eq-eqb, eqb-true, eqb-false, and_parts, and_from, or_parts, or_from}
use Rattle.std.proofs.lemmas.Bool.Decides.{nat_tests}
use Rattle.std.proofs.lemmas.List.Elements.{All-nil, All-cons, All-head, All-tail}
use Rattle.std.proofs.lemmas.List.Folds.{find-append}
use Rattle.std.proofs.lemmas.Option.{MatchOption-at_none, MatchOption-at_some}
use Rattle.d64_image.specs.Image.{tracks_of}
use Rattle.d64_map.specs.Map.{CountsFit, free_blocks, count_of}
use Rattle.d64_map.specs.Track.{members_on}
use Rattle.d64_files.specs.Directory.{directory, slots, owned_blocks, condition_number, Holds, AllHold, IsFirstFault}
use Rattle.d64_files.specs.FirstFault.{is_nil, fails, err_of, first_fault, reading_conditions, owning_conditions, sound_conditions}
use Rattle.d64_files.specs.FirstFaultLaws.{ReportsFirst}
use Rattle.d64_files.specs.Ownership.{chain_at, roots, HasItsChains}
use Rattle.d64_files.specs.Slot.{HasKind, has_kind, kind_number}
use Rattle.d64_files.specs.declared.dir_fault.DirFault.{DirFault}
use Rattle.d64_files.specs.declared.dir_fault.DirFault.TheVariants.{WrongCounts, NoDirectory, UnknownKind, NoChain, CrossLinked, MarkedFree}
use Rattle.d64_files.proofs.Conditions.{both_hold, no_directory, unknown_kind}
use Rattle.d64_files.proofs.Repeats.{no_repeats, distinct_blocks}
use Rattle.d64_files.proofs.Verdicts.{files_hold, missing_chain, crossed, dir_fault_first, wrong_counts, file_fault_first, all_hold, marked_free}

-- a list that isn't the empty one
pub not_nil : (blocks : List ℕ) → blocks ≢ [] → is_nil blocks ≡ false
not_nil [] h = absurd (h refl)
not_nil (block ∷ blocks) h = refl

-- a list that is
pub nil_is : (blocks : List ℕ) → ¬ (blocks ≢ []) → is_nil blocks ≡ true
nil_is [] h = refl
nil_is (block ∷ blocks) h = absurd (h (λ e. cc))

-- slots that have kinds pass the test
pub kinds_pass : (cells : List (List ℕ)) → All HasKind cells → list_all has_kind cells ≡ true
kinds_pass [] h = refl
kinds_pass (c ∷ cells) h =
    let small : kind_number c ≤ 4 = All-head HasKind c cells h in
    let one : nat_le (kind_number c) 4 ≡ true = grind (arith, nat_tests) in
    and_from (has_kind c) (list_all has_kind cells) one (kinds_pass cells (All-tail HasKind c cells h))

-- slots that pass the test have kinds
pub have_kinds : (cells : List (List ℕ)) → list_all has_kind cells ≡ true → All HasKind cells
have_kinds [] h = All-nil HasKind
have_kinds (c ∷ cells) h =
    let parts = and_parts (has_kind c) (list_all has_kind cells) h in
    let one : nat_le (kind_number c) 4 ≡ true = parts.0 in
    let small : kind_number c ≤ 4 = grind (arith, nat_tests) in
    All-cons HasKind c cells small (have_kinds cells parts.1)

-- what is denied is false
untrue : (b : Bool) → not b ≡ false → b ≡ true
untrue true e = refl
untrue false e = cc

-- if a test is false of each element, no element passes it
none_pass : {A : Type 0} (test : A → Bool) (P : A → Type 0) → ((x : A) → P x → test x ≡ false) → (xs : List A) → All P xs → list_any test xs ≡ false
none_pass test P each [] h = refl
none_pass test P each (x ∷ xs) h = or_from (test x) (list_any test xs) (each x (All-head P x xs h)) (none_pass test P each xs (All-tail P x xs h))

-- and if no element passes it, it is false of each
all_fail : {A : Type 0} (test : A → Bool) (P : A → Type 0) → ((x : A) → test x ≡ false → P x) → (xs : List A) → list_any test xs ≡ false → All P xs
all_fail test P each [] h = All-nil P
all_fail test P each (x ∷ xs) h =
    let parts = or_parts (test x) (list_any test xs) h in All-cons P x xs (each x parts.0) (all_fail test P each xs parts.1)

-- the count of a track fits
abbrev fits : List (List ℕ) → ℕ → Bool
fits image track = eqb (count_of image track) (members_on (free_blocks image) track)

-- counts that fit pass the test, on tracks in a row
counts_pass : (image : List (List ℕ)) → CountsFit image → (first n : ℕ) → 1 ≤ first → first + n ≤ tracks_of (length image) + 1 → list_all (fits image) (range_with_len first n) ≡ true
counts_pass image counts first zero from to = refl
counts_pass image counts first (suc n) from to =
    and_from (fits image first) (list_all (fits image) (range_with_len (first + 1) n))
    (eq-eqb (count_of image first) (members_on (free_blocks image) first) (counts.each first from (omega arith)))
    (counts_pass image counts (first + 1) n (omega arith) (omega arith))

-- counts that pass it fit
count_fits : (image : List (List ℕ)) (first n track : ℕ) → list_all (fits image) (range_with_len first n) ≡ true → first ≤ track → track < first + n
    → count_of image track ≡ members_on (free_blocks image) track
count_fits image first zero track h from to = absurd (omega arith)
count_fits image first (suc n) track h from to =
    let parts = and_parts (fits image first) (list_all (fits image) (range_with_len (first + 1) n)) h in
    elim (cases_Bool (eqb first track)) [
      | inl t ↦ subst (λ (k : ℕ). count_of image k ≡ members_on (free_blocks image) k) (eqb-true first track t)
          (eqb-true (count_of image first) (members_on (free_blocks image) first) parts.0)
      | inr f ↦ count_fits image (first + 1) n track parts.1 (let apart = λ (e : first ≡ track). eqb-false first track f e in omega arith) (omega arith)
    ]

-- a condition that isn't failed holds
pub met : (image : List (List ℕ)) (fault : DirFault) → fails image fault ≡ false → Holds image fault
unfolding fails
met image WrongCounts h = record { each = λ track from to. count_fits image 1 (tracks_of (length image)) track (untrue _ h) from (omega arith) }
met image NoDirectory h = λ e. let f : is_nil (directory image) ≡ true = ap is_nil e in cc
met image UnknownKind h = have_kinds (slots image) (untrue _ h)
met image NoChain h =
    all_fail (λ (cell : List ℕ). list_any (λ (root : ℕ × ℕ). is_nil (chain_at image root)) (roots cell)) (HasItsChains image)
    (λ cell none. all_fail (λ (root : ℕ × ℕ). is_nil (chain_at image root)) (λ (root : ℕ × ℕ). chain_at image root ≢ [])
    (λ root some e. let f : is_nil (chain_at image root) ≡ true = ap is_nil e in cc) (roots cell) none) (slots image) h
met image CrossLinked h = distinct_blocks (owned_blocks image) h
met image MarkedFree h = all_fail (set.contains (free_blocks image)) (λ (b : ℕ). set.contains (free_blocks image) b ≡ false) (λ b e. e) (owned_blocks image) h

-- a condition that holds isn't failed
pub not_failed : (image : List (List ℕ)) (fault : DirFault) → Holds image fault → fails image fault ≡ false
unfolding fails
not_failed image WrongCounts h = ap not (counts_pass image h 1 (tracks_of (length image)) (omega arith) (omega arith))
not_failed image NoDirectory h = not_nil (directory image) h
not_failed image UnknownKind h = ap not (kinds_pass (slots image) h)
not_failed image NoChain h =
    none_pass (λ (cell : List ℕ). list_any (λ (root : ℕ × ℕ). is_nil (chain_at image root)) (roots cell)) (HasItsChains image)
    (λ cell chains. none_pass (λ (root : ℕ × ℕ). is_nil (chain_at image root)) (λ (root : ℕ × ℕ). chain_at image root ≢ [])
    (λ root some. not_nil (chain_at image root) some) (roots cell) chains) (slots image) h
not_failed image CrossLinked h = no_repeats (owned_blocks image) h
not_failed image MarkedFree h = none_pass (set.contains (free_blocks image)) (λ (b : ℕ). set.contains (free_blocks image) b ≡ false) (λ b e. e) (owned_blocks image) h

-- a condition that is failed doesn't hold
broken : (image : List (List ℕ)) (fault : DirFault) → fails image fault ≡ true → ¬ (Holds image fault)
broken image fault t h = let f = not_failed image fault h in cc

-- the first that passes a test is the first element, or else is among the others
by_first : {A : Type 0} (P : Option A → Type 0) (test : A → Bool) (x : A) (xs : List A)
    → (test x ≡ true → P (Some x)) → (test x ≡ false → P (find test xs)) → P (find test (x ∷ xs))
by_first P test x xs passes fails_it =
    elim (cases_Bool (test x)) [
      | inl t ↦ subst P (sym (ap (λ (b : Bool). cond b (Some x) (find test xs)) t)) (passes t)
      | inr f ↦ subst P (sym (ap (λ (b : Bool). cond b (Some x) (find test xs)) f)) (fails_it f)
    ]

-- what the first fault among conditions with these numbers says
abbrev pub Verdict : List (List ℕ) → ℕ → ℕ → Option DirFault → Type 0
Verdict image first last fault = MatchOption fault (AllHold image first last) (IsFirstFault image first last)

-- a condition of the directory and its slots that fails
dir_fault : (image : List (List ℕ)) (fault : DirFault) → IsFirstFault image 2 3 fault → Verdict image 2 5 (Some fault)
dir_fault image fault f = dir_fault_first image fault f

-- the conditions of the owned blocks
pub owning_verdict : (image : List (List ℕ)) → Verdict image 2 5 (first_fault image owning_conditions)
unfolding first_fault
owning_verdict image =
    by_first (Verdict image 2 5) (fails image) NoDirectory (UnknownKind ∷ NoChain ∷ CrossLinked ∷ [])
    (λ t. dir_fault image NoDirectory (no_directory image (broken image NoDirectory t)))
    (λ exists. by_first (Verdict image 2 5) (fails image) UnknownKind (NoChain ∷ CrossLinked ∷ [])
    (λ t. dir_fault image UnknownKind (unknown_kind image (met image NoDirectory exists) (broken image UnknownKind t)))
    (λ kinds.
    let dir : AllHold image 2 3 = both_hold image (met image NoDirectory exists) (met image UnknownKind kinds) in
    by_first (Verdict image 2 5) (fails image) NoChain (CrossLinked ∷ [])
    (λ t. missing_chain image dir (broken image NoChain t))
    (λ chains. by_first (Verdict image 2 5) (fails image) CrossLinked []
    (λ t. crossed image dir (met image NoChain chains) (broken image CrossLinked t))
    (λ distinct. files_hold image dir (met image NoChain chains) (met image CrossLinked distinct)))))

-- what comes after them
with_free : (image : List (List ℕ)) (fault : Option DirFault) → CountsFit image → Verdict image 2 5 fault
    → Verdict image 1 6 (option_or fault (find (fails image) (MarkedFree ∷ [])))
with_free image (Some fault) counts h = file_fault_first image fault counts h
with_free image None counts h =
    by_first (Verdict image 1 6) (fails image) MarkedFree []
    (λ t. marked_free image counts h (broken image MarkedFree t)) (λ none. all_hold image counts h (met image MarkedFree none))

-- the conditions of a sound image
pub sound_verdict : (image : List (List ℕ)) → Verdict image 1 6 (first_fault image sound_conditions)
unfolding first_fault
sound_verdict image =
    by_first (Verdict image 1 6) (fails image) WrongCounts (owning_conditions ++ MarkedFree ∷ [])
    (λ t. wrong_counts image (broken image WrongCounts t))
    (λ counts. subst (Verdict image 1 6) (sym (find-append (fails image) owning_conditions (MarkedFree ∷ [])))
    (with_free image (first_fault image owning_conditions) (met image WrongCounts counts) (owning_verdict image)))

-- the fault of a number
fault_of : ℕ → DirFault
fault_of n = get_or (MarkedFree ∷ sound_conditions) n MarkedFree

-- each fault has a number of its own
numbered_fault : (fault : DirFault) → fault_of (condition_number fault) ≡ fault
unfolding fault_of
numbered_fault WrongCounts = refl
numbered_fault NoDirectory = refl
numbered_fault UnknownKind = refl
numbered_fault NoChain = refl
numbered_fault CrossLinked = refl
numbered_fault MarkedFree = refl

-- of two first faults neither comes before the other
not_later : (image : List (List ℕ)) (first last : ℕ) (fault other : DirFault) → IsFirstFault image first last fault → IsFirstFault image first last other
    → condition_number other ≤ condition_number fault
not_later image first last fault other f g =
    elim (cases_Bool (nat_lt (condition_number fault) (condition_number other))) [
      | inl t ↦ let less : condition_number fault < condition_number other = grind (arith, nat_tests) in absurd (f.fails (g.others_hold fault f.not_before less))
      | inr n ↦ grind (arith, nat_tests)
    ]

-- there is one verdict
pub one_verdict : (image : List (List ℕ)) (first last : ℕ) (fault other : Option DirFault)
    → Verdict image first last fault → Verdict image first last other → fault ≡ other
one_verdict image first last None None f g = refl
one_verdict image first last None (Some other) f g = absurd (g.fails (f other g.not_before g.not_after))
one_verdict image first last (Some fault) None f g = absurd (f.fails (g fault f.not_before f.not_after))
one_verdict image first last (Some fault) (Some other) f g =
    let less = not_later image first last fault other f g in
    let more = not_later image first last other fault g f in
    let e : condition_number fault ≡ condition_number other = omega arith in
    ap (λ (x : DirFault). Some x) (sym (numbered_fault fault) ∙ ap fault_of e ∙ numbered_fault other)

-- the verdict of a result
of_result : {A : Type 0} (image : List (List ℕ)) (first last : ℕ) (P : A → Type 0) (result : Result A DirFault)
    → MatchResult result (λ (value : A). AllHold image first last × P value) (IsFirstFault image first last) → Verdict image first last (err_of result)
of_result image first last P (Ok value) h = h.0
of_result image first last P (Err fault) h = h

-- a result by the relations is the result by the tests of the conditions 2 to 5
pub owning_fault : {A : Type 0} (image : List (List ℕ)) (P : A → Type 0) (result : Result A DirFault)
    → MatchResult result (λ (value : A). AllHold image 2 5 × P value) (IsFirstFault image 2 5) → err_of result ≡ first_fault image owning_conditions
owning_fault image P result h =
    one_verdict image 2 5 (err_of result) (first_fault image owning_conditions) (of_result image 2 5 P result h) (owning_verdict image)

-- the same for all six
pub sound_fault : {A : Type 0} (image : List (List ℕ)) (P : A → Type 0) (result : Result A DirFault)
    → MatchResult result (λ (value : A). AllHold image 1 6 × P value) (IsFirstFault image 1 6) → err_of result ≡ first_fault image sound_conditions
sound_fault image P result h =
    one_verdict image 1 6 (err_of result) (first_fault image sound_conditions) (of_result image 1 6 P result h) (sound_verdict image)

-- a first fault of the conditions 2 to 5 is the one that the tests find
pub owning_first : (image : List (List ℕ)) (fault : DirFault) → IsFirstFault image 2 5 fault → Some fault ≡ first_fault image owning_conditions
owning_first image fault f = one_verdict image 2 5 (Some fault) (first_fault image owning_conditions) f (owning_verdict image)

-- the same for all six
pub sound_first : (image : List (List ℕ)) (fault : DirFault) → IsFirstFault image 1 6 fault → Some fault ≡ first_fault image sound_conditions
sound_first image fault f = one_verdict image 1 6 (Some fault) (first_fault image sound_conditions) f (sound_verdict image)

-- what the tests find is what the relations say
shows : (conditions : List DirFault) (first last : ℕ)
    → ((image : List (List ℕ)) → Verdict image first last (first_fault image conditions)) → ReportsFirst conditions first last
shows conditions first last verdict image =
    let found = first_fault image conditions in (
      (λ none. MatchOption-at_none (AllHold image first last) (IsFirstFault image first last) none (verdict image), λ all. one_verdict image first last found None (verdict image) all),
      λ fault. (
        λ some. MatchOption-at_some (AllHold image first last) (IsFirstFault image first last) fault some (verdict image),
        λ f. one_verdict image first last found (Some fault) (verdict image) f,
      ),
    )

-- of the conditions of a sound image
pub sound_decides : ReportsFirst sound_conditions 1 6
sound_decides = shows sound_conditions 1 6 sound_verdict

-- of those of the owned blocks
pub owning_decides : ReportsFirst owning_conditions 2 5
owning_decides = shows owning_conditions 2 5 owning_verdict

-- the conditions of a directory that can be read
reading_verdict : (image : List (List ℕ)) → Verdict image 2 3 (first_fault image reading_conditions)
unfolding first_fault
reading_verdict image =
    by_first (Verdict image 2 3) (fails image) NoDirectory (UnknownKind ∷ [])
    (λ t. no_directory image (broken image NoDirectory t))
    (λ exists. by_first (Verdict image 2 3) (fails image) UnknownKind []
    (λ t. unknown_kind image (met image NoDirectory exists) (broken image UnknownKind t))
    (λ kinds. both_hold image (met image NoDirectory exists) (met image UnknownKind kinds)))

-- of those
pub reading_decides : ReportsFirst reading_conditions 2 3
reading_decides = shows reading_conditions 2 3 reading_verdict
