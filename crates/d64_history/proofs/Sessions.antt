-- sessions: the history of what a session holds, and what it becomes
use Rattle.std.proofs.Common.{◌≡◌, ℕ, ◌+◌, ◌<◌, ◌≤◌, Bool, true, false, cond, nat_lt, Option, Some, None, List, [], ◌∷◌, ◌++◌, length, take, get_or, set, refl, sym, ap, ap₂, ◌∙◌, subst, inl, inr, arith}
use Rattle.std.proofs.lemmas.Bool.{cases_lt}
use Rattle.std.proofs.lemmas.Bool.Decides.{nat_tests}
use Rattle.std.proofs.lemmas.List.{get_or_default, length-set}
use Rattle.d64_image.specs.Image.{differences}
use Rattle.d64_image.specs.Patch.{Kept, IsPatchOf, restored_image, changed_blocks, taken_blocks}
use Rattle.d64_image.specs.PatchList.{blocks_before}
use Rattle.d64_image.proofs.Patches.{restored_image-taken_blocks, taken_blocks-changed_blocks, length-restored_image, rises-difference}
use Rattle.d64_image.proofs.PatchLists.{before-swapped}
use Rattle.d64_history.specs.History.{History, IsHistory, present_image, new_history, extended_history, record_len, record_at}
use Rattle.d64_history.specs.Held.{history_of}
use Rattle.d64_history.specs.Records.{images_of, AreRecords}
use Rattle.d64_history.proofs.Records.{length-images, image-at_cursor, images-begun, begun-records, AreBetween, IsBeside, length-added, kept_added, records_added, beside-differs, images-stepped, records-stepped, record-done, record-undone, lengths-undone, length-changed_blocks, length-changed_back}

-- the same images
same_images : (images others : List (List (List ℕ))) (cursor : ℕ) → images ≡ others
    → (let h : History = record { images = images; cursor = cursor } in h) ≡ (let h : History = record { images = others; cursor = cursor } in h)
same_images images others cursor e = ap (λ (xs : List (List (List ℕ))). let h : History = record { images = xs; cursor = cursor } in h) e

pub history-new_history : (records : List Kept) (image : List (List ℕ)) → records ≡ [] → history_of records image 0 ≡ new_history image
history-new_history records image none =
    same_images (images_of records image 0) (image ∷ []) 0 (ap (λ (ps : List Kept). images_of ps image 0) none ∙ images-begun image)

pub none-are_records : (records : List Kept) (image : List (List ℕ)) → records ≡ [] → AreRecords records image 0
none-are_records records image none = subst (λ (ps : List Kept). AreRecords ps image 0) (sym none) (begun-records image)

-- a history is that of these records, of which n are done, and of this present image
pub record Holds (records : List Kept) (image : List (List ℕ)) (done : ℕ) (history : History) : Type 0 where
  pub within : done ≤ length records
  pub lead : AreRecords records image done
  pub is : history_of records image done ≡ history

-- what a session promises of itself
pub holds : {records : List Kept} {image : List (List ℕ)} {done blocks : ℕ} {history : History} {known empty : Type 0}
    → (done ≤ length records) × AreRecords records image done × (blocks ≡ blocks_before records done) × known × empty
    → history_of records image done ≡ history → Holds records image done history
holds invariant is = record { within = invariant.0; lead = invariant.1; is = is }

pub cursor-is : {records : List Kept} {image : List (List ℕ)} {done : ℕ} {history : History} → Holds records image done history → history.cursor ≡ done
cursor-is h = ap (λ (other : History). other.cursor) (sym h.is)

-- each record is between two images of the history
pub image_count : {records : List Kept} {image : List (List ℕ)} {done : ℕ} {history : History} → Holds records image done history
    → length history.images ≡ length records + 1
image_count {records} {image} {done} {history} h =
    ap (λ (other : History). length other.images) (sym h.is) ∙ length-images records image done h.within

pub lies : {records : List Kept} {image : List (List ℕ)} {done : ℕ} {history : History} → Holds records image done history → IsHistory history
lies {records} {image} {done} {history} h =
    let cursor = cursor-is h in
    let images = image_count h in
    let within = h.within in
    omega arith

pub present_is : {records : List Kept} {image : List (List ℕ)} {done : ℕ} {history : History} → Holds records image done history → present_image history ≡ image
present_is {records} {image} {done} {history} h = ap present_image (sym h.is) ∙ image-at_cursor records image done h.within

-- a record is added, and what lay after the cursor is dropped
pub holds-extended_history : {records : List Kept} {image : List (List ℕ)} {done : ℕ} {history : History} (kept : List Kept) (patch : Kept) (next : List (List ℕ)) (count : ℕ)
    → Holds records image done history → kept ≡ take done records ++ patch ∷ [] → count ≡ done + 1 → restored_image next patch ≡ image → patch ≡ changed_blocks image next
    → Holds kept next count (extended_history history next)
holds-extended_history {records} {image} {done} {history} kept patch next count h e n put_back differs =
    let long = length-added records kept patch done h.within e in
    record {
      within = omega arith;
      lead = subst (AreRecords kept next) (sym n) (records_added records kept patch image next done h.within e put_back differs h.lead);
      is =
          ap (history_of kept next) n
          ∙ same_images (images_of kept next (done + 1)) (take (done + 1) (images_of records image done) ++ next ∷ []) (done + 1)
          (kept_added records kept patch image next done h.within e put_back)
          ∙ ap (λ (other : History). extended_history other next) h.is;
    }

-- the cursor steps over a record, which is exchanged with the present image
pub holds-stepped : {records : List Kept} {image : List (List ℕ)} {done : ℕ} {history : History} (other : List (List ℕ)) (n cursor : ℕ) (patch exchanged : Kept)
    → Holds records image done history → n < length records → patch ≡ get_or records n patch → AreBetween image other patch exchanged
    → IsBeside n done cursor → Holds (set records n exchanged) other cursor (record history { cursor = cursor })
holds-stepped {records} {image} {done} {history} other n cursor patch exchanged h lt is between beside =
    let long = length-set records n exchanged in
    let within = h.within in
    record {
      within = elim beside [
        | inl back ↦ let one = back.1 in omega arith
        | inr on ↦ let one = on.1 in omega arith
      ];
      lead = records-stepped records image other n done cursor patch exchanged lt is between beside h.lead;
      is =
          same_images (images_of (set records n exchanged) other cursor) (images_of records image done) cursor
          (images-stepped records image other n done cursor patch exchanged lt is between beside)
          ∙ ap (λ (other : History). let moved : History = record other { cursor = cursor } in moved) h.is;
    }

-- two images, and the patch between them that is exchanged with one
swapped-between : (image : List (List ℕ)) (patch : Kept) → patch ≡ changed_blocks (restored_image image patch) image → AreBetween image (restored_image image patch) patch (taken_blocks image patch)
swapped-between image patch is = record {
  there = refl;
  here = restored_image-taken_blocks patch image 0 (length image) (rises-difference image patch is);
  is_patch = is;
  is_exchanged = ap (taken_blocks image) is ∙ taken_blocks-changed_blocks (restored_image image patch) image (length-restored_image patch image);
}

differs : {records : List Kept} {image : List (List ℕ)} {done : ℕ} {history : History} (n cursor : ℕ) → Holds records image done history
    → n < length records → IsBeside n done cursor → get_or records n [] ≡ changed_blocks (restored_image image (get_or records n [])) image
differs {records} {image} {done} n cursor h lt beside =
    beside-differs records image n done cursor (get_or records n []) lt (get_or_default records n [] (get_or records n []) lt) beside h.lead

-- the image has the blocks of a record beside the cursor
pub beside-patch : {records : List Kept} {image : List (List ℕ)} {done : ℕ} {history : History} (n cursor : ℕ) → Holds records image done history
    → n < length records → IsBeside n done cursor → IsPatchOf image (get_or records n [])
beside-patch {records} {image} {done} {history} n cursor h lt beside = rises-difference image (get_or records n []) (differs n cursor h lt beside)

-- the cursor has stepped over a record, which is exchanged with the image
pub holds-swapped : {records : List Kept} {image : List (List ℕ)} {done : ℕ} {history : History} (kept : List Kept) (other : List (List ℕ)) (n cursor : ℕ)
    → Holds records image done history → n < length records → IsBeside n done cursor
    → kept ≡ set records n (taken_blocks image (get_or records n [])) → other ≡ restored_image image (get_or records n [])
    → Holds kept other cursor (record history { cursor = cursor })
holds-swapped {records} {image} {done} {history} kept other n cursor h lt beside e f =
    let patch : Kept = get_or records n [] in
    let moved : History = record history { cursor = cursor } in
    let stepped : Holds (set records n (taken_blocks image patch)) (restored_image image patch) cursor moved =
    holds-stepped (restored_image image patch) n cursor patch (taken_blocks image patch) h lt (get_or_default records n [] patch lt)
    (swapped-between image patch (differs n cursor h lt beside)) beside in
    subst (λ (ks : List Kept). Holds ks other cursor moved) (sym e) (subst (λ (i : List (List ℕ)). Holds (set records n (taken_blocks image patch)) i cursor moved) (sym f) stepped)

-- the image is as long as before
pub kind-swapped : {records kept : List Kept} {image other : List (List ℕ)} {done cursor : ℕ} {history moved : History} (n : ℕ)
    → Holds records image done history → Holds kept other cursor moved → other ≡ restored_image image (get_or records n [])
    → length (present_image moved) ≡ length (present_image history)
kind-swapped {records} {image = image} n h k f =
    ap length (present_is k) ∙ ap (λ (i : List (List ℕ)). length i) f ∙ length-restored_image (get_or records n []) image ∙ sym (ap length (present_is h))

-- as many records, and as many blocks before each
pub length-swapped : (records kept : List Kept) (image : List (List ℕ)) (n : ℕ) → kept ≡ set records n (taken_blocks image (get_or records n []))
    → length kept ≡ length records
length-swapped records kept image n e = ap (λ (rs : List Kept). length rs) e ∙ length-set records n (taken_blocks image (get_or records n []))

pub places-swapped : (records kept : List Kept) (image : List (List ℕ)) (n m : ℕ) → n < length records
    → kept ≡ set records n (taken_blocks image (get_or records n [])) → blocks_before kept m ≡ blocks_before records m
places-swapped records kept image n m h e = ap (λ (rs : List Kept). blocks_before rs m) e ∙ before-swapped records image n m h

-- a record is left if one can be redone
pub some_left : {records : List Kept} {image : List (List ℕ)} {done : ℕ} {history : History} (left : ℕ) → Holds records image done history
    → history.cursor + left + 1 ≡ length history.images → (left ≡ 0 → ⊥) → done < length records
some_left left h count some =
    let cursor = cursor-is h in
    let images = image_count h in
    grind arith

-- there is a record if there are two images
found : (records : List Kept) (image : List (List ℕ)) (done number : ℕ) → done ≤ length records → number < length records
    → nat_lt (number + 1) (length (images_of records image done)) ≡ true
found records image done number within h =
    let count = length-images records image done within in
    let more : number + 1 < length (images_of records image done) = omega arith in
    grind (arith, nat_tests)

missing : (records : List Kept) (image : List (List ℕ)) (done number : ℕ) → done ≤ length records → length records ≤ number
    → nat_lt (number + 1) (length (images_of records image done)) ≡ false
missing records image done number within h =
    let count = length-images records image done within in
    let more : length (images_of records image done) ≤ number + 1 = omega arith in
    grind (arith, nat_tests)

pub record_found : {records : List Kept} {image : List (List ℕ)} {done : ℕ} {history : History} (number : ℕ) (patch : Kept) → Holds records image done history
    → number < length records → patch ≡ get_or records number patch → Some patch ≡ record_at history number
record_found {records} {image} {done} {history} number patch holds h read =
    let images = images_of records image done in
    let first : Kept = changed_blocks (get_or images number []) (get_or images (number + 1) []) in
    let second : Kept = changed_blocks (get_or images (number + 1) []) (get_or images number []) in
    let found = found records image done number holds.within h in
    let same : patch ≡ get_or records number [] = read ∙ get_or_default records number patch [] h in
    elim (cases_lt number done) [
      | inl before ↦
          let side : nat_lt number done ≡ true = grind (arith, nat_tests) in
          ap Some (same ∙ record-done records image done number holds.within before holds.lead)
          ∙ sym (ap₂ (λ (t u : Bool). cond t (Some (cond u first second)) None) found side)
          ∙ ap (λ (h : History). record_at h number) holds.is
      | inr after ↦
          let side : nat_lt number done ≡ false = grind (arith, nat_tests) in
          ap Some (same ∙ record-undone records image done number after h holds.lead)
          ∙ sym (ap₂ (λ (t u : Bool). cond t (Some (cond u first second)) None) found side)
          ∙ ap (λ (h : History). record_at h number) holds.is
    ]

pub record_missing : {records : List Kept} {image : List (List ℕ)} {done : ℕ} {history : History} (number : ℕ) → Holds records image done history
    → length records ≤ number → (None ≡ record_at history number) × (None ≡ record_len history number)
record_missing {records} {image} {done} {history} number holds h =
    let images = images_of records image done in
    let first : Kept = changed_blocks (get_or images number []) (get_or images (number + 1) []) in
    let second : Kept = changed_blocks (get_or images (number + 1) []) (get_or images number []) in
    let missing = missing records image done number holds.within h in (
      sym (ap (λ (t : Bool). cond t (Some (cond (nat_lt number done) first second)) None) missing) ∙ ap (λ (h : History). record_at h number) holds.is,
      sym (ap (λ (t : Bool). cond t (Some (length (differences (get_or images number []) (get_or images (number + 1) [])))) None) missing)
          ∙ ap (λ (h : History). record_len h number) holds.is,
    )

pub record_counted : {records : List Kept} {image : List (List ℕ)} {done : ℕ} {history : History} (number : ℕ) (patch : Kept) → Holds records image done history
    → number < length records → patch ≡ get_or records number patch → Some (length patch) ≡ record_len history number
record_counted {records} {image} {done} {history} number patch holds h read =
    let images = images_of records image done in
    let this : List (List ℕ) = get_or images number [] in
    let next : List (List ℕ) = get_or images (number + 1) [] in
    let found = found records image done number holds.within h in
    let same : patch ≡ get_or records number [] = read ∙ get_or_default records number patch [] h in
    let count : length patch ≡ length (differences this next) = elim (cases_lt number done) [
      | inl before ↦ ap length (same ∙ record-done records image done number holds.within before holds.lead) ∙ length-changed_blocks this next
      | inr after ↦
          ap length (same ∙ record-undone records image done number after h holds.lead)
          ∙ length-changed_back this next (sym (lengths-undone records image done number after h))
    ] in
    ap Some count
    ∙ sym (ap (λ (t : Bool). cond t (Some (length (differences this next))) None) found)
    ∙ ap (λ (h : History). record_len h number) holds.is

-- as many as are in each record
pub record_lens : {records : List Kept} {image : List (List ℕ)} {done : ℕ} {history : History} (number : ℕ) → Holds records image done history
    → cond (nat_lt number (length records)) (Some (length (get_or records number []))) None ≡ record_len history number
record_lens {records} number holds =
    let len : Option ℕ = Some (length (get_or records number [])) in
    elim (cases_lt number (length records)) [
      | inl within ↦
          let has : nat_lt number (length records) ≡ true = grind (arith, nat_tests) in
          ap (λ (t : Bool). cond t len None) has
          ∙ record_counted number (get_or records number []) holds within (get_or_default records number [] (get_or records number []) within)
      | inr beyond ↦
          let has_not : nat_lt number (length records) ≡ false = grind (arith, nat_tests) in
          ap (λ (t : Bool). cond t len None) has_not ∙ (record_missing number holds beyond).1
    ]
