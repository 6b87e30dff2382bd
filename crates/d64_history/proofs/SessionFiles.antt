-- session files: what a session holds is what the file of its history says
use Rattle.std.proofs.Common.{◌≡◌, ℕ, ◌+◌, ◌-◌, ◌<◌, ◌≤◌, ◌^◌, Bool, cond, nat_lt, true, false, List, [], ◌∷◌, length, map, reverse, take, drop, get_or, set, refl, sym, ap, ap₂, ◌∙◌, subst, inl, inr, arith}
use Rattle.std.specs.List.{All, range_with_len}
use Rattle.std.proofs.lemmas.Bool.{cases_lt}
use Rattle.std.proofs.lemmas.Bool.Decides.{nat_tests}
use Rattle.std.proofs.lemmas.List.{ext_get_or, length-set}
use Rattle.std.proofs.lemmas.List.Elements.{All-nil, All-cons, All-head, All-tail, All-append, All-take, All-drop, All-set}
use Rattle.std.proofs.lemmas.List.FromFn.{length-map-range_with_len, get_or-map-range_with_len}
use Rattle.d64_image.specs.Image.{IsBlock, IsSize, IsImage}
use Rattle.d64_image.specs.Patch.{Kept, restored_image, changed_blocks, HaveBlocks}
use Rattle.d64_image.proofs.Patches.{length-restored_image}
use Rattle.d64_history.specs.History.{History, present_image, record_blocks}
use Rattle.d64_history.specs.Held.{history_of}
use Rattle.d64_history.specs.Records.{images_along, images_of, AreRecords}
use Rattle.d64_history.specs.SessionFile.{records_of, file_with, file_of, IsSession}
use Rattle.d64_history.proofs.Leads.{All-turned}
use Rattle.d64_history.proofs.Records.{length-images, record-done, record-undone}
use Rattle.d64_history.proofs.Sessions.{Holds, present_is, lies, image_count}

-- a record of the history is the one that the session holds
record_blocks-held : (records : List Kept) (image : List (List ℕ)) (done n : ℕ) → done ≤ length records → n < length records
    → AreRecords records image done → record_blocks (history_of records image done) n ≡ get_or records n []
record_blocks-held records image done n within h leads =
    let images = images_of records image done in
    let first : Kept = changed_blocks (get_or images n []) (get_or images (n + 1) []) in
    let second : Kept = changed_blocks (get_or images (n + 1) []) (get_or images n []) in
    elim (cases_lt n done) [
      | inl before ↦
          let side : nat_lt n done ≡ true = grind (arith, nat_tests) in
          ap (λ (t : Bool). cond t first second) side ∙ sym (record-done records image done n within before leads)
      | inr after ↦
          let side : nat_lt n done ≡ false = grind (arith, nat_tests) in
          ap (λ (t : Bool). cond t first second) side ∙ sym (record-undone records image done n after h leads)
    ]

-- and so are all records
pub records-held : (records : List Kept) (image : List (List ℕ)) (done : ℕ) → done ≤ length records
    → AreRecords records image done → records_of (history_of records image done) ≡ records
unfolding records_of
records-held records image done within leads =
    let history : History = history_of records image done in
    let long = length-images records image done within in
    let count : length (images_of records image done) - 1 ≡ length records = omega arith in
    let listed = length-map-range_with_len (record_blocks history) 0 (length records) in
    ap (λ (n : ℕ). map (record_blocks history) (range_with_len 0 n)) count
    ∙ ext_get_or [] (map (record_blocks history) (range_with_len 0 (length records))) records listed
    (λ k h.
    let lt : k < length records = omega arith in
    get_or-map-range_with_len (record_blocks history) 0 (length records) k k [] lt (omega arith)
    ∙ record_blocks-held records image done k within lt leads)

-- the file of what a session holds is that of its history
pub file-held : {records : List Kept} {image : List (List ℕ)} {done : ℕ} {history : History} → Holds records image done history
    → file_with image done records ≡ file_of history
file-held {records} {image} {done} {history} h =
    let same = ap present_image h.is in
    ap₂ (λ (shown : List (List ℕ)) (rs : List Kept). file_with shown done rs)
    (sym (same ∙ present_is h)) (sym (records-held records image done h.within h.lead))
    ∙ ap file_of h.is

-- an image with the bytes of blocks put back is an image
restored_image-image : (patch : Kept) (image : List (List ℕ)) → IsImage image → HaveBlocks patch → IsImage (restored_image image patch)
unfolding restored_image
restored_image-image [] image is blocks = is
restored_image-image (entry ∷ patch) image is blocks =
    restored_image-image patch (set image entry.0 entry.1)
    (subst IsSize (sym (length-set image entry.0 entry.1)) is.0, All-set IsBlock image entry.0 entry.1 (All-head (λ (e : ℕ × List ℕ). IsBlock e.1) entry patch blocks) is.1)
    (All-tail (λ (e : ℕ × List ℕ). IsBlock e.1) entry patch blocks)

-- and so are all images that patches lead to
images_along-images : (patches : List Kept) (image : List (List ℕ)) → IsImage image → All HaveBlocks patches → All IsImage (images_along image patches)
unfolding images_along
images_along-images [] image is blocks = All-nil IsImage
images_along-images (patch ∷ patches) image is blocks =
    let next = restored_image-image patch image is (All-head HaveBlocks patch patches blocks) in
    All-cons IsImage (restored_image image patch) (images_along (restored_image image patch) patches) next
    (images_along-images patches (restored_image image patch) next (All-tail HaveBlocks patch patches blocks))

-- all of one kind
images_along-kind : (patches : List Kept) (image : List (List ℕ)) (count : ℕ) → length image ≡ count → All (λ other. length other ≡ count) (images_along image patches)
unfolding images_along
images_along-kind [] image count long = All-nil (λ other. length other ≡ count)
images_along-kind (patch ∷ patches) image count long =
    let next = length-restored_image patch image ∙ long in
    All-cons (λ other. length other ≡ count) (restored_image image patch) (images_along (restored_image image patch) patches) next (images_along-kind patches (restored_image image patch) count next)

-- a session's history is one that a session can hold
pub holds-session : {records : List Kept} {image : List (List ℕ)} {done : ℕ} {history : History} → Holds records image done history
    → length records < 2 ^ 64 → IsImage image → All HaveBlocks records → IsSession history
unfolding images_of
holds-session {records} {image} {done} {history} h most is_image blocks =
    let past = take done records in
    let images : All IsImage (images_of records image done) =
    All-append IsImage (reverse (images_along image (reverse past))) (image ∷ images_along image (drop done records))
    (All-turned IsImage (images_along image (reverse past)) (images_along-images (reverse past) image is_image (All-turned HaveBlocks past (All-take HaveBlocks done records blocks))))
    (All-cons IsImage image (images_along image (drop done records)) is_image (images_along-images (drop done records) image is_image (All-drop HaveBlocks done records blocks))) in
    let kinds : All (λ other. length other ≡ length image) (images_of records image done) =
    let one = λ (other : List (List ℕ)). length other ≡ length image in
    All-append one (reverse (images_along image (reverse past))) (image ∷ images_along image (drop done records))
    (All-turned one (images_along image (reverse past)) (images_along-kind (reverse past) image (length image) refl))
    (All-cons one image (images_along image (drop done records)) refl (images_along-kind (drop done records) image (length image) refl)) in
    let count = image_count h in
    record {
      cursor = lies h;
      images = subst (λ (other : History). All IsImage other.images) h.is images;
      kind =
          subst (λ (next : History). All (λ other. length other ≡ length (present_image next)) next.images) h.is
          (subst (λ (shown : List (List ℕ)). All (λ other. length other ≡ length shown) (images_of records image done))
          (sym (ap present_image h.is ∙ present_is h)) kinds);
      count = omega arith;
    }
