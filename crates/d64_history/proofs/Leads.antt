-- the records of a list of images, and that they lead through these images
use Rattle.std.proofs.Common.{◌≡◌, ℕ, suc, ◌+◌, ◌<◌, ◌≤◌, not, List, [], ◌∷◌, ◌++◌, length, reverse, take, drop, get_or, nat_eq, refl, sym, ap, ap₂, ◌∙◌, subst, arith}
use Rattle.std.specs.List.{All, range_with_len}
use Rattle.std.specs.Cmp.Lexicographic.{pointwise}
use Rattle.std.proofs.Math.Seq.{split_at}
use Rattle.std.proofs.lemmas.Grind.{reverse_onto}
use Rattle.std.proofs.lemmas.List.{length-reverse, length-take-le, reverse-reverse, length-append, length-drop, take_at, drop_at}
use Rattle.std.proofs.lemmas.List.Elements.{All-nil, All-cons, All-head, All-tail, All-append, All-take, All-drop, All-map, All-filter, All-from_get_or}
use Rattle.std.proofs.lemmas.List.FromFn.{length-range_with_len, get_or-range_with_len}
use Rattle.d64_image.specs.Image.{IsBlock, IsImage, sector_at, differences}
use Rattle.d64_image.specs.Patch.{Kept, RisesBetween, restored_image, changed_blocks, HaveBlocks}
use Rattle.d64_image.proofs.Patches.{restored_image-changed_blocks, rises-changed_blocks}
use Rattle.d64_history.specs.History.{History, present_image}
use Rattle.d64_history.specs.Records.{images_along, LeadAlong, images_of, AreRecords}
use Rattle.d64_history.specs.SessionFile.{IsSession}
use Rattle.d64_history.proofs.Sessions.{Holds}

-- an image of n blocks
abbrev IsImageOf : ℕ → List (List ℕ) → Type 0
IsImageOf count image = (length image ≡ count) × All IsBlock image

-- the patches that lead from an image through those that come one after another
pub leads : List (List ℕ) → List (List (List ℕ)) → List Kept
leads image [] = []
leads image (next ∷ images) = changed_blocks next image ∷ leads next images

length-leads : (images : List (List (List ℕ))) (image : List (List ℕ)) → length (leads image images) ≡ length images
unfolding leads
length-leads [] image = refl
length-leads (next ∷ images) image = ap suc (length-leads images next)

-- a patch leads to the next image
leads-next : (count : ℕ) (next image : List (List ℕ)) → IsImageOf count next → IsImageOf count image → restored_image image (changed_blocks next image) ≡ next
leads-next count next image is_next is_image = restored_image-changed_blocks next image (is_next.0 ∙ sym is_image.0)

-- they lead through the images
images_along-leads : (count : ℕ) (images : List (List (List ℕ))) (image : List (List ℕ)) → IsImageOf count image → All (IsImageOf count) images
    → images_along image (leads image images) ≡ images
unfolding images_along leads
images_along-leads count [] image is each = refl
images_along-leads count (next ∷ images) image is each =
    let is_next = All-head (IsImageOf count) next images each in
    ap (λ (x : List (List ℕ)). x ∷ images_along x (leads next images)) (leads-next count next image is_next is)
    ∙ ap (λ (xs : List (List (List ℕ))). next ∷ xs) (images_along-leads count images next is_next (All-tail (IsImageOf count) next images each))

-- and each is the difference to the next one
lead-leads : (count : ℕ) (images : List (List (List ℕ))) (image : List (List ℕ)) → IsImageOf count image → All (IsImageOf count) images
    → LeadAlong image (leads image images)
unfolding LeadAlong leads
lead-leads count [] image is each = tt
lead-leads count (next ∷ images) image is each =
    let is_next = All-head (IsImageOf count) next images each in
    let there = leads-next count next image is_next is in (
      ap (λ (x : List (List ℕ)). changed_blocks x image) (sym there),
      subst (λ (x : List (List ℕ)). LeadAlong x (leads next images)) (sym there) (lead-leads count images next is_next (All-tail (IsImageOf count) next images each)),
    )

-- ascending blocks are at most as many as there are
pub most : (patch : Kept) (low high : ℕ) → RisesBetween low high patch → low ≤ high → length patch + low ≤ high
unfolding RisesBetween
most [] low high r h = omega arith
most (entry ∷ patch) low high r h =
    let a = r.0 in
    let b = r.1 in
    let rest = most patch (entry.0 + 1) high r.2 (omega arith) in
    omega arith

-- each block of a range that lies in an image is one
range-blocks : (count : ℕ) (image : List (List ℕ)) → IsImageOf count image → All (λ (b : ℕ). IsBlock (sector_at image b)) (range_with_len 0 (length image))
range-blocks count image is =
    All-from_get_or (λ (b : ℕ). IsBlock (sector_at image b)) (range_with_len 0 (length image)) 0 (λ k h.
    let long = length-range_with_len 0 (length image) in
    let within : k < length image = omega arith in
    let at : get_or (range_with_len 0 (length image)) k 0 ≡ k = let r = get_or-range_with_len 0 (length image) k 0 within in omega arith in
    subst (λ (b : ℕ). IsBlock (sector_at image b)) (sym at) (is.1 k [] within))

-- what changed has the bytes of blocks
changed_blocks-blocks : (count : ℕ) (before after : List (List ℕ)) → IsImageOf count before → HaveBlocks (changed_blocks before after)
unfolding changed_blocks
changed_blocks-blocks count before after is =
    All-map (λ (e : ℕ × List ℕ). IsBlock e.1) (λ (b : ℕ). (b, sector_at before b)) (differences before after)
    (All-filter (λ (b : ℕ). not (pointwise nat_eq (sector_at before b) (sector_at after b))) (λ (b : ℕ). IsBlock (sector_at before b)) (range_with_len 0 (length before))
    (range-blocks count before is))

-- a record that the file of an image of n blocks can have
abbrev pub IsRecord : ℕ → Kept → Type 0
IsRecord count patch = RisesBetween 0 count patch × HaveBlocks patch

leads-records : (count : ℕ) (images : List (List (List ℕ))) (image : List (List ℕ)) → All (IsImageOf count) images → All (IsRecord count) (leads image images)
unfolding leads
leads-records count [] image each = All-nil (IsRecord count)
leads-records count (next ∷ images) image each =
    let is_next = All-head (IsImageOf count) next images each in
    let rises = subst (λ (n : ℕ). RisesBetween 0 n (changed_blocks next image)) is_next.0 (rises-changed_blocks next image) in
    All-cons (IsRecord count) (changed_blocks next image) (leads next images) (rises, changed_blocks-blocks count next image is_next)
    (leads-records count images next (All-tail (IsImageOf count) next images each))

-- what holds of each element holds of each in another order
pub All-turned : {X : Type 0} (P : X → Type 0) (xs : List X) → All P xs → All P (reverse xs)
All-turned P [] each = All-nil P
All-turned P (x ∷ xs) each =
    subst (All P) (sym (reverse_onto xs x []))
    (All-append P (reverse xs) (x ∷ []) (All-turned P xs (All-tail P x xs each)) (All-cons P x [] (All-head P x xs each) (All-nil P)))

-- what a session holds of a history: it is that of these records and this image
pub record Held (history : History) (records : List Kept) : Type 0 where
  pub holds : Holds records (present_image history) history.cursor history
  pub count : length records + 1 ≡ length history.images
  pub each : All (IsRecord (length (present_image history))) records
  pub image : IsImage (present_image history)

-- each history that a session can hold is that of some records
pub held : (history : History) → IsSession history → (records : List Kept) × Held history records
unfolding AreRecords images_of
held history is =
    let images = history.images in
    let done = history.cursor in
    let image = present_image history in
    let lt : done < length images = is.cursor in
    let past = reverse (take done images) in
    let rest = drop (suc done) images in
    let parted : images ≡ take done images ++ image ∷ rest = split_at images done [] lt in
    let count = length image in
    let each : All (IsImageOf count) images = λ k d h. (is.kind k d h, (is.images k d h).1) in
    let is_image : IsImageOf count image = each done [] lt in
    let are_past : All (IsImageOf count) past = All-turned (IsImageOf count) (take done images) (All-take (IsImageOf count) done images each) in
    let are_rest : All (IsImageOf count) rest = All-drop (IsImageOf count) (suc done) images each in
    let back_leads = leads image past in
    let on_leads = leads image rest in
    let first = reverse back_leads in
    let records = first ++ on_leads in
    let long : length first ≡ done =
    length-reverse back_leads ∙ length-leads past image ∙ length-reverse (take done images) ∙ length-take-le done images (omega arith) in
    let front : take done records ≡ first = take_at first on_leads done long in
    let end : drop done records ≡ on_leads = drop_at first on_leads done long in
    let turned : reverse (take done records) ≡ back_leads = ap reverse front ∙ reverse-reverse back_leads in
    let all = length-append first on_leads in
    let on_long = length-leads rest image in
    let rest_long = length-drop (suc done) images in
    let before : reverse (images_along image (reverse (take done records))) ≡ take done images =
    ap (λ (ps : List Kept). reverse (images_along image ps)) turned ∙ ap reverse (images_along-leads count past image is_image are_past) ∙ reverse-reverse (take done images) in
    let after : images_along image (drop done records) ≡ rest = ap (images_along image) end ∙ images_along-leads count rest image is_image are_rest in (
      records,
      record {
        holds = record {
          within = omega arith;
          lead = (
            subst (LeadAlong image) (sym turned) (lead-leads count past image is_image are_past),
            subst (LeadAlong image) (sym end) (lead-leads count rest image is_image are_rest),
          );
          is =
              ap (λ (xs : List (List (List ℕ))). let h : History = record { images = xs; cursor = done } in h)
              (ap₂ (λ (xs ys : List (List (List ℕ))). xs ++ image ∷ ys) before after ∙ sym parted);
        };
        count = omega arith;
        each =
            All-append (IsRecord count) first on_leads (All-turned (IsRecord count) back_leads (leads-records count past image are_past)) (leads-records count rest image are_rest);
        image = is.images done [] lt;
      },
    )
