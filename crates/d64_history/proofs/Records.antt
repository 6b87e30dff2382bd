-- records: the images that they lead to, and what commands, undos and redos leave of them
use Rattle.std.proofs.Common.{◌≡◌, ℕ, ◌+◌, ◌-◌, ◌<◌, ◌≤◌, ◌↔◌, ◌⊎◌, zero, suc, List, [], ◌∷◌, ◌++◌, length, reverse, take, drop, get_or, set, refl, sym, ap, ap₂, ◌∙◌, subst, inl, inr, arith, append_assoc}
use Rattle.std.proofs.lemmas.Grind.{reverse_onto}
use Rattle.std.proofs.lemmas.List.{length-append, length-reverse, length-map, length-take-le, length-drop, length_push, reverse-append, get_or_at, get_or-reverse, get_or-drop, get_or-take, get_or-append-add, get_or_append_left, take_all, take_at, drop_all, take_more, take_more_set, drop_more, take-set, drop-set, drop-set-lt}
use Rattle.d64_image.specs.Image.{sector_at, differences}
use Rattle.d64_image.specs.Patch.{Kept, restored_image, changed_blocks, taken_blocks}
use Rattle.d64_image.proofs.Patches.{length-restored_image, taken_blocks-changed_blocks}
use Rattle.d64_history.specs.Records.{images_along, LeadAlong, images_of, AreRecords}

-- the first elements of a list, and one more
pub take_on : {X : Type 0} (xs : List X) (i : ℕ) (x : X) → i < length xs → x ≡ get_or xs i x → take (i + 1) xs ≡ take i xs ++ x ∷ []
take_on xs i x h is = take_more xs i x h ∙ ap (λ (y : _). take i xs ++ y ∷ []) (sym is)

-- a list with one more in front, reversed
reverse-cons : {X : Type 0} (x : X) (xs : List X) → reverse (x ∷ xs) ≡ reverse xs ++ x ∷ []
reverse-cons x xs = reverse_onto xs x []

-- a list with one more at its end, reversed
reverse-push : {X : Type 0} (xs : List X) (x : X) → reverse (xs ++ x ∷ []) ≡ x ∷ reverse xs
reverse-push xs x = reverse-append xs (x ∷ [])

length-images_along : (patches : List Kept) (image : List (List ℕ)) → length (images_along image patches) ≡ length patches
unfolding images_along
length-images_along [] image = refl
length-images_along (patch ∷ patches) image = ap suc (length-images_along patches (restored_image image patch))

-- the records that are done, the last one first
past : List Kept → ℕ → List Kept
past records done = reverse (take done records)

-- the images before the present one
before : List Kept → List (List ℕ) → ℕ → List (List (List ℕ))
before records image done = reverse (images_along image (past records done))

length-before : (records : List Kept) (image : List (List ℕ)) (done : ℕ) → done ≤ length records → length (before records image done) ≡ done
unfolding before past
length-before records image done within =
    length-reverse (images_along image (reverse (take done records)))
    ∙ length-images_along (reverse (take done records)) image
    ∙ length-reverse (take done records)
    ∙ length-take-le done records within

-- each record is between two images
pub length-images : (records : List Kept) (image : List (List ℕ)) (done : ℕ) → done ≤ length records
    → length (images_of records image done) ≡ length records + 1
unfolding images_of before past
length-images records image done within =
    let joined = length-append (before records image done) (image ∷ images_along image (drop done records)) in
    let front = length-before records image done within in
    let rest = length-images_along (drop done records) image in
    let back = length-drop done records in
    omega arith

-- the present image is at the cursor
pub image-at_cursor : (records : List Kept) (image : List (List ℕ)) (done : ℕ) → done ≤ length records
    → get_or (images_of records image done) done [] ≡ image
unfolding images_of before past
image-at_cursor records image done within =
    get_or_at (before records image done) image (images_along image (drop done records)) [] done (length-before records image done within)

-- no record at the beginning
pub images-begun : (image : List (List ℕ)) → images_of [] image 0 ≡ image ∷ []
unfolding images_of images_along
images-begun image = refl

pub begun-records : (image : List (List ℕ)) → AreRecords [] image 0
unfolding AreRecords LeadAlong
begun-records image = (tt, tt)

-- the record before the cursor is the first of those that are done
past-more : (records : List Kept) (n : ℕ) (patch : Kept) → n < length records → patch ≡ get_or records n patch
    → past records (n + 1) ≡ patch ∷ past records n
unfolding past
past-more records n patch h e =
    ap reverse (take_on records n patch h e) ∙ reverse-push (take n records) patch

-- one image more before the present one
before-more : (past' : List Kept) (image next : List (List ℕ)) (patch : Kept) → restored_image next patch ≡ image
    → reverse (images_along next (patch ∷ past')) ≡ reverse (images_along image past') ++ image ∷ []
unfolding images_along
before-more past' image next patch e =
    ap (λ (x : List (List ℕ)). reverse (x ∷ images_along x past')) e ∙ reverse-cons image (images_along image past')

images_along-none : (image : List (List ℕ)) → images_along image [] ≡ []
unfolding images_along
images_along-none image = refl

-- the next image and those after it
images_along-one : (patches : List Kept) (image next : List (List ℕ)) (patch : Kept) → restored_image image patch ≡ next → images_along image (patch ∷ patches) ≡ next ∷ images_along next patches
unfolding images_along
images_along-one patches image next patch e = ap (λ (x : List (List ℕ)). x ∷ images_along x patches) e

-- the record after the cursor is the first of those that are undone
rest-more : (records : List Kept) (n : ℕ) (patch : Kept) → n < length records → patch ≡ get_or records n patch
    → drop n records ≡ patch ∷ drop (n + 1) records
rest-more records n patch h e = drop_more records n patch h ∙ ap (λ (p : Kept). p ∷ drop (n + 1) records) (sym e)

lead-none : (image : List (List ℕ)) → LeadAlong image []
unfolding LeadAlong
lead-none image = tt

-- records that lead away from the image after one more, if they led away from the one before
lead-more : (patches : List Kept) (image next : List (List ℕ)) (patch : Kept) → restored_image next patch ≡ image → patch ≡ changed_blocks image next
    → LeadAlong image patches → LeadAlong next (patch ∷ patches)
unfolding LeadAlong
lead-more patches image next patch e d leads =
    (d ∙ ap (λ (x : List (List ℕ)). changed_blocks x next) (sym e), subst (λ (x : List (List ℕ)). LeadAlong x patches) (sym e) leads)

lead-head : (patches : List Kept) (image : List (List ℕ)) (patch : Kept) → LeadAlong image (patch ∷ patches) → patch ≡ changed_blocks (restored_image image patch) image
unfolding LeadAlong
lead-head patches image patch leads = leads.0

lead-tail : (patches : List Kept) (image : List (List ℕ)) (patch : Kept) → LeadAlong image (patch ∷ patches) → LeadAlong (restored_image image patch) patches
unfolding LeadAlong
lead-tail patches image patch leads = leads.1

-- what lies after the cursor is dropped and a record is added
pub length-added : (records kept : List Kept) (patch : Kept) (done : ℕ) → done ≤ length records → kept ≡ take done records ++ patch ∷ []
    → length kept ≡ done + 1
length-added records kept patch done within e =
    ap length e ∙ length_push (take done records) patch ∙ ap (λ (n : ℕ). n + 1) (length-take-le done records within)

past-added : (records kept : List Kept) (patch : Kept) (done : ℕ) → done ≤ length records → kept ≡ take done records ++ patch ∷ []
    → past kept (done + 1) ≡ patch ∷ past records done
unfolding past
past-added records kept patch done within e =
    ap reverse (take_all (done + 1) kept (omega (arith, length-added records kept patch done within e)) ∙ e) ∙ reverse-push (take done records) patch

rest-added : (records kept : List Kept) (patch : Kept) (done : ℕ) → done ≤ length records → kept ≡ take done records ++ patch ∷ []
    → drop (done + 1) kept ≡ []
rest-added records kept patch done within e = drop_all (done + 1) kept (omega (arith, length-added records kept patch done within e))

pub kept_added : (records kept : List Kept) (patch : Kept) (image next : List (List ℕ)) (done : ℕ) → done ≤ length records
    → kept ≡ take done records ++ patch ∷ [] → restored_image next patch ≡ image
    → images_of kept next (done + 1) ≡ take (done + 1) (images_of records image done) ++ next ∷ []
unfolding images_of before past
kept_added records kept patch image next done within e put_back =
    let front = before records image done in
    let rest = images_along image (drop done records) in
    let long : length (front ++ image ∷ []) ≡ done + 1 = omega (arith, length_push front image, length-before records image done within) in
    let cut : take (done + 1) (front ++ image ∷ rest) ≡ front ++ image ∷ [] =
    ap (take (done + 1)) (sym (append_assoc front (image ∷ []) rest)) ∙ take_at (front ++ image ∷ []) rest (done + 1) long in
    let earlier : reverse (images_along next (past kept (done + 1))) ≡ front ++ image ∷ [] =
    ap (λ (ps : List Kept). reverse (images_along next ps)) (past-added records kept patch done within e) ∙ before-more (past records done) image next patch put_back in
    let none : images_along next (drop (done + 1) kept) ≡ [] = ap (images_along next) (rest-added records kept patch done within e) ∙ images_along-none next in
    ap₂ (λ (xs ys : List (List (List ℕ))). xs ++ next ∷ ys) (earlier ∙ sym cut) none

pub records_added : (records kept : List Kept) (patch : Kept) (image next : List (List ℕ)) (done : ℕ) → done ≤ length records
    → kept ≡ take done records ++ patch ∷ [] → restored_image next patch ≡ image → patch ≡ changed_blocks image next
    → AreRecords records image done → AreRecords kept next (done + 1)
unfolding AreRecords past
records_added records kept patch image next done within e put_back differs leads = (
  subst (LeadAlong next) (sym (past-added records kept patch done within e)) (lead-more (past records done) image next patch put_back differs leads.0),
  subst (LeadAlong next) (sym (rest-added records kept patch done within e)) (lead-none next),
)

-- two images, and the patches that lead from each to the other, which are exactly their differences
pub record AreBetween (image other : List (List ℕ)) (patch exchanged : Kept) : Type 0 where
  pub there : restored_image image patch ≡ other
  pub here : restored_image other exchanged ≡ image
  pub is_patch : patch ≡ changed_blocks other image
  pub is_exchanged : exchanged ≡ changed_blocks image other

-- the other way they are exchanged
turned : {image other : List (List ℕ)} {patch exchanged : Kept} → AreBetween image other patch exchanged → AreBetween other image exchanged patch
turned b = record { there = b.here; here = b.there; is_patch = b.is_exchanged; is_exchanged = b.is_patch }

-- a list of records with a record in its place, those before it, the last one first, and those
-- after it
record LiesBetween (records : List Kept) (n : ℕ) (patch : Kept) (earlier later : List Kept) : Type 0 where
  pub before : past records n ≡ earlier
  pub with_it : past records (n + 1) ≡ patch ∷ earlier
  pub from_it : drop n records ≡ patch ∷ later
  pub after : drop (n + 1) records ≡ later

lies-between : (records : List Kept) (n : ℕ) (patch : Kept) → n < length records → patch ≡ get_or records n patch
    → LiesBetween records n patch (past records n) (drop (n + 1) records)
lies-between records n patch h is = record { before = refl; with_it = past-more records n patch h is; from_it = rest-more records n patch h is; after = refl }

-- another record in that place leaves those before it and after it
lies-set : (records : List Kept) (n : ℕ) (exchanged : Kept) → n < length records
    → LiesBetween (set records n exchanged) n exchanged (past records n) (drop (n + 1) records)
unfolding past
lies-set records n exchanged h = record {
  before = ap reverse (take-set records n exchanged);
  with_it = ap reverse (take_more_set records n exchanged h) ∙ reverse-push (take n records) exchanged;
  from_it = drop-set records n exchanged h;
  after = drop-set-lt (n + 1) records n exchanged (omega arith);
}

-- a record is passed: the patch that leads back over it is the first of those on the other side
passed : (image other : List (List ℕ)) (patch exchanged : Kept) (from towards : List Kept) → AreBetween image other patch exchanged
    → LeadAlong image (patch ∷ from) → LeadAlong image towards → LeadAlong other from × LeadAlong other (exchanged ∷ towards)
passed image other patch exchanged from towards b leads on =
    (subst (λ (x : List (List ℕ)). LeadAlong x from) b.there (lead-tail from image patch leads), lead-more towards image other exchanged b.here b.is_exchanged on)

-- the same images come before it and after it
same-images : (image other : List (List ℕ)) (patch exchanged : Kept) (earlier later : List Kept) → AreBetween image other patch exchanged
    → reverse (images_along other earlier) ++ other ∷ images_along other (exchanged ∷ later) ≡ reverse (images_along image (patch ∷ earlier)) ++ image ∷ images_along image later
same-images image other patch exchanged earlier later b =
    ap (λ (list : List (List (List ℕ))). reverse (images_along other earlier) ++ other ∷ list) (images_along-one later other image exchanged b.here)
    ∙ sym (append_assoc (reverse (images_along other earlier)) (other ∷ []) (image ∷ images_along image later))
    ∙ ap (λ (list : List (List (List ℕ))). list ++ image ∷ images_along image later) (sym (before-more earlier other image patch b.there))

-- records with one replaced, which is on one side of the image or on the other
images-after : {records : List Kept} {n : ℕ} {patch : Kept} {earlier later : List Kept} (image : List (List ℕ)) → LiesBetween records n patch earlier later
    → images_of records image n ≡ reverse (images_along image earlier) ++ image ∷ images_along image (patch ∷ later)
unfolding images_of past
images-after image s = ap₂ (λ (ps qs : List Kept). reverse (images_along image ps) ++ image ∷ images_along image qs) s.before s.from_it

images-before : {records : List Kept} {n : ℕ} {patch : Kept} {earlier later : List Kept} (image : List (List ℕ)) → LiesBetween records n patch earlier later
    → images_of records image (n + 1) ≡ reverse (images_along image (patch ∷ earlier)) ++ image ∷ images_along image later
unfolding images_of past
images-before image s = ap₂ (λ (ps qs : List Kept). reverse (images_along image ps) ++ image ∷ images_along image qs) s.with_it s.after

-- and whether they lead away from the image
lead-after : {records : List Kept} {n : ℕ} {patch : Kept} {earlier later : List Kept} (image : List (List ℕ)) → LiesBetween records n patch earlier later
    → AreRecords records image n ↔ (LeadAlong image earlier × LeadAlong image (patch ∷ later))
unfolding AreRecords past
lead-after image s = (
  λ leads. (subst (LeadAlong image) s.before leads.0, subst (LeadAlong image) s.from_it leads.1),
  λ leads. (subst (LeadAlong image) (sym s.before) leads.0, subst (LeadAlong image) (sym s.from_it) leads.1),
)

lead-before : {records : List Kept} {n : ℕ} {patch : Kept} {earlier later : List Kept} (image : List (List ℕ)) → LiesBetween records n patch earlier later
    → AreRecords records image (n + 1) ↔ (LeadAlong image (patch ∷ earlier) × LeadAlong image later)
unfolding AreRecords past
lead-before image s = (
  λ leads. (subst (LeadAlong image) s.with_it leads.0, subst (LeadAlong image) s.after leads.1),
  λ leads. (subst (LeadAlong image) (sym s.with_it) leads.0, subst (LeadAlong image) (sym s.after) leads.1),
)

-- the cursor beside a record, and on its other side
abbrev pub IsBeside : ℕ → ℕ → ℕ → Type 0
IsBeside n done cursor = ((done ≡ n + 1) × (cursor ≡ n)) ⊎ ((done ≡ n) × (cursor ≡ n + 1))

-- a record beside the cursor is the difference to the image on its other side
pub beside-differs : (records : List Kept) (image : List (List ℕ)) (n done cursor : ℕ) (patch : Kept) → n < length records → patch ≡ get_or records n patch
    → IsBeside n done cursor → AreRecords records image done → patch ≡ changed_blocks (restored_image image patch) image
beside-differs records image n done cursor patch h is beside leads =
    let s = lies-between records n patch h is in
    elim beside [
      | inl back ↦ lead-head (past records n) image patch ((lead-before image s).0 (subst (AreRecords records image) back.0 leads)).0
      | inr on ↦ lead-head (drop (n + 1) records) image patch ((lead-after image s).0 (subst (AreRecords records image) on.0 leads)).1
    ]

-- the images are the same if the record beside the cursor is exchanged with the present image,
-- and the cursor steps over it
pub images-stepped : (records : List Kept) (image other : List (List ℕ)) (n done cursor : ℕ) (patch exchanged : Kept) → n < length records
    → patch ≡ get_or records n patch → AreBetween image other patch exchanged → IsBeside n done cursor
    → images_of (set records n exchanged) other cursor ≡ images_of records image done
images-stepped records image other n done cursor patch exchanged h is between beside =
    let first = lies-between records n patch h is in
    let second = lies-set records n exchanged h in
    let kept = set records n exchanged in
    elim beside [
      | inl back ↦
          ap (images_of kept other) back.1 ∙ images-after other second
          ∙ same-images image other patch exchanged (past records n) (drop (n + 1) records) between
          ∙ sym (ap (images_of records image) back.0 ∙ images-before image first)
      | inr on ↦
          ap (images_of kept other) on.1 ∙ images-before other second
          ∙ sym (same-images other image exchanged patch (past records n) (drop (n + 1) records) (turned between))
          ∙ sym (ap (images_of records image) on.0 ∙ images-after image first)
    ]

-- and the records lead away from the other image
pub records-stepped : (records : List Kept) (image other : List (List ℕ)) (n done cursor : ℕ) (patch exchanged : Kept) → n < length records
    → patch ≡ get_or records n patch → AreBetween image other patch exchanged → IsBeside n done cursor
    → AreRecords records image done → AreRecords (set records n exchanged) other cursor
records-stepped records image other n done cursor patch exchanged h is between beside leads =
    let first = lies-between records n patch h is in
    let second = lies-set records n exchanged h in
    elim beside [
      | inl back ↦
          let led = (lead-before image first).0 (subst (AreRecords records image) back.0 leads) in
          subst (AreRecords (set records n exchanged) other) (sym back.1)
          ((lead-after other second).1 (passed image other patch exchanged (past records n) (drop (n + 1) records) between led.0 led.1))
      | inr on ↦
          let led = (lead-after image first).0 (subst (AreRecords records image) on.0 leads) in
          let there = passed image other patch exchanged (drop (n + 1) records) (past records n) between led.1 led.0 in
          subst (AreRecords (set records n exchanged) other) (sym on.1) ((lead-before other second).1 (there.1, there.0))
    ]

-- an image that was put back is as long as the one before it
same_length : (patches : List Kept) (image : List (List ℕ)) (k : ℕ) → k < length patches
    → length (get_or (images_along image patches) k []) ≡ length (get_or (image ∷ images_along image patches) k [])
unfolding images_along
same_length [] image k h = absurd (omega arith)
same_length (patch ∷ patches) image zero h = length-restored_image patch image
same_length (patch ∷ patches) image (suc k) h = same_length patches (restored_image image patch) k (omega arith)

-- each record is the difference to the next image
difference_at : (patches : List Kept) (image : List (List ℕ)) (k : ℕ) → k < length patches → LeadAlong image patches
    → get_or patches k [] ≡ changed_blocks (get_or (images_along image patches) k []) (get_or (image ∷ images_along image patches) k [])
unfolding images_along LeadAlong
difference_at [] image k h leads = absurd (omega arith)
difference_at (patch ∷ patches) image zero h leads = leads.0
difference_at (patch ∷ patches) image (suc k) h leads = difference_at patches (restored_image image patch) k (omega arith) leads.1

-- the elements after the first
get_or-after : {X : Type 0} (x d : X) (xs : List X) (k : ℕ) → get_or (x ∷ xs) (k + 1) d ≡ get_or xs k d
get_or-after x d xs k = let e : k + 1 ≡ suc k = omega arith in ap (λ (i : ℕ). get_or (x ∷ xs) i d) e

-- images from the present one on
image-on : (records : List Kept) (image : List (List ℕ)) (done k n : ℕ) → done ≤ length records → done + k ≡ n
    → get_or (images_of records image done) n [] ≡ get_or (image ∷ images_along image (drop done records)) k []
unfolding images_of before past
image-on records image done k n within e =
    let front = before records image done in
    let long = length-before records image done within in
    let at : n ≡ length front + k = omega arith in
    ap (λ (i : ℕ). get_or (front ++ image ∷ images_along image (drop done records)) i []) at
    ∙ get_or-append-add front (image ∷ images_along image (drop done records)) k []

-- images from the present one back
image-back : (records : List Kept) (image : List (List ℕ)) (done k n : ℕ) → done ≤ length records → n + k ≡ done
    → get_or (images_of records image done) n [] ≡ get_or (image ∷ images_along image (past records done)) k []
unfolding images_of before past
image-back records image done k n within e =
    let rest = images_along image (drop done records) in
    let ending = image ∷ images_along image (past records done) in
    let long : length ending ≡ done + 1 =
    let l = length-images_along (past records done) image in
    let m = length-reverse (take done records) in
    let t = length-take-le done records within in omega arith in
    let turned : reverse ending ++ rest ≡ before records image done ++ image ∷ rest =
    ap (λ (xs : List (List (List ℕ))). xs ++ rest) (reverse-cons image (images_along image (past records done)))
    ∙ append_assoc (before records image done) (image ∷ []) rest in
    let far : n < length (reverse ending) = let l = length-reverse ending in omega arith in
    ap (λ (xs : List (List (List ℕ))). get_or xs n []) (sym turned)
    ∙ get_or_append_left (reverse ending) rest [] n far
    ∙ get_or-reverse ending n [] (omega arith)
    ∙ (let same : length ending - 1 - n ≡ k = omega arith in ap (λ (i : ℕ). get_or ending i []) same)

-- a record that is done holds what its command changed, with the bytes from before
pub record-done : (records : List Kept) (image : List (List ℕ)) (done n : ℕ) → done ≤ length records → n < done → AreRecords records image done
    → get_or records n [] ≡ changed_blocks (get_or (images_of records image done) n []) (get_or (images_of records image done) (n + 1) [])
unfolding AreRecords past
record-done records image done n within h leads =
    let k : ℕ = done - (n + 1) in
    let long = length-take-le done records within in
    let turned = length-reverse (take done records) in
    let read : get_or (past records done) k [] ≡ get_or records n [] =
    get_or-reverse (take done records) k [] (omega arith)
    ∙ (let same : length (take done records) - 1 - k ≡ n = omega arith in ap (λ (i : ℕ). get_or (take done records) i []) same)
    ∙ get_or-take done records n [] (omega arith) in
    sym read ∙ difference_at (past records done) image k (omega arith) leads.0
    ∙ ap₂ changed_blocks (sym (image-back records image done (k + 1) n within (omega arith) ∙ get_or-after image [] (images_along image (past records done)) k)) (sym (image-back records image done k (n + 1) within (omega arith)))

-- a record that is undone holds what its command changed, with the bytes from after
pub record-undone : (records : List Kept) (image : List (List ℕ)) (done n : ℕ) → done ≤ n → n < length records → AreRecords records image done
    → get_or records n [] ≡ changed_blocks (get_or (images_of records image done) (n + 1) []) (get_or (images_of records image done) n [])
unfolding AreRecords
record-undone records image done n h within leads =
    let k : ℕ = n - done in
    let long = length-drop done records in
    let same : done + k ≡ n = omega arith in
    let read : get_or (drop done records) k [] ≡ get_or records n [] =
    get_or-drop done records k [] ∙ ap (λ (i : ℕ). get_or records i []) same in
    sym read ∙ difference_at (drop done records) image k (omega arith) leads.1
    ∙ ap₂ changed_blocks (sym (image-on records image done (k + 1) (n + 1) (omega arith) (omega arith) ∙ get_or-after image [] (images_along image (drop done records)) k)) (sym (image-on records image done k n (omega arith) same))

-- the image after a record is as long as the one before
pub lengths-undone : (records : List Kept) (image : List (List ℕ)) (done n : ℕ) → done ≤ n → n < length records
    → length (get_or (images_of records image done) (n + 1) []) ≡ length (get_or (images_of records image done) n [])
lengths-undone records image done n h within =
    let k : ℕ = n - done in
    let long = length-drop done records in
    let same : done + k ≡ n = omega arith in
    ap length (image-on records image done (k + 1) (n + 1) (omega arith) (omega arith) ∙ get_or-after image [] (images_along image (drop done records)) k)
    ∙ same_length (drop done records) image k (omega arith)
    ∙ sym (ap length (image-on records image done k n (omega arith) same))

-- as many blocks differ as are in the patch between two images
pub length-changed_blocks : (image other : List (List ℕ)) → length (changed_blocks image other) ≡ length (differences image other)
unfolding changed_blocks
length-changed_blocks image other = length-map (differences image other) (λ (block : ℕ). (block, sector_at image block))

-- and as many the other way
pub length-changed_back : (image other : List (List ℕ)) → length image ≡ length other → length (changed_blocks other image) ≡ length (differences image other)
unfolding taken_blocks
length-changed_back image other long =
    ap length (sym (taken_blocks-changed_blocks image other long))
    ∙ length-map (changed_blocks image other) (λ (entry : ℕ × List ℕ). (entry.0, sector_at other entry.0))
    ∙ length-changed_blocks image other
