-- lists that lie one after another in one list
use Rattle.std.proofs.Common.{◌≡◌, ℕ, ◌+◌, ◌-◌, ◌<◌, ◌≤◌, zero, suc, List, [], ◌∷◌, ◌++◌, length, map, take, drop, get_or, set, refl, sym, ap, ap₂, ◌∙◌, arith, subst}
use Rattle.std.specs.List.{All}
use Rattle.std.proofs.lemmas.List.{append-nil, take_at, drop_at, drop_all, length-map, length-append, length-drop, length-take-le, drop-drop, drop-take, take_all, take-map, take-append-le, take-append-drop, take_more, drop-append-le, nil_from_length, get_or_default}
use Rattle.std.proofs.Math.Seq.{paste}
use Rattle.std.proofs.lemmas.List.Edits.{take-paste}
use Rattle.std.proofs.lemmas.List.Elements.{All-nil, All-push, All-take}
use Rattle.d64_image.specs.Patch.{Kept, IsPatch, HaveBlocks, RisesBetween, taken_blocks}
use Rattle.d64_image.specs.Image.{sector_at}
use Rattle.d64_image.specs.PatchList.{cut_blocks, total, blocks_before}

pub length-cut_blocks : (lens : List ℕ) (blocks : Kept) → length (cut_blocks lens blocks) ≡ length lens
unfolding cut_blocks
length-cut_blocks [] blocks = refl
length-cut_blocks (len ∷ lens) blocks = ap suc (length-cut_blocks lens (drop len blocks))

-- each list has as many elements as it is cut to
pub lengths-cut_blocks : (lens : List ℕ) (blocks : Kept) → total lens ≡ length blocks → map (λ (patch : Kept). length patch) (cut_blocks lens blocks) ≡ lens
unfolding cut_blocks total
lengths-cut_blocks [] blocks e = refl
lengths-cut_blocks (len ∷ lens) blocks e =
    let within : len ≤ length blocks = omega arith in
    let left = length-drop len blocks in
    let rest : total lens ≡ length (drop len blocks) = omega arith in
    ap₂ (λ (n : ℕ) (ns : List ℕ). n ∷ ns) (length-take-le len blocks within) (lengths-cut_blocks lens (drop len blocks) rest)

-- the first elements of the first of more
take-first : (n more : ℕ) (blocks : Kept) → n + more ≤ length blocks → take n (take (n + more) blocks) ≡ take n blocks
take-first n more blocks h =
    let long : length (take (n + more) blocks) ≡ n + more = length-take-le (n + more) blocks h in
    sym (take-append-le n (take (n + more) blocks) (drop (n + more) blocks) (omega arith))
    ∙ ap (take n) (take-append-drop (n + more) blocks)

pub total-take : (lens : List ℕ) (n : ℕ) → total (take n lens) ≤ total lens
unfolding total
total-take [] zero = omega arith
total-take [] (suc n) = omega arith
total-take (len ∷ lens) zero = omega arith
total-take (len ∷ lens) (suc n) = let rest = total-take lens n in omega arith

pub cut_blocks-take : (lens : List ℕ) (blocks : Kept) (n : ℕ) → total lens ≤ length blocks
    → cut_blocks (take n lens) (take (total (take n lens)) blocks) ≡ take n (cut_blocks lens blocks)
unfolding cut_blocks total
cut_blocks-take [] blocks zero h = refl
cut_blocks-take [] blocks (suc n) h = refl
cut_blocks-take (len ∷ lens) blocks zero h = refl
cut_blocks-take (len ∷ lens) blocks (suc n) h =
    let less = total-take lens n in
    let left = length-drop len blocks in
    ap₂ (λ (x : Kept) (xs : List Kept). x ∷ xs)
    (take-first len (total (take n lens)) blocks (omega arith))
    (ap (cut_blocks (take n lens)) (drop-take len (total (take n lens)) blocks) ∙ cut_blocks-take lens (drop len blocks) n (omega arith))

-- one of the lists, where it lies
pub get_or-cut_blocks : (lens : List ℕ) (blocks : Kept) (i : ℕ) → i < length lens
    → get_or (cut_blocks lens blocks) i [] ≡ take (get_or lens i 0) (drop (total (take i lens)) blocks)
unfolding cut_blocks total
get_or-cut_blocks [] blocks i h = absurd (omega arith)
get_or-cut_blocks (len ∷ lens) blocks zero h = refl
get_or-cut_blocks (len ∷ lens) blocks (suc i) h =
    get_or-cut_blocks lens (drop len blocks) i (omega arith)
    ∙ ap (take (get_or lens i 0)) (drop-drop (total (take i lens)) len blocks)

pub total-push : (lens : List ℕ) (len : ℕ) → total (lens ++ len ∷ []) ≡ total lens + len
unfolding total
total-push [] len = omega arith
total-push (one ∷ lens) len = let rest = total-push lens len in omega arith

-- one list more
pub cut_blocks-push : (lens : List ℕ) (blocks patch : Kept) → total lens ≡ length blocks
    → cut_blocks (lens ++ length patch ∷ []) (blocks ++ patch) ≡ cut_blocks lens blocks ++ patch ∷ []
unfolding cut_blocks total
cut_blocks-push [] blocks patch e =
    let none : blocks ≡ [] = nil_from_length blocks (sym e) in
    ap (λ (xs : Kept). take (length patch) (xs ++ patch) ∷ []) none
    ∙ ap (λ (xs : Kept). xs ∷ []) (take_all (length patch) patch (omega arith))
cut_blocks-push (len ∷ lens) blocks patch e =
    let within : len ≤ length blocks = omega arith in
    let left = length-drop len blocks in
    ap₂ (λ (x : Kept) (xs : List Kept). x ∷ xs)
    (take-append-le len blocks patch within)
    (ap (cut_blocks (lens ++ length patch ∷ [])) (drop-append-le len blocks patch within) ∙ cut_blocks-push lens (drop len blocks) patch (omega arith))

-- how many blocks come before a list
pub before-cut_blocks : (lens : List ℕ) (blocks : Kept) (n : ℕ) → total lens ≡ length blocks
    → total (map (λ (patch : Kept). length patch) (take n (cut_blocks lens blocks))) ≡ total (take n lens)
before-cut_blocks lens blocks n e =
    ap total (sym (take-map (λ (patch : Kept). length patch) n (cut_blocks lens blocks)) ∙ ap (take n) (lengths-cut_blocks lens blocks e))

-- all lists end within the blocks
pub within-cut : (lens : List ℕ) (n : ℕ) → n < length lens → total (take n lens) + get_or lens n 0 ≤ total lens
unfolding total
within-cut [] n h = absurd (omega arith)
within-cut (len ∷ lens) zero h = omega arith
within-cut (len ∷ lens) (suc n) h = let rest = within-cut lens n (omega arith) in omega arith

-- the lists are records: no block is left over, and each list is a patch
abbrev pub AreRecords : List ℕ → Kept → Type 0
AreRecords lens blocks = (total lens ≡ length blocks) × All IsPatch (cut_blocks lens blocks) × All HaveBlocks (cut_blocks lens blocks)

pub cut_blocks-none : (lens : List ℕ) (blocks : Kept) → lens ≡ [] → cut_blocks lens blocks ≡ []
unfolding cut_blocks
cut_blocks-none lens blocks e = ap (λ (ns : List ℕ). cut_blocks ns blocks) e

pub none-are_records : (lens : List ℕ) (blocks : Kept) → lens ≡ [] → blocks ≡ [] → AreRecords lens blocks
unfolding total
none-are_records lens blocks e f =
    let none = cut_blocks-none lens blocks e in (
      ap total e ∙ sym (ap (λ (xs : Kept). length xs) f),
      subst (All IsPatch) (sym none) (All-nil IsPatch),
      subst (All HaveBlocks) (sym none) (All-nil HaveBlocks),
    )

pub pushed-are_records : (lens : List ℕ) (blocks patch : Kept) → AreRecords lens blocks → IsPatch patch → HaveBlocks patch
    → AreRecords (lens ++ length patch ∷ []) (blocks ++ patch)
pushed-are_records lens blocks patch is rises bytes =
    let all = cut_blocks-push lens blocks patch is.0 in
    let sum = total-push lens (length patch) in
    let long = length-append blocks patch in
    let count = is.0 in (
      omega arith,
      subst (All IsPatch) (sym all) (All-push IsPatch (cut_blocks lens blocks) patch is.1 rises),
      subst (All HaveBlocks) (sym all) (All-push HaveBlocks (cut_blocks lens blocks) patch is.2 bytes),
    )

pub first-are_records : (lens : List ℕ) (blocks : Kept) (n : ℕ) → AreRecords lens blocks
    → AreRecords (take n lens) (take (total (take n lens)) blocks)
first-are_records lens blocks n is =
    let count = is.0 in
    let less = total-take lens n in
    let all = cut_blocks-take lens blocks n (omega arith) in (
      sym (length-take-le (total (take n lens)) blocks (omega arith)),
      subst (All IsPatch) (sym all) (All-take IsPatch n (cut_blocks lens blocks) is.1),
      subst (All HaveBlocks) (sym all) (All-take HaveBlocks n (cut_blocks lens blocks) is.2),
    )

-- blocks that rise are no more than there are between the two
pub rises-long : (patch : Kept) (low high : ℕ) → low ≤ high → RisesBetween low high patch → low + length patch ≤ high
unfolding RisesBetween
rises-long [] low high h r = omega arith
rises-long (entry ∷ patch) low high h r =
    let first = r.0 in
    let below = r.1 in
    let rest = rises-long patch (entry.0 + 1) high (omega arith) r.2 in
    omega arith

-- a record's blocks, where they lie
pub at-cut_blocks : (lens : List ℕ) (blocks : Kept) (records : List Kept) (number : ℕ) (d : ℕ) → total lens ≡ length blocks → cut_blocks lens blocks ≡ records
    → number < length records
    → take (get_or lens number d) (drop (blocks_before records number) blocks) ≡ get_or records number []
at-cut_blocks lens blocks records number d e is h =
    let within : number < length lens = omega (arith, length-cut_blocks lens blocks, ap (λ (xs : List Kept). length xs) is) in
    ap₂ (λ (n place : ℕ). take n (drop place blocks))
    (get_or_default lens number d 0 within)
    (ap (λ (xs : List Kept). blocks_before xs number) (sym is) ∙ before-cut_blocks lens blocks number e)
    ∙ sym (get_or-cut_blocks lens blocks number within)
    ∙ ap (λ (xs : List Kept). get_or xs number []) is

-- a record ends within the blocks
pub end-cut_blocks : (lens : List ℕ) (blocks : Kept) (records : List Kept) (number : ℕ) (d : ℕ) → total lens ≡ length blocks → cut_blocks lens blocks ≡ records
    → number < length records
    → blocks_before records number + get_or lens number d ≤ length blocks
end-cut_blocks lens blocks records number d e is h =
    let within : number < length lens = omega (arith, length-cut_blocks lens blocks, ap (λ (xs : List Kept). length xs) is) in
    let place : blocks_before records number ≡ total (take number lens) =
    ap (λ (xs : List Kept). blocks_before xs number) (sym is) ∙ before-cut_blocks lens blocks number e in
    let len = get_or_default lens number d 0 within in
    let ends = within-cut lens number within in
    omega arith

pub length-taken_blocks : (image : List (List ℕ)) (patch : Kept) → length (taken_blocks image patch) ≡ length patch
unfolding taken_blocks
length-taken_blocks image patch = length-map patch (λ (e : ℕ × List ℕ). (e.0, sector_at image e.0))

-- a list that is written over by one of its length
pub written_over : (new old : Kept) (len : ℕ) → length new ≡ len → len ≡ length old → take len (new ++ drop (length new) old) ≡ new
written_over new old len e f =
    let none : drop (length new) old ≡ [] = drop_all (length new) old (omega arith) in
    ap (λ (xs : Kept). take len (new ++ xs)) none ∙ ap (take len) (append-nil new) ∙ take_all len new (omega arith)

-- one of the lists replaced by another of its length
pub cut_blocks-set : (lens : List ℕ) (blocks new : Kept) (i : ℕ) → total lens ≤ length blocks → i < length lens → length new ≡ get_or lens i 0
    → cut_blocks lens (take (total (take i lens)) blocks ++ (new ++ drop (total (take i lens) + length new) blocks)) ≡ set (cut_blocks lens blocks) i new
unfolding cut_blocks total
cut_blocks-set [] blocks new i h lt e = absurd (omega arith)
cut_blocks-set (len ∷ lens) blocks new zero h lt e =
    let rest = drop (0 + length new) blocks in
    ap₂ (λ (x : Kept) (xs : List Kept). x ∷ xs)
    (take_at new rest len e)
    (ap (cut_blocks lens) (drop_at new rest len e ∙ ap (λ (n : ℕ). drop n blocks) (omega arith)))
cut_blocks-set (len ∷ lens) blocks new (suc i) h lt e =
    let before = total (take i lens) in
    let less = total-take lens i in
    let long : length (take (len + before) blocks) ≡ len + before = length-take-le (len + before) blocks (omega arith) in
    let after = new ++ drop (len + before + length new) blocks in
    let left = length-drop len blocks in
    ap₂ (λ (x : Kept) (xs : List Kept). x ∷ xs)
    (take-append-le len (take (len + before) blocks) after (omega arith) ∙ take-first len before blocks (omega arith))
    (ap (cut_blocks lens)
    (drop-append-le len (take (len + before) blocks) after (omega arith)
    ∙ ap₂ (λ (xs : Kept) (n : ℕ). xs ++ (new ++ drop n blocks)) (drop-take len before blocks) (omega arith)
    ∙ ap (λ (xs : Kept). take before (drop len blocks) ++ (new ++ xs)) (sym (drop-drop (before + length new) len blocks)))
    ∙ cut_blocks-set lens (drop len blocks) new i (omega arith) (omega arith) e)

-- a patch of the list is exchanged: what the list is then
pub swapped-is : (lens : List ℕ) (blocks : Kept) (records : List Kept) (image : List (List ℕ)) (number d : ℕ) → total lens ≡ length blocks → cut_blocks lens blocks ≡ records
    → number < length records
    → cut_blocks lens (take (blocks_before records number) blocks ++ (taken_blocks image (take (get_or lens number d) (drop (blocks_before records number) blocks))
    ++ drop (get_or lens number d) (drop (blocks_before records number) blocks))) ≡ set records number (taken_blocks image (get_or records number []))
swapped-is lens blocks records image number d e is h =
    let within : number < length lens = omega (arith, length-cut_blocks lens blocks, ap (λ (xs : List Kept). length xs) is) in
    let place : blocks_before records number ≡ total (take number lens) =
    ap (λ (xs : List Kept). blocks_before xs number) (sym is) ∙ before-cut_blocks lens blocks number e in
    let len : get_or lens number d ≡ get_or lens number 0 = get_or_default lens number d 0 within in
    let ends = within-cut lens number within in
    let old : Kept = take (get_or lens number 0) (drop (total (take number lens)) blocks) in
    let left = length-drop (total (take number lens)) blocks in
    let long : length (taken_blocks image old) ≡ get_or lens number 0 =
    length-taken_blocks image old ∙ length-take-le (get_or lens number 0) (drop (total (take number lens)) blocks) (omega arith) in
    ap₂ (λ (at n : ℕ). cut_blocks lens (take at blocks ++ (taken_blocks image (take n (drop at blocks)) ++ drop n (drop at blocks)))) place len
    ∙ ap (λ (xs : Kept). cut_blocks lens (take (total (take number lens)) blocks ++ (taken_blocks image old ++ xs)))
    (drop-drop (get_or lens number 0) (total (take number lens)) blocks
    ∙ ap (λ (n : ℕ). drop (total (take number lens) + n) blocks) (sym long))
    ∙ cut_blocks-set lens blocks (taken_blocks image old) number (omega arith) within long
    ∙ ap₂ (λ (xs : List Kept) (x : Kept). set xs number (taken_blocks image x)) is
    (sym (get_or-cut_blocks lens blocks number within) ∙ ap (λ (xs : List Kept). get_or xs number []) is)

-- and it has as many blocks
pub swapped-long : (lens : List ℕ) (blocks : Kept) (records : List Kept) (image : List (List ℕ)) (number d : ℕ) → total lens ≡ length blocks → cut_blocks lens blocks ≡ records
    → number < length records
    → length (take (blocks_before records number) blocks ++ (taken_blocks image (take (get_or lens number d) (drop (blocks_before records number) blocks))
    ++ drop (get_or lens number d) (drop (blocks_before records number) blocks))) ≡ length blocks
swapped-long lens blocks records image number d e is h =
    let ends = end-cut_blocks lens blocks records number d e is h in
    let place = blocks_before records number in
    let len = get_or lens number d in
    let rest = drop place blocks in
    let left = length-drop place blocks in
    let first = length-take-le place blocks (omega arith) in
    let middle = length-taken_blocks image (take len rest) ∙ length-take-le len rest (omega arith) in
    let last = length-drop len rest in
    let inner = length-append (taken_blocks image (take len rest)) (drop len rest) in
    let outer = length-append (take place blocks) (taken_blocks image (take len rest) ++ drop len rest) in
    omega arith

-- the two parts into which a list is divided
pub parts-are : (whole front back blocks : Kept) (len place : ℕ) → whole ≡ blocks → whole ≡ front ++ back → length front ≡ len → len ≡ place
    → (front ≡ take place blocks) × (back ≡ drop place blocks)
parts-are whole front back blocks len place is value e f = (
  sym (take_at front back place (e ∙ f)) ∙ ap (take place) (sym value ∙ is),
  sym (drop_at front back place (e ∙ f)) ∙ ap (drop place) (sym value ∙ is),
)

-- how many blocks a patch has
pub length-at : (lens : List ℕ) (blocks : Kept) (records : List Kept) (number d : ℕ) → total lens ≡ length blocks → cut_blocks lens blocks ≡ records
    → number < length records
    → get_or lens number d ≡ length (get_or records number [])
length-at lens blocks records number d e is h =
    let within : number < length lens = omega (arith, length-cut_blocks lens blocks, ap (λ (xs : List Kept). length xs) is) in
    let ends = within-cut lens number within in
    let left = length-drop (total (take number lens)) blocks in
    get_or_default lens number d 0 within
    ∙ sym (length-take-le (get_or lens number 0) (drop (total (take number lens)) blocks) (omega arith))
    ∙ ap (λ (xs : Kept). length xs) (sym (get_or-cut_blocks lens blocks number within) ∙ ap (λ (xs : List Kept). get_or xs number []) is)

-- the sum with one number more
pub total-more : (lens : List ℕ) (i d : ℕ) → i < length lens → total (take (i + 1) lens) ≡ total (take i lens) + get_or lens i d
total-more lens i d h = ap total (take_more lens i d h) ∙ total-push (take i lens) (get_or lens i d)

-- what was added at the end, moved to a place before it, and what lies after it forgotten
pub moved_front : (old new all : Kept) (place from : ℕ) (to : ℕ) → place ≤ length old → from ≡ length old → to ≡ length all → all ≡ old ++ new
    → take (place + length new) (paste all place (drop from all) (to - from)) ≡ take place old ++ new
moved_front old new all place from to h start end joined =
    let long = ap (λ (xs : Kept). length xs) joined ∙ length-append old new in
    let moved : drop from all ≡ new = ap (drop from) joined ∙ drop_at old new from (sym start) in
    let count : to - from ≡ length new = omega arith in
    ap (λ (n : ℕ). take (place + n) (paste all place (drop from all) (to - from))) (sym count)
    ∙ take-paste all place (drop from all) (to - from) (omega arith) (omega (arith, ap (λ (xs : Kept). length xs) moved))
    ∙ ap₂ (λ (front back : Kept). front ++ back)
    (ap (take place) joined ∙ take-append-le place old new h)
    (ap₂ (λ (n : ℕ) (xs : Kept). take n xs) count moved ∙ take_all (length new) new (omega arith))

-- how many blocks come before the patch after one
pub before-next : (lens : List ℕ) (blocks : Kept) (patches : List Kept) (n d : ℕ) → total lens ≡ length blocks → cut_blocks lens blocks ≡ patches → n < length patches
    → blocks_before patches (n + 1) ≡ blocks_before patches n + get_or lens n d
before-next lens blocks patches n d e is h =
    let within : n < length lens = omega (arith, length-cut_blocks lens blocks, ap (λ (xs : List Kept). length xs) is) in
    let here : blocks_before patches n ≡ total (take n lens) = ap (λ (all : List Kept). blocks_before all n) (sym is) ∙ before-cut_blocks lens blocks n e in
    let there : blocks_before patches (n + 1) ≡ total (take (n + 1) lens) = ap (λ (all : List Kept). blocks_before all (n + 1)) (sym is) ∙ before-cut_blocks lens blocks (n + 1) e in
    let more = total-more lens n d within in
    omega arith

-- as many blocks come before each patch when one is exchanged with an image
pub before-swapped : (patches : List Kept) (image : List (List ℕ)) (n m : ℕ) → n < length patches
    → blocks_before (set patches n (taken_blocks image (get_or patches n []))) m ≡ blocks_before patches m
unfolding total
before-swapped [] image n m h = absurd (omega arith)
before-swapped (patch ∷ patches) image n zero h = refl
before-swapped (patch ∷ patches) image zero (suc m) h =
    ap (λ (k : ℕ). k + total (map (λ (p : Kept). length p) (take m patches))) (length-taken_blocks image patch)
before-swapped (patch ∷ patches) image (suc n) (suc m) h =
    ap (λ (k : ℕ). length patch + k) (before-swapped patches image n m (omega arith))
