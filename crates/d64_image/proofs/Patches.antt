-- patches: what a write, an exchange and a trim leave, and that each can be put back
use Rattle.std.proofs.Common.{◌≡◌, ◌≢◌, ℕ, zero, suc, ◌+◌, ◌<◌, ◌≤◌, ◌==◌, Bool, true, false, cond, not, ◌||◌, List, [], ◌∷◌, ◌++◌, length, take, drop, map, get_or, nat_lt, nat_eq, refl, sym, ap, ap₂, ◌∙◌, subst, inl, inr, arith, append_assoc}
use Rattle.std.specs.List.{insert, filter, count_by, range_with_len}
use Rattle.std.specs.Cmp.Lexicographic.{pointwise, bytes_decides}
use Rattle.std.proofs.Math.ListN.{set}
use Rattle.std.proofs.lemmas.Bool.{cases_eq, cases_lt, cases_Bool}
use Rattle.std.proofs.lemmas.Bool.Decides.{nat_tests}
use Rattle.std.proofs.lemmas.List.{length-set, get_or-set_same, get_or-set_other, set-set, set_comm, set-get_or, set_at, get_or_at, ext_get_or, take_all, drop_all, append-nil, length-map, length-take-le, take-append-drop, take_more, drop_more, map-append}
use Rattle.std.proofs.lemmas.Simd.{map-map}
use Rattle.std.proofs.lemmas.List.Sums.{sum_by-cons, fold-append}
use Rattle.d64_image.specs.Image.{sector_at, with_sector, differences}
use Rattle.d64_image.specs.Patch.{Kept, RisesBetween, restored_image, is_kept, with_kept, taken_blocks, trimmed_blocks, changed_blocks}

-- a block is not kept
pub Absent : ℕ → Kept → Type 0
Absent block [] = Unit {0}
Absent block (entry ∷ patch) = (block ≢ entry.0) × Absent block patch

-- a test of a list that fails, fails at the first and at the rest
fails : (x y : Bool) → (x || y) ≡ false → (x ≡ false) × (y ≡ false)
fails false y h = (refl, h)
fails true y h = absurd (cc)

-- numbers that the test finds different
different : (a b : ℕ) → (a == b) ≡ false → b ≢ a
different a b h e = grind (arith, nat_tests)

-- the test at equal numbers
same : (a b : ℕ) → a ≢ b → (a == b) ≡ false
same a b n = grind (arith, nat_tests)

-- a block that isn't kept is absent
pub absent : (patch : Kept) (block : ℕ) → is_kept patch block ≡ false → Absent block patch
unfolding Absent
absent [] block h = tt
absent (entry ∷ patch) block h =
    let f = fails (entry.0 == block) (is_kept patch block) h in
    (different entry.0 block f.0, absent patch block f.1)

-- a block before the kept ones is absent
absent-below : (patch : Kept) (low high block : ℕ) → RisesBetween low high patch → block < low → Absent block patch
unfolding Absent RisesBetween
absent-below [] low high block r h = tt
absent-below (entry ∷ patch) low high block r h =
    (let f = r.0 in λ e. absurd (omega arith), let f = r.0 in absent-below patch (entry.0 + 1) high block r.2 (omega arith))

-- a kept block is at least the first that may be kept
at_least : (patch : Kept) (low high place : ℕ) (d : ℕ × List ℕ) → RisesBetween low high patch → place < length patch → low ≤ (get_or patch place d).0
unfolding RisesBetween
at_least [] low high place d r h = absurd (omega arith)
at_least (entry ∷ patch) low high zero d r h = r.0
at_least (entry ∷ patch) low high (suc place) d r h =
    let f = at_least patch (entry.0 + 1) high place d r.2 (omega arith) in
    let g = r.0 in
    omega arith

-- a kept block lies below the last that may be kept
pub kept_below : (patch : Kept) (low high place : ℕ) (d : ℕ × List ℕ) → RisesBetween low high patch → place < length patch → (get_or patch place d).0 < high
unfolding RisesBetween
kept_below [] low high place d r h = absurd (omega arith)
kept_below (entry ∷ patch) low high zero d r h = r.1
kept_below (entry ∷ patch) low high (suc place) d r h = kept_below patch (entry.0 + 1) high place d r.2 (omega arith)

-- a kept block is absent from those before it
absent-earlier : (patch : Kept) (low high place : ℕ) (d : ℕ × List ℕ) → RisesBetween low high patch → place < length patch
    → Absent (get_or patch place d).0 (take place patch)
unfolding Absent RisesBetween
absent-earlier [] low high place d r h = absurd (omega arith)
absent-earlier (entry ∷ patch) low high zero d r h = tt
absent-earlier (entry ∷ patch) low high (suc place) d r h =
    let f = at_least patch (entry.0 + 1) high place d r.2 (omega arith) in
    (λ e. absurd (omega arith), absent-earlier patch (entry.0 + 1) high place d r.2 (omega arith))

-- a block that is absent is absent from the first ones too
absent-take : (patch : Kept) (block n : ℕ) → Absent block patch → Absent block (take n patch)
unfolding Absent
absent-take [] block zero a = tt
absent-take [] block (suc n) a = tt
absent-take (entry ∷ patch) block zero a = tt
absent-take (entry ∷ patch) block (suc n) a = (a.0, absent-take patch block n a.1)

-- two patches put back one after the other
restored_image-append : (image : List (List ℕ)) (first second : Kept) → restored_image image (first ++ second) ≡ restored_image (restored_image image first) second
unfolding restored_image
restored_image-append image first second = fold-append (λ (held : List (List ℕ)) (entry : ℕ × List ℕ). with_sector held entry.0 entry.1) image first second

pub length-restored_image : (patch : Kept) (image : List (List ℕ)) → length (restored_image image patch) ≡ length image
unfolding restored_image
length-restored_image [] image = refl
length-restored_image (entry ∷ patch) image = length-restored_image patch (set image entry.0 entry.1) ∙ length-set image entry.0 entry.1

-- an absent block stays
restored_image-absent : (patch : Kept) (image : List (List ℕ)) (block : ℕ) → Absent block patch → sector_at (restored_image image patch) block ≡ sector_at image block
unfolding restored_image Absent
restored_image-absent [] image block a = refl
restored_image-absent (entry ∷ patch) image block a =
    restored_image-absent patch (set image entry.0 entry.1) block a.1 ∙ get_or-set_other image entry.0 block entry.1 [] a.0

-- an absent block may be written before or after
restored_image-set_absent : (patch : Kept) (image : List (List ℕ)) (block : ℕ) (bytes : List ℕ) → Absent block patch
    → restored_image (set image block bytes) patch ≡ set (restored_image image patch) block bytes
unfolding restored_image Absent
restored_image-set_absent [] image block bytes a = refl
restored_image-set_absent (entry ∷ patch) image block bytes a =
    ap (λ (held : List (List ℕ)). restored_image held patch) (set_comm image block entry.0 bytes entry.1 a.0)
    ∙ restored_image-set_absent patch (set image entry.0 entry.1) block bytes a.1

-- what is written to a kept block doesn't show once it is put back
pub restored_image-set_kept : (patch : Kept) (image : List (List ℕ)) (block : ℕ) (bytes : List ℕ) → is_kept patch block ≡ true
    → restored_image (set image block bytes) patch ≡ restored_image image patch
unfolding restored_image
restored_image-set_kept [] image block bytes h = absurd (cc)
restored_image-set_kept (entry ∷ patch) image block bytes h = elim (cases_eq block entry.0) [
  | inl e ↦ ap (λ (held : List (List ℕ)). restored_image held patch)
      (ap (λ (n : ℕ). set (set image n bytes) entry.0 entry.1) e ∙ set-set image entry.0 bytes entry.1)
  | inr n ↦
      let rest : is_kept patch block ≡ true = ap (λ (t : Bool). t || is_kept patch block) (sym (same entry.0 block (λ e. n (sym e)))) ∙ h in
      ap (λ (held : List (List ℕ)). restored_image held patch) (set_comm image block entry.0 bytes entry.1 n)
      ∙ restored_image-set_kept patch (set image entry.0 entry.1) block bytes rest
]

-- an absent block is written, and its bytes from before are kept anywhere
pub restored_image-set_insert : (patch : Kept) (image : List (List ℕ)) (block place : ℕ) (bytes : List ℕ) → Absent block patch
    → restored_image (set image block bytes) (insert patch place (block, sector_at image block)) ≡ restored_image image patch
unfolding restored_image
restored_image-set_insert patch image block place bytes a =
    let first = take place patch in
    let held = restored_image image first in
    let before = absent-take patch block place a in
    let stays : sector_at held block ≡ sector_at image block = restored_image-absent first image block before in
    restored_image-append (set image block bytes) first ((block, sector_at image block) ∷ drop place patch)
    ∙ ap (λ (image' : List (List ℕ)). restored_image (set image' block (sector_at image block)) (drop place patch)) (restored_image-set_absent first image block bytes before)
    ∙ ap (λ (image' : List (List ℕ)). restored_image image' (drop place patch))
    (set-set held block bytes (sector_at image block) ∙ ap (λ (b : List ℕ). set held block b) (sym stays) ∙ set-get_or held block [])
    ∙ sym (restored_image-append image first (drop place patch))
    ∙ ap (restored_image image) (take-append-drop place patch)

-- the kept blocks below one, counted from the first
counted : (entry : ℕ × List ℕ) (patch : Kept) (block : ℕ)
    → count_by (λ e. nat_lt e.0 block) (entry ∷ patch) ≡ cond (nat_lt entry.0 block) 1 0 + count_by (λ e. nat_lt e.0 block) patch
counted entry patch block = sum_by-cons (λ (e : ℕ × List ℕ). cond (nat_lt e.0 block) 1 0) entry patch

-- no kept block is below the first
none_below : (patch : Kept) (low high block : ℕ) → RisesBetween low high patch → block ≤ low → count_by (λ e. nat_lt e.0 block) patch ≡ 0
unfolding RisesBetween
none_below [] low high block r h = refl
none_below (entry ∷ patch) low high block r h =
    let f = r.0 in
    let rest = none_below patch (entry.0 + 1) high block r.2 (omega arith) in
    let test : nat_lt entry.0 block ≡ false = grind (arith, nat_tests) in
    counted entry patch block ∙ ap₂ (λ (t : Bool) (n : ℕ). cond t 1 0 + n) test rest

-- a block that is added in its place leaves the patch ascending
pub rises-insert : (patch : Kept) (low high block place : ℕ) (bytes : List ℕ) → RisesBetween low high patch → Absent block patch
    → low ≤ block → block < high → place ≡ count_by (λ e. nat_lt e.0 block) patch
    → RisesBetween low high (insert patch place (block, bytes))
unfolding RisesBetween Absent
rises-insert [] low high block zero bytes r a h i e = (h, i, tt)
rises-insert [] low high block (suc place) bytes r a h i e = (h, i, tt)
rises-insert (entry ∷ patch) low high block zero bytes r a h i e =
    let n = counted entry patch block in
    let d = a.0 in
    let above : block < entry.0 = grind (arith, nat_tests) in
    (h, i, (omega arith, r.1, r.2))
rises-insert (entry ∷ patch) low high block (suc place) bytes r a h i e =
    let n = counted entry patch block in
    let d = a.0 in
    elim (cases_lt entry.0 block) [
      | inl below ↦
          let test : nat_lt entry.0 block ≡ true = grind (arith, nat_tests) in
          let one : count_by (λ (x : ℕ × List ℕ). nat_lt x.0 block) (entry ∷ patch) ≡ 1 + count_by (λ (x : ℕ × List ℕ). nat_lt x.0 block) patch =
          n ∙ ap (λ (t : Bool). cond t 1 0 + count_by (λ (x : ℕ × List ℕ). nat_lt x.0 block) patch) test in
          (r.0, r.1, rises-insert patch (entry.0 + 1) high block place bytes r.2 a.1 (omega arith) i (omega arith))
      | inr above ↦
          let none = none_below (entry ∷ patch) entry.0 high block (omega arith, r.1, r.2) above in
          absurd (omega arith)
    ]

-- the image after one block more is put back
pub restored_image-more : (patch : Kept) (image : List (List ℕ)) (place : ℕ) (d : ℕ × List ℕ) → place < length patch
    → restored_image image (take (place + 1) patch) ≡ set (restored_image image (take place patch)) (get_or patch place d).0 (get_or patch place d).1
unfolding restored_image
restored_image-more patch image place d h = ap (restored_image image) (take_more patch place d h) ∙ restored_image-append image (take place patch) (get_or patch place d ∷ [])

-- the block to be put back next is as it was
pub back-next : (patch : Kept) (image : List (List ℕ)) (low high place : ℕ) (d : ℕ × List ℕ) → RisesBetween low high patch → place < length patch
    → sector_at (restored_image image (take place patch)) (get_or patch place d).0 ≡ sector_at image (get_or patch place d).0
back-next patch image low high place d r h =
    restored_image-absent (take place patch) image (get_or patch place d).0 (absent-earlier patch low high place d r h)

-- the patch after one block more is exchanged
pub taken_blocks-more : (patch : Kept) (image : List (List ℕ)) (place : ℕ) (d : ℕ × List ℕ) → place < length patch
    → set (taken_blocks image (take place patch) ++ drop place patch) place ((get_or patch place d).0, sector_at image (get_or patch place d).0)
    ≡ taken_blocks image (take (place + 1) patch) ++ drop (place + 1) patch
unfolding taken_blocks
taken_blocks-more patch image place d h =
    let entry : ℕ × List ℕ = get_or patch place d in
    let take_one : (ℕ × List ℕ) → (ℕ × List ℕ) = λ (e : ℕ × List ℕ). (e.0, sector_at image e.0) in
    let first : Kept = map take_one (take place patch) in
    let long : length first ≡ place = length-map (take place patch) take_one ∙ length-take-le place patch (omega arith) in
    ap (λ (rest : Kept). set (first ++ rest) place (take_one entry)) (drop_more patch place d h)
    ∙ set_at first entry (drop (place + 1) patch) (take_one entry) place long
    ∙ sym (ap (λ (front : Kept). map take_one front ++ drop (place + 1) patch) (take_more patch place d h)
    ∙ ap (λ (front : Kept). front ++ drop (place + 1) patch) (map-append take_one (take place patch) (entry ∷ []))
    ∙ append_assoc first (take_one entry ∷ []) (drop (place + 1) patch))

-- the bytes that were taken put the image back
pub restored_image-taken_blocks : (patch : Kept) (image : List (List ℕ)) (low high : ℕ) → RisesBetween low high patch → restored_image (restored_image image patch) (taken_blocks image patch) ≡ image
unfolding restored_image taken_blocks RisesBetween
restored_image-taken_blocks [] image low high r = refl
restored_image-taken_blocks (entry ∷ patch) image low high r =
    let away = absent-below patch (entry.0 + 1) high entry.0 r.2 (omega arith) in
    let held = restored_image image patch in
    ap (λ (i : List (List ℕ)). restored_image (set i entry.0 (sector_at image entry.0)) (taken_blocks image patch)) (restored_image-set_absent patch image entry.0 entry.1 away)
    ∙ ap (λ (i : List (List ℕ)). restored_image i (taken_blocks image patch))
    (set-set held entry.0 entry.1 (sector_at image entry.0) ∙ ap (λ (b : List ℕ). set held entry.0 b) (sym (restored_image-absent patch image entry.0 away)) ∙ set-get_or held entry.0 [])
    ∙ restored_image-taken_blocks patch image (entry.0 + 1) high r.2

-- whether two blocks are the same doesn't depend on their order
pointwise_comm : (xs ys : List ℕ) → pointwise nat_eq xs ys ≡ pointwise nat_eq ys xs
pointwise_comm xs ys = elim (cases_Bool (pointwise nat_eq xs ys)) [
  | inl t ↦ t ∙ sym ((bytes_decides ys xs).1 (sym ((bytes_decides xs ys).0 t)))
  | inr f ↦ elim (cases_Bool (pointwise nat_eq ys xs)) [
    | inl t ↦ (bytes_decides xs ys).1 (sym ((bytes_decides ys xs).0 t)) ∙ sym t
    | inr g ↦ f ∙ sym g
  ]
]

-- tests that agree keep the same elements
filter-alike : (p q : ℕ → Bool) → ((x : ℕ) → p x ≡ q x) → (xs : List ℕ) → filter p xs ≡ filter q xs
filter-alike p q e [] = refl
filter-alike p q e (x ∷ xs) = ap₂ (λ (t : Bool) (rest : List ℕ). cond t (x ∷ rest) rest) (e x) (filter-alike p q e xs)

-- the blocks in which two images differ don't depend on their order
differences_comm : (image other : List (List ℕ)) → length image ≡ length other → differences image other ≡ differences other image
differences_comm image other long =
    filter-alike (λ (b : ℕ). not (pointwise nat_eq (sector_at image b) (sector_at other b))) (λ (b : ℕ). not (pointwise nat_eq (sector_at other b) (sector_at image b)))
    (λ (b : ℕ). ap not (pointwise_comm (sector_at image b) (sector_at other b))) (range_with_len 0 (length image))
    ∙ ap (λ (n : ℕ). filter (λ (b : ℕ). not (pointwise nat_eq (sector_at other b) (sector_at image b))) (range_with_len 0 n)) long

-- the bytes from after a change, taken at the changed blocks, are the changes back
pub taken_blocks-changed_blocks : (before after : List (List ℕ)) → length before ≡ length after → taken_blocks after (changed_blocks before after) ≡ changed_blocks after before
unfolding taken_blocks changed_blocks
taken_blocks-changed_blocks before after long =
    map-map (λ (e : ℕ × List ℕ). (e.0, sector_at after e.0)) (λ (b : ℕ). (b, sector_at before b)) (differences before after)
    ∙ ap (map (λ (b : ℕ). (b, sector_at after b))) (differences_comm before after long)

-- two images have the same bytes in the kept blocks
Alike : List (List ℕ) → List (List ℕ) → Kept → Type 0
Alike image other [] = Unit {0}
Alike image other (entry ∷ patch) = (sector_at image entry.0 ≡ sector_at other entry.0) × Alike image other patch

alike-self : (patch : Kept) (image : List (List ℕ)) → Alike image image patch
unfolding Alike
alike-self [] image = tt
alike-self (entry ∷ patch) image = (refl, alike-self patch image)

alike-set : (patch : Kept) (image other : List (List ℕ)) (block : ℕ) (bytes : List ℕ) → Absent block patch → Alike image other patch
    → Alike (set image block bytes) other patch
unfolding Alike Absent
alike-set [] image other block bytes a k = tt
alike-set (entry ∷ patch) image other block bytes a k =
    (get_or-set_other image block entry.0 bytes [] (λ e. a.0 (sym e)) ∙ k.0, alike-set patch image other block bytes a.1 k.1)

-- what a trim forgets isn't missed
trimmed_blocks-alike : (patch : Kept) (image other : List (List ℕ)) (low high : ℕ) → RisesBetween low high patch → Alike image other patch
    → restored_image image (trimmed_blocks other patch) ≡ restored_image image patch
unfolding restored_image trimmed_blocks RisesBetween Alike
trimmed_blocks-alike [] image other low high r k = refl
trimmed_blocks-alike (entry ∷ patch) image other low high r k = elim (cases_Bool (pointwise nat_eq entry.1 (sector_at other entry.0))) [
  | inl t ↦
      let same : entry.1 ≡ sector_at image entry.0 = (bytes_decides entry.1 (sector_at other entry.0)).0 t ∙ sym k.0 in
      ap (λ (u : Bool). restored_image image (cond (not u) (entry ∷ trimmed_blocks other patch) (trimmed_blocks other patch))) t
      ∙ trimmed_blocks-alike patch image other (entry.0 + 1) high r.2 k.1
      ∙ ap (λ (i : List (List ℕ)). restored_image i patch) (sym (ap (λ (b : List ℕ). set image entry.0 b) same ∙ set-get_or image entry.0 []))
  | inr f ↦
      ap (λ (u : Bool). restored_image image (cond (not u) (entry ∷ trimmed_blocks other patch) (trimmed_blocks other patch))) f
      ∙ trimmed_blocks-alike patch (set image entry.0 entry.1) other (entry.0 + 1) high r.2
      (alike-set patch image other entry.0 entry.1 (absent-below patch (entry.0 + 1) high entry.0 r.2 (omega arith)) k.1)
]

pub restored_image-trimmed_blocks : (patch : Kept) (image : List (List ℕ)) (low high : ℕ) → RisesBetween low high patch → restored_image image (trimmed_blocks image patch) ≡ restored_image image patch
restored_image-trimmed_blocks patch image low high r = trimmed_blocks-alike patch image image low high r (alike-self patch image)

-- an image has the kept bytes in the kept blocks
Held : List (List ℕ) → Kept → Type 0
Held image [] = Unit {0}
Held image (entry ∷ patch) = (sector_at image entry.0 ≡ entry.1) × Held image patch

held-restored_image : (patch : Kept) (image : List (List ℕ)) (low high : ℕ) → RisesBetween low high patch → high ≤ length image → Held (restored_image image patch) patch
unfolding Held restored_image RisesBetween
held-restored_image [] image low high r h = tt
held-restored_image (entry ∷ patch) image low high r h =
    let within : entry.0 < length image = let f = r.1 in omega arith in
    let long = length-set image entry.0 entry.1 in (
      restored_image-absent patch (set image entry.0 entry.1) entry.0 (absent-below patch (entry.0 + 1) high entry.0 r.2 (omega arith))
          ∙ get_or-set_same image entry.0 entry.1 [] within,
      held-restored_image patch (set image entry.0 entry.1) (entry.0 + 1) high r.2 (omega arith),
    )

-- a block with its bytes
with_bytes : List (List ℕ) → ℕ → ℕ × List ℕ
with_bytes image block = (block, sector_at image block)

-- an entry that is kept or forgotten as its block differs or not
both : (image : List (List ℕ)) (t u : Bool) (entry : ℕ × List ℕ) (block : ℕ) (rest : Kept) (blocks : List ℕ)
    → t ≡ u → entry ≡ with_bytes image block → rest ≡ map (with_bytes image) blocks
    → cond t (entry ∷ rest) rest ≡ map (with_bytes image) (cond u (block ∷ blocks) blocks)
both image t true entry block rest blocks e f h = ap (λ (x : Bool). cond x (entry ∷ rest) rest) e ∙ ap₂ (λ (x : ℕ × List ℕ) (xs : Kept). x ∷ xs) f h
both image t false entry block rest blocks e f h = ap (λ (x : Bool). cond x (entry ∷ rest) rest) e ∙ h

-- a block that doesn't differ
skipped : (image : List (List ℕ)) (u : Bool) (block : ℕ) (rest : Kept) (blocks : List ℕ)
    → u ≡ false → rest ≡ map (with_bytes image) blocks → rest ≡ map (with_bytes image) (cond u (block ∷ blocks) blocks)
skipped image true block rest blocks e h = absurd (cc)
skipped image false block rest blocks e h = h

-- the test by which a block is among the differences
differ : List (List ℕ) → List (List ℕ) → ℕ → Bool
differ image other block = not (pointwise nat_eq (sector_at image block) (sector_at other block))

differ-opens : (image other : List (List ℕ)) (block : ℕ) → differ image other block ≡ not (pointwise nat_eq (sector_at image block) (sector_at other block))
unfolding differ
differ-opens image other block = refl

-- an entry of that block and those bytes
pair_opens : (image : List (List ℕ)) (entry : ℕ × List ℕ) (block : ℕ) → entry.0 ≡ block → entry.1 ≡ sector_at image block → entry ≡ with_bytes image block
unfolding with_bytes
pair_opens image entry block e f = ap₂ (λ (b : ℕ) (s : List ℕ). let pair : ℕ × List ℕ = (b, s) in pair) e f

differ-not : (image other : List (List ℕ)) (block : ℕ) → sector_at image block ≡ sector_at other block → differ image other block ≡ false
unfolding differ
differ-not image other block e = ap not ((bytes_decides (sector_at image block) (sector_at other block)).1 e)

-- from one block on, what a trim leaves are the blocks that differ
trimmed_blocks-from : (n low high : ℕ) (patch : Kept) (before after : List (List ℕ)) → high ≡ low + n → RisesBetween low high patch → Held before patch
    → ((b : ℕ) → low ≤ b → Absent b patch → sector_at before b ≡ sector_at after b)
    → trimmed_blocks after patch ≡ map (with_bytes before) (filter (differ before after) (range_with_len low n))
unfolding trimmed_blocks RisesBetween Held Absent
trimmed_blocks-from zero low high [] before after e r held others = refl
trimmed_blocks-from zero low high (entry ∷ patch) before after e r held others = let f = r.0 in let g = r.1 in absurd (omega arith)
trimmed_blocks-from (suc n) low high [] before after e r held others =
    skipped before (differ before after low) low [] (filter (differ before after) (range_with_len (low + 1) n))
    (differ-not before after low (others low (omega arith) tt))
    (trimmed_blocks-from n (low + 1) high [] before after (omega arith) tt tt (λ b h a. others b (omega arith) tt))
trimmed_blocks-from (suc n) low high (entry ∷ patch) before after e r held others = elim (cases_lt low entry.0) [
  | inl above ↦
      let away : Absent low (entry ∷ patch) = absent-below (entry ∷ patch) entry.0 high low (omega arith, r.1, r.2) above in
      skipped before (differ before after low) low (trimmed_blocks after (entry ∷ patch)) (filter (differ before after) (range_with_len (low + 1) n))
      (differ-not before after low (others low (omega arith) away))
      (trimmed_blocks-from n (low + 1) high (entry ∷ patch) before after (omega arith) (omega arith, r.1, r.2) held (λ b h a. others b (omega arith) a))
  | inr most ↦
      let here : entry.0 ≡ low = let f = r.0 in omega arith in
      let bytes : entry.1 ≡ sector_at before low = sym held.0 ∙ ap (sector_at before) here in
      let test : not (pointwise nat_eq entry.1 (sector_at after entry.0)) ≡ differ before after low =
      let opened = differ-opens before after low in ap₂ (λ (xs ys : List ℕ). not (pointwise nat_eq xs ys)) bytes (ap (sector_at after) here) ∙ sym opened in
      both before (not (pointwise nat_eq entry.1 (sector_at after entry.0))) (differ before after low) entry low (trimmed_blocks after patch)
      (filter (differ before after) (range_with_len (low + 1) n)) test (pair_opens before entry low here bytes)
      (trimmed_blocks-from n (low + 1) high patch before after (omega arith) (subst (λ (k : ℕ). RisesBetween (k + 1) high patch) here r.2) held.1
      (λ b h a. others b (omega arith) ((λ same. absurd (omega arith)), a)))
]

-- the patch after a trim has the blocks in which the image differs from the one with the patch put
-- back
pub trimmed_blocks-changed_blocks : (patch : Kept) (image : List (List ℕ)) → RisesBetween 0 (length image) patch → trimmed_blocks image patch ≡ changed_blocks (restored_image image patch) image
unfolding changed_blocks with_bytes differ
trimmed_blocks-changed_blocks patch image r =
    trimmed_blocks-from (length image) 0 (length image) patch (restored_image image patch) image (omega arith) r (held-restored_image patch image 0 (length image) r (omega arith))
    (λ b h a. restored_image-absent patch image b a)
    ∙ ap (λ (n : ℕ). map (with_bytes (restored_image image patch)) (filter (differ (restored_image image patch) image) (range_with_len 0 n))) (sym (length-restored_image patch image))

-- the same blocks with other bytes are ascending too
pub rises-taken_blocks : (patch : Kept) (image : List (List ℕ)) (low high : ℕ) → RisesBetween low high patch → RisesBetween low high (taken_blocks image patch)
unfolding RisesBetween taken_blocks
rises-taken_blocks [] image low high r = tt
rises-taken_blocks (entry ∷ patch) image low high r = (r.0, r.1, rises-taken_blocks patch image (entry.0 + 1) high r.2)

-- blocks that lie from one on lie from each before it on
rises-lower : (patch : Kept) (low lower high : ℕ) → RisesBetween low high patch → lower ≤ low → RisesBetween lower high patch
unfolding RisesBetween
rises-lower [] low lower high r h = tt
rises-lower (entry ∷ patch) low lower high r h = (let f = r.0 in omega arith, r.1, r.2)

-- one block more above all
pub rises-pushed : (patch : Kept) (low high block : ℕ) (bytes : List ℕ) → RisesBetween low block patch → low ≤ block → block < high
    → RisesBetween low high (patch ++ (block, bytes) ∷ [])
unfolding RisesBetween
rises-pushed [] low high block bytes r h i = (h, i, tt)
rises-pushed (entry ∷ patch) low high block bytes r h i =
    let f = r.1 in (r.0, omega arith, rises-pushed patch (entry.0 + 1) high block bytes r.2 (omega arith) i)

rises-cond : (t : Bool) (entry : ℕ × List ℕ) (rest : Kept) (low high : ℕ) → low ≤ entry.0 → entry.0 < high → RisesBetween (entry.0 + 1) high rest
    → RisesBetween low high (cond t (entry ∷ rest) rest)
unfolding RisesBetween
rises-cond true entry rest low high h i r = (h, i, r)
rises-cond false entry rest low high h i r = rises-lower rest (entry.0 + 1) low high r (omega arith)

-- what a trim leaves is ascending
pub rises-trimmed_blocks : (patch : Kept) (image : List (List ℕ)) (low high : ℕ) → RisesBetween low high patch → RisesBetween low high (trimmed_blocks image patch)
unfolding RisesBetween trimmed_blocks
rises-trimmed_blocks [] image low high r = tt
rises-trimmed_blocks (entry ∷ patch) image low high r =
    rises-cond (not (pointwise nat_eq entry.1 (sector_at image entry.0))) entry (trimmed_blocks image patch) low high r.0 r.1 (rises-trimmed_blocks patch image (entry.0 + 1) high r.2)

-- a block that is kept stays as it was kept first
pub with_kept-again : (patch : Kept) (block : ℕ) (bytes : List ℕ) → is_kept patch block ≡ true → with_kept patch block bytes ≡ patch
unfolding with_kept
with_kept-again patch block bytes e =
    ap (λ (t : Bool). cond t patch (insert patch (count_by (λ (x : ℕ × List ℕ). nat_lt x.0 block) patch) (block, bytes))) e

-- a block that isn't kept is added
pub with_kept-new : (patch : Kept) (block : ℕ) (bytes : List ℕ) → is_kept patch block ≡ false
    → with_kept patch block bytes ≡ insert patch (count_by (λ x. nat_lt x.0 block) patch) (block, bytes)
unfolding with_kept
with_kept-new patch block bytes e =
    ap (λ (t : Bool). cond t patch (insert patch (count_by (λ (x : ℕ × List ℕ). nat_lt x.0 block) patch) (block, bytes))) e

-- and leaves the patch ascending
pub rises-with_kept : (patch : Kept) (low high block : ℕ) (bytes : List ℕ) → RisesBetween low high patch → low ≤ block → block < high
    → RisesBetween low high (with_kept patch block bytes)
rises-with_kept patch low high block bytes r h i = elim (cases_Bool (is_kept patch block)) [
  | inl t ↦ subst (RisesBetween low high) (sym (with_kept-again patch block bytes t)) r
  | inr f ↦
      subst (RisesBetween low high) (sym (with_kept-new patch block bytes f))
      (rises-insert patch low high block (count_by (λ (x : ℕ × List ℕ). nat_lt x.0 block) patch) bytes r (absent patch block f) h i refl)
]

-- an image that is written through a patch can be put back as before
pub restored_image-written : (patch : Kept) (image : List (List ℕ)) (block : ℕ) (bytes : List ℕ)
    → restored_image (with_sector image block bytes) (with_kept patch block (sector_at image block)) ≡ restored_image image patch
restored_image-written patch image block bytes = elim (cases_Bool (is_kept patch block)) [
  | inl t ↦ ap (restored_image (set image block bytes)) (with_kept-again patch block (sector_at image block) t) ∙ restored_image-set_kept patch image block bytes t
  | inr f ↦
      ap (restored_image (set image block bytes)) (with_kept-new patch block (sector_at image block) f)
      ∙ restored_image-set_insert patch image block (count_by (λ (x : ℕ × List ℕ). nat_lt x.0 block) patch) bytes (absent patch block f)
]

-- the entry to be exchanged next
pub next_entry : (patch kept : Kept) (image : List (List ℕ)) (place : ℕ) (entry : ℕ × List ℕ)
    → kept ≡ taken_blocks image (take place patch) ++ drop place patch → place < length patch → entry ≡ get_or kept place entry → entry ≡ get_or patch place entry
unfolding taken_blocks
next_entry patch kept image place entry e h read =
    let first : Kept = map (λ (x : ℕ × List ℕ). (x.0, sector_at image x.0)) (take place patch) in
    let long : length first ≡ place = length-map (take place patch) (λ (x : ℕ × List ℕ). (x.0, sector_at image x.0)) ∙ length-take-le place patch (omega arith) in
    read ∙ ap (λ (k : Kept). get_or k place entry) e
    ∙ ap (λ (rest : Kept). get_or (first ++ rest) place entry) (drop_more patch place entry h)
    ∙ get_or_at first (get_or patch place entry) (drop (place + 1) patch) entry place long

-- the image after that entry is exchanged
pub exchanged-image : (patch : Kept) (image held : List (List ℕ)) (place : ℕ) (entry : ℕ × List ℕ) (written : List ℕ)
    → place < length patch → held ≡ restored_image image (take place patch) → entry ≡ get_or patch place entry → written ≡ entry.1
    → with_sector held entry.0 written ≡ restored_image image (take (place + 1) patch)
exchanged-image patch image held place entry written h is_held is_entry is_written =
    ap (λ (bytes : List ℕ). set held entry.0 bytes) is_written
    ∙ ap (λ (i : List (List ℕ)). set i entry.0 entry.1) is_held
    ∙ ap (λ (x : ℕ × List ℕ). set (restored_image image (take place patch)) x.0 x.1) is_entry
    ∙ sym (restored_image-more patch image place entry h)

-- the patch after that entry is exchanged
pub exchanged-kept : (patch kept : Kept) (image held : List (List ℕ)) (low high place : ℕ) (entry : ℕ × List ℕ) (bytes : List ℕ)
    → RisesBetween low high patch → place < length patch → held ≡ restored_image image (take place patch)
    → kept ≡ taken_blocks image (take place patch) ++ drop place patch → entry ≡ get_or patch place entry → bytes ≡ sector_at held entry.0
    → set kept place (entry.0, bytes) ≡ taken_blocks image (take (place + 1) patch) ++ drop (place + 1) patch
exchanged-kept patch kept image held low high place entry bytes r h is_held is_kept is_entry is_bytes =
    let read : bytes ≡ sector_at image entry.0 =
    is_bytes ∙ ap (λ (i : List (List ℕ)). sector_at i entry.0) is_held
    ∙ ap (λ (x : ℕ × List ℕ). sector_at (restored_image image (take place patch)) x.0) is_entry
    ∙ back-next patch image low high place entry r h
    ∙ ap (λ (x : ℕ × List ℕ). sector_at image x.0) (sym is_entry) in
    ap (λ (b : List ℕ). let one : ℕ × List ℕ = (entry.0, b) in set kept place one) read
    ∙ ap (λ (k : Kept). let one : ℕ × List ℕ = (entry.0, sector_at image entry.0) in set k place one) is_kept
    ∙ ap (λ (x : ℕ × List ℕ). let one : ℕ × List ℕ = (x.0, sector_at image x.0) in set (taken_blocks image (take place patch) ++ drop place patch) place one) is_entry
    ∙ taken_blocks-more patch image place entry h

-- all blocks are exchanged
pub taken_blocks-all : (patch kept : Kept) (image : List (List ℕ)) (place : ℕ) → length patch ≤ place
    → kept ≡ taken_blocks image (take place patch) ++ drop place patch → kept ≡ taken_blocks image patch
taken_blocks-all patch kept image place h e =
    e ∙ ap₂ (λ (first rest : Kept). taken_blocks image first ++ rest) (take_all place patch h) (drop_all place patch h) ∙ append-nil (taken_blocks image patch)

-- if the test finds no difference, the blocks are the same
differ-same : (image other : List (List ℕ)) (block : ℕ) → differ image other block ≡ false → sector_at image block ≡ sector_at other block
unfolding differ
differ-same image other block e = elim (cases_Bool (pointwise nat_eq (sector_at image block) (sector_at other block))) [
  | inl t ↦ (bytes_decides (sector_at image block) (sector_at other block)).0 t
  | inr f ↦ let g = ap not f in absurd (cc)
]

-- from one block on, the blocks that differ are put back
restored : (n low : ℕ) (before after image : List (List ℕ)) → length image ≡ low + n → length before ≡ low + n
    → ((k : ℕ) → k < low → sector_at image k ≡ sector_at before k)
    → ((k : ℕ) → low ≤ k → sector_at image k ≡ sector_at after k)
    → restored_image image (map (with_bytes before) (filter (differ before after) (range_with_len low n))) ≡ before
unfolding restored_image with_bytes
restored zero low before after image l m below above = ext_get_or [] image before (omega arith) (λ k h. below k (omega arith))
restored (suc n) low before after image l m below above =
    let rest : List ℕ = filter (differ before after) (range_with_len (low + 1) n) in
    elim (cases_Bool (differ before after low)) [
      | inl t ↦
          let bytes : List ℕ = sector_at before low in
          let long = length-set image low bytes in
          ap (λ (u : Bool). restored_image image (map (with_bytes before) (cond u (low ∷ rest) rest))) t
          ∙ restored n (low + 1) before after (set image low bytes) (omega arith) (omega arith)
          (λ k h. elim (cases_eq k low) [
            | inl e ↦ ap (sector_at (set image low bytes)) e ∙ get_or-set_same image low bytes [] (omega arith) ∙ ap (sector_at before) (sym e)
            | inr ne ↦ get_or-set_other image low k bytes [] ne ∙ below k (omega arith)
          ])
          (λ k h. get_or-set_other image low k bytes [] (λ e. absurd (omega arith)) ∙ above k (omega arith))
      | inr f ↦
          ap (λ (u : Bool). restored_image image (map (with_bytes before) (cond u (low ∷ rest) rest))) f
          ∙ restored n (low + 1) before after image (omega arith) (omega arith)
          (λ k h. elim (cases_eq k low) [
            | inl e ↦ above k (omega arith) ∙ ap (sector_at after) e ∙ sym (differ-same before after low f) ∙ ap (sector_at before) (sym e)
            | inr ne ↦ below k (omega arith)
          ])
          (λ k h. above k (omega arith))
    ]

-- the patch of all that changed puts back the image from before
pub restored_image-changed_blocks : (before after : List (List ℕ)) → length before ≡ length after → restored_image after (changed_blocks before after) ≡ before
unfolding changed_blocks with_bytes differ
restored_image-changed_blocks before after long =
    restored (length before) 0 before after after (omega arith) (omega arith) (λ k h. absurd (omega arith)) (λ k h. refl)

-- what changed are blocks of the images
changed-from : (p : ℕ → Bool) (before : List (List ℕ)) (low count high : ℕ) → high ≡ low + count
    → RisesBetween low high (map (λ block. (block, sector_at before block)) (filter p (range_with_len low count)))
unfolding RisesBetween
changed-from p before low zero high e = tt
changed-from p before low (suc count) high e = either (p low) (changed-from p before (low + 1) count high (omega arith))
  where
    either : (t : Bool) → RisesBetween (low + 1) high (map (λ block. (block, sector_at before block)) (filter p (range_with_len (low + 1) count)))
        → RisesBetween low high (map (λ block. (block, sector_at before block)) (cond t (low ∷ filter p (range_with_len (low + 1) count)) (filter p (range_with_len (low + 1) count))))
    either true rest = (omega arith, omega arith, rest)
    either false rest = rises-lower (map (λ block. (block, sector_at before block)) (filter p (range_with_len (low + 1) count))) (low + 1) low high rest (omega arith)

pub rises-changed_blocks : (before after : List (List ℕ)) → RisesBetween 0 (length before) (changed_blocks before after)
unfolding changed_blocks
rises-changed_blocks before after =
    changed-from (λ block. not (pointwise nat_eq (sector_at before block) (sector_at after block))) before 0 (length before) (length before) (omega arith)

-- so a patch that is a difference has only blocks of the image
pub rises-difference : (image : List (List ℕ)) (patch : Kept) → patch ≡ changed_blocks (restored_image image patch) image → RisesBetween 0 (length image) patch
rises-difference image patch e =
    subst (λ (n : ℕ). RisesBetween 0 n patch) (length-restored_image patch image)
    (subst (RisesBetween 0 (length (restored_image image patch))) (sym e) (rises-changed_blocks (restored_image image patch) image))
