-- the blocks in which two images differ
use Rattle.std.proofs.Common.{◌≡◌, ◌≢◌, ℕ, zero, suc, ◌<◌, Bool, true, false, cond, not, List, [], ◌∷◌, length, get_or, nat_eq, refl, ap, ◌∙◌, inl, inr, ◌⊎◌, arith}
use Rattle.std.specs.Bool.{Decides}
use Rattle.std.specs.List.{All, Contains, filter, range_with_len}
use Rattle.std.specs.Cmp.Lexicographic.{pointwise, bytes_decides, same_text, other_text}
use Rattle.std.proofs.lemmas.Bool.Decides.{Decides-not}
use Rattle.std.proofs.lemmas.List.{ext_get_or}
use Rattle.std.proofs.lemmas.List.Elements.{All-from_get_or, All-filter, All-contains, filter_passes}
use Rattle.std.proofs.lemmas.List.FromFn.{length-range_with_len, get_or-range_with_len}
use Rattle.d64_image.specs.Image.{sector_at, differences}

-- an element is among those that a test keeps if it is among the later ones
later : (kept : Bool) (x : ℕ) (xs : List ℕ) (y : ℕ) → Contains xs y → Contains (cond kept (x ∷ xs) xs) y
later true x xs y c = (suc c.0, (let h : c.0 < length xs = c.1 in omega arith), c.2)
later false x xs y c = c

-- an element that passes is kept
first : (kept : Bool) (x : ℕ) (xs : List ℕ) (y : ℕ) → x ≡ y → kept ≡ true → Contains (cond kept (x ∷ xs) xs) y
first true x xs y e h = (0, omega arith, e)
first false x xs y e h = absurd (cc)

-- an element of a list that passes is among the kept ones
Contains-filter_at : (p : ℕ → Bool) (xs : List ℕ) (y k : ℕ) → k < length xs → get_or xs k y ≡ y → p y ≡ true → Contains (filter p xs) y
Contains-filter_at p [] y k h e t = absurd (omega arith)
Contains-filter_at p (x ∷ xs) y zero h e t = first (p x) x (filter p xs) y e (ap p e ∙ t)
Contains-filter_at p (x ∷ xs) y (suc k) h e t = later (p x) x (filter p xs) y (Contains-filter_at p xs y k (omega arith) e t)

-- the test by which a block is among the differences
differ : List (List ℕ) → List (List ℕ) → ℕ → Bool
differ image other block = not (pointwise nat_eq (sector_at image block) (sector_at other block))

-- the test says whether the sectors differ
Decides-differ : (image other : List (List ℕ)) (block : ℕ) → Decides (differ image other block) (sector_at image block ≢ sector_at other block)
unfolding differ
Decides-differ image other block =
    Decides-not (pointwise nat_eq (sector_at image block) (sector_at other block)) (bytes_decides (sector_at image block) (sector_at other block))

-- the blocks of an image are below its length
below : (n : ℕ) → All (λ block. block < n) (range_with_len 0 n)
below n =
    All-from_get_or (λ block. block < n) (range_with_len 0 n) 0 (λ i h.
    let l = length-range_with_len 0 n in
    let e = get_or-range_with_len 0 n i 0 (omega arith) in
    omega arith)

-- a block among the differences is one at which the sectors differ
pub differences-from : (image other : List (List ℕ)) (block : ℕ) → Contains (differences image other) block → (block < length image) × (sector_at image block ≢ sector_at other block)
unfolding differ
differences-from image other block c = (
  All-contains (λ (b : ℕ). b < length image) (differences image other) block
      (All-filter (differ image other) (λ (b : ℕ). b < length image) (range_with_len 0 (length image)) (below (length image))) c,
  (Decides-differ image other block).0 (All-contains (λ (b : ℕ). differ image other b ≡ true) (differences image other) block (filter_passes (differ image other) (range_with_len 0 (length image))) c),
)

-- a block at which the sectors differ is among the differences
pub differences-to : (image other : List (List ℕ)) (block : ℕ) → block < length image → (sector_at image block ≢ sector_at other block) → Contains (differences image other) block
unfolding differ
differences-to image other block h n =
    let l = length-range_with_len 0 (length image) in
    let e : get_or (range_with_len 0 (length image)) block block ≡ block = let r = get_or-range_with_len 0 (length image) block block h in omega arith in
    Contains-filter_at (differ image other) (range_with_len 0 (length image)) block block (omega arith) e ((Decides-differ image other block).1 n)

-- two blocks are equal or not
either : (xs ys : List ℕ) (r : Bool) → r ≡ pointwise nat_eq xs ys → (xs ≡ ys) ⊎ (xs ≢ ys)
either xs ys true e = inl (same_text xs ys e)
either xs ys false e = inr (other_text xs ys e)

-- nothing is among no differences
nowhere : (image other : List (List ℕ)) (block : ℕ) → differences image other ≡ [] → Contains (differences image other) block → ⊥
nowhere image other block none c = let h : c.0 < length (differences image other) = c.1 in let e = ap length none in omega arith

-- images that differ nowhere are equal
pub equal_images : (image other : List (List ℕ)) → length image ≡ length other → differences image other ≡ [] → image ≡ other
equal_images image other long none =
    ext_get_or [] image other long (λ block h.
    elim (either (sector_at image block) (sector_at other block) (pointwise nat_eq (sector_at image block) (sector_at other block)) refl) [
      | inl e ↦ e
      | inr n ↦ absurd (nowhere image other block none (differences-to image other block h n))
    ])
