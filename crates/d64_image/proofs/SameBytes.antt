-- blocks that are the same, 32 bytes at a time
use Rattle.std.proofs.Common.{◌≡◌, ℕ, ◌+◌, ◌*◌, ◌&&◌, Bool, true, false, cond, not, List, [], ◌∷◌, ◌++◌, length, take, nat_eq, refl, sym, ap, ap₂, ◌∙◌, inl, inr, arith}
use Rattle.std.specs.Cmp.Lexicographic.{pointwise, bytes_decides}
use Rattle.std.specs.Simd.Lanes.{mask_l, zip2, chunk}
use Rattle.std.proofs.Math.Seq.{take-add}
use Rattle.std.proofs.lemmas.Bool.{cases_Bool}
use Rattle.std.proofs.lemmas.Bool.Decides.{nat_tests}

-- one lane more, whose bit is set if it differs
one_more : (t : Bool) (mask : ℕ) (rest : Bool) → nat_eq mask 0 ≡ rest → nat_eq (cond (not t) 1 0 + 2 * mask) 0 ≡ (t && rest)
one_more true mask rest e = let same : nat_eq (0 + 2 * mask) 0 ≡ nat_eq mask 0 = grind (arith, nat_tests) in same ∙ e
one_more false mask rest e = grind (arith, nat_tests)

-- no bit is set exactly if the lanes are the same
pub mask-pointwise : (xs ys : List ℕ) → length xs ≡ length ys → nat_eq (mask_l (zip2 (λ a b. not (nat_eq a b)) xs ys)) 0 ≡ pointwise nat_eq xs ys
mask-pointwise [] [] h = refl
mask-pointwise [] (y ∷ ys) h = absurd (omega arith)
mask-pointwise (x ∷ xs) [] h = absurd (omega arith)
mask-pointwise (x ∷ xs) (y ∷ ys) h =
    one_more (nat_eq x y) (mask_l (zip2 (λ a b. not (nat_eq a b)) xs ys)) (pointwise nat_eq xs ys) (mask-pointwise xs ys (omega arith))

-- the first bytes are the same, and some more are
pub same_more : (xs ys : List ℕ) (i j : ℕ) → j ≡ i + 32 → take i xs ≡ take i ys → pointwise nat_eq (chunk i 32 xs) (chunk i 32 ys) ≡ true
    → take j xs ≡ take j ys
same_more xs ys i j e h t =
    ap (λ (n : ℕ). take n xs) e ∙ take-add i 32 xs
    ∙ ap₂ (λ (front back : List ℕ). front ++ back) h ((bytes_decides (chunk i 32 xs) (chunk i 32 ys)).0 t)
    ∙ sym (take-add i 32 ys) ∙ sym (ap (λ (n : ℕ). take n ys) e)

-- if some bytes differ, the blocks differ
pub differ_there : (xs ys : List ℕ) (i : ℕ) → pointwise nat_eq (chunk i 32 xs) (chunk i 32 ys) ≡ false → pointwise nat_eq xs ys ≡ false
differ_there xs ys i f = elim (cases_Bool (pointwise nat_eq xs ys)) [
  | inl t ↦
      let same : xs ≡ ys = (bytes_decides xs ys).0 t in
      let also = (bytes_decides (chunk i 32 xs) (chunk i 32 ys)).1 (ap (chunk i 32) same) in
      absurd (cc)
  | inr g ↦ g
]
