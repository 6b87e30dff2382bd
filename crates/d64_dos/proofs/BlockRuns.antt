-- the blocks of a disk, of which the first were taken one by one
use Rattle.std.proofs.Common.{◌≡◌, ℕ, ◌+◌, ◌<◌, List, [], ◌∷◌, ◌++◌, length, sym, ap, ◌∙◌, arith, length-append, append_assoc}
use Rattle.std.specs.List.{range_with_len}
use Rattle.std.proofs.Math.ListN.{get_or}
use Rattle.std.proofs.Math.Seq.{get_or-append_seam}
use Rattle.std.proofs.lemmas.List.FromFn.{length-range_with_len, get_or-range_with_len}

-- the next block is one of the disk
pub next_inside : (count : ℕ) (done rest : List ℕ) (block : ℕ) → range_with_len 0 count ≡ done ++ block ∷ rest → length done < count
next_inside count done rest block split =
    let long = sym (length-range_with_len 0 count) ∙ ap length split ∙ length-append done (block ∷ rest) in
    omega (arith, long)

-- its number is how many were taken
pub next_place : (count : ℕ) (done rest : List ℕ) (block : ℕ) → range_with_len 0 count ≡ done ++ block ∷ rest → block ≡ length done
next_place count done rest block split =
    let zero_more : 0 + length done ≡ length done = omega arith in
    sym (get_or-append_seam done block rest 0)
    ∙ sym (ap (λ (blocks : List ℕ). get_or blocks (length done) 0) split)
    ∙ get_or-range_with_len 0 count (length done) 0 (next_inside count done rest block split)
    ∙ zero_more

-- one more is taken
pub taken_more : (done : List ℕ) (block : ℕ) → length (done ++ block ∷ []) ≡ length done + 1
taken_more done block = length-append done (block ∷ [])

-- those that were taken and those that are left are all, as before
pub split_more : (blocks done rest : List ℕ) (block : ℕ) → blocks ≡ done ++ block ∷ rest → blocks ≡ (done ++ block ∷ []) ++ rest
split_more blocks done rest block split = split ∙ sym (append_assoc done (block ∷ []) rest)

-- at last all are taken
pub all_taken : (count : ℕ) (done left : List ℕ) → range_with_len 0 count ≡ done ++ left → left ≡ [] → length done ≡ count
all_taken count done left split none =
    let long = sym (length-range_with_len 0 count) ∙ ap length split ∙ length-append done left in
    let empty : length left ≡ 0 = ap length none in
    omega (arith, long, empty)
