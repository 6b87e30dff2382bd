-- how long a session file is
use Rattle.std.proofs.Common.{◌≡◌, ℕ, ◌+◌, ◌*◌, ◌≤◌, List, [], ◌∷◌, ◌++◌, length, refl, sym, ap, ◌∙◌, inl, inr, arith}
use Rattle.std.specs.Prelude.{min}
use Rattle.std.specs.Int.{w16, w64, to_le_bytes}
use Rattle.std.specs.List.{All, flat_map}
use Rattle.std.proofs.lemmas.Bool.{cases_lt}
use Rattle.std.proofs.Math.Nat.{min-eq_left, min-eq_right}
use Rattle.std.proofs.lemmas.List.{length-append}
use Rattle.std.proofs.lemmas.List.Elements.{All-head, All-tail}
use Rattle.d64_image.specs.Image.{IsBlock, bytes_of}
use Rattle.d64_image.specs.Patch.{Kept, HaveBlocks}
use Rattle.d64_image.specs.PatchList.{total, blocks_before}
use Rattle.d64_history.specs.SessionFile.{block_file, record_file, file_with}

-- two bytes of a block's index, and its own
length-blocks : (patch : Kept) → HaveBlocks patch → length (flat_map block_file patch) ≡ length patch * 258
length-blocks [] blocks = refl
length-blocks (entry ∷ patch) blocks =
    let own = (All-head (λ (e : ℕ × List ℕ). IsBlock e.1) entry patch blocks).0 in
    let rest = length-blocks patch (All-tail (λ (e : ℕ × List ℕ). IsBlock e.1) entry patch blocks) in
    let one = length-append (to_le_bytes w16 entry.0) entry.1 in
    let all = length-append (block_file entry) (flat_map block_file patch) in
    omega arith

-- two bytes of a record's number of blocks, and these
pub length-record : (patch : Kept) → HaveBlocks patch → length (record_file patch) ≡ 2 + length patch * 258
length-record patch blocks =
    let all = length-append (to_le_bytes w16 (length patch)) (flat_map block_file patch) in
    let own = length-blocks patch blocks in
    omega arith

-- the parts of a file
pub length-file : (image : List (List ℕ)) (done : ℕ) (records : List Kept)
    → length (file_with image done records) ≡ 21 + length (bytes_of image) + length (flat_map record_file records)
unfolding file_with
length-file image done records =
    let cursor = length-append (bytes_of image) (to_le_bytes w64 done) in
    let count = length-append (bytes_of image ++ to_le_bytes w64 done) (to_le_bytes w64 (length records)) in
    let all = length-append ((bytes_of image ++ to_le_bytes w64 done) ++ to_le_bytes w64 (length records)) (flat_map record_file records) in
    omega arith

-- a part more, counted up to a most
pub counted_on : (most sum more : ℕ) → min (min sum most + more) most ≡ min (sum + more) most
counted_on most sum more = elim (cases_lt sum most) [
  | inl less ↦ let below : sum ≤ most = omega arith in ap (λ (n : ℕ). min (n + more) most) (min-eq_left below)
  | inr full ↦
      let one : most ≤ most + more = omega arith in
      let other : most ≤ sum + more = omega arith in
      ap (λ (n : ℕ). min (n + more) most) (min-eq_right full)
      ∙ min-eq_right one
      ∙ sym (min-eq_right other)
]

-- of all records
pub length-records : (records : List Kept) → All HaveBlocks records
    → length (flat_map record_file records) ≡ length records * 2 + blocks_before records (length records) * 258
unfolding total
length-records [] blocks = refl
length-records (patch ∷ records) blocks =
    let one = length-record patch (All-head HaveBlocks patch records blocks) in
    let rest = length-records records (All-tail HaveBlocks patch records blocks) in
    let all = length-append (record_file patch) (flat_map record_file records) in
    omega arith

-- a part that was counted up to a most
pub counted_over : (most sum more : ℕ) → min (sum + min more most) most ≡ min (sum + more) most
counted_over most sum more = elim (cases_lt more most) [
  | inl less ↦ let below : more ≤ most = omega arith in ap (λ (n : ℕ). min (sum + n) most) (min-eq_left below)
  | inr full ↦
      let one : most ≤ sum + most = omega arith in
      let other : most ≤ sum + more = omega arith in
      ap (λ (n : ℕ). min (sum + n) most) (min-eq_right full)
      ∙ min-eq_right one
      ∙ sym (min-eq_right other)
]
