-- the free blocks of a track, added to those before it at once
use Rattle.std.proofs.Common.{◌≡◌, ℕ, ◌+◌, ◌-◌, ◌%◌, ◌^◌, ◌<◌, ◌≤◌, ◌&&◌, ◌||◌, Bool, true, false, leb, ltb, nat_eq, List, refl, sym, ap, ap₂, ◌∙◌, inl, inr, arith}
use Rattle.std.specs.List.{range_with_len}
use Rattle.std.specs.Int.{bit_at}
use Rattle.std.specs.Ordering.{nat_cmp}
use Rattle.std.specs.Cmp.{nat_cmp_total}
use Rattle.std.specs.FinSet as set
use Rattle.std.specs.FinSet.{same_set, nat_cmp-IsAntisymmetric}
use Rattle.std.proofs.Math.Nat.{mod-lt}
use Rattle.std.proofs.lemmas.Bool.{cases_lt}
use Rattle.std.proofs.lemmas.Bool.Decides.{nat_tests}
use Rattle.std.proofs.lemmas.Nat.{pow_pos}
use Rattle.std.proofs.lemmas.Nat.Bits.{bit_at_above}
use Rattle.d64_image.specs.declared.block.TheConstants.{BLOCKS}
use Rattle.d64_image.specs.Block.{sectors_on, first_block}
use Rattle.d64_image.specs.BlockSet.{is_given}
use Rattle.d64_image.proofs.AddedBits.{or_false}
use Rattle.d64_image.proofs.Windows.{bit_at-mod}
use Rattle.d64_image.proofs.Zones.{counted_below}
use Rattle.d64_map.specs.Map.{is_free, free_below}
use Rattle.d64_map.proofs.FreeBlocks.{any-below}
use Rattle.d64_map.proofs.Ranges.{contains-filtered}
use Rattle.d64_map.proofs.Sectors.{first_block-next}

-- the free blocks below a number
contains-free_below : (image : List (List ℕ)) (n block : ℕ) → set.contains (free_below image n) block ≡ (ltb block n && is_free image block)
contains-free_below image n block =
    contains-filtered (is_free image) (range_with_len 0 n) block ∙ ap (λ (b : Bool). b && is_free image block) (any-below n block)

-- those before a track, and those of its sectors
one_track : (image : List (List ℕ)) (track bits block : ℕ) → 1 ≤ track
    → ((s : ℕ) → s < sectors_on track → nat_eq (bit_at bits s) 1 ≡ is_free image (first_block track + s))
    → ((ltb block (first_block track) && is_free image block) || is_given (first_block track) (bits % 2 ^ sectors_on track) block)
    ≡ (ltb block (first_block (track + 1)) && is_free image block)
one_track image track bits block one show =
    let first : ℕ = first_block track in
    let count : ℕ = sectors_on track in
    let next = first_block-next track one in
    let lowest : ℕ = bits % 2 ^ sectors_on track in
    let free : Bool = is_free image block in
    let given : Bool = nat_eq (bit_at (bits % 2 ^ sectors_on track) (block - first_block track)) 1 in
    elim (cases_lt block (first_block track)) [
      | inl before ↦
          let t : ltb block (first_block track) ≡ true = grind (arith, nat_tests) in
          let u : leb (first_block track) block ≡ false = grind (arith, nat_tests) in
          let v : ltb block (first_block (track + 1)) ≡ true = grind (arith, nat_tests) in
          ap₂ (λ (x y : Bool). (x && is_free image block) || (y && nat_eq (bit_at (bits % 2 ^ sectors_on track) (block - first_block track)) 1)) t u
          ∙ or_false (is_free image block)
          ∙ ap (λ (b : Bool). b && is_free image block) (sym v)
      | inr from ↦
          let t : ltb block (first_block track) ≡ false = grind (arith, nat_tests) in
          let u : leb (first_block track) block ≡ true = grind (arith, nat_tests) in
          ap₂ (λ (x y : Bool). (x && is_free image block) || (y && nat_eq (bit_at (bits % 2 ^ sectors_on track) (block - first_block track)) 1)) t u
          ∙ elim (cases_lt (block - first_block track) (sectors_on track)) [
            | inl held ↦
                let same : first_block track + (block - first_block track) ≡ block = omega arith in
                let below : block < first_block (track + 1) = omega arith in
                let v : ltb block (first_block (track + 1)) ≡ true = grind (arith, nat_tests) in
                ap (λ (n : ℕ). nat_eq n 1) (bit_at-mod bits (sectors_on track) (block - first_block track) held)
                ∙ show (block - first_block track) held
                ∙ ap (is_free image) same
                ∙ ap (λ (b : Bool). b && is_free image block) (sym v)
            | inr past ↦
                let z : bit_at (bits % 2 ^ sectors_on track) (block - first_block track) ≡ 0 =
                bit_at_above (bits % 2 ^ sectors_on track) (sectors_on track) (block - first_block track) (mod-lt bits (pow_pos (sectors_on track))) past in
                let above : first_block (track + 1) ≤ block = omega arith in
                let v : ltb block (first_block (track + 1)) ≡ false = grind (arith, nat_tests) in
                ap (λ (n : ℕ). nat_eq n 1) z ∙ ap (λ (b : Bool). b && is_free image block) (sym v)
          ]
    ]

-- the bits of a track's sectors are those of blocks of a disk
pub given_within : (track bits block : ℕ) → 1 ≤ track → track < 41
    → (ltb block BLOCKS && is_given (first_block track) (bits % 2 ^ sectors_on track) block) ≡ is_given (first_block track) (bits % 2 ^ sectors_on track) block
given_within track bits block one within =
    elim (cases_lt block BLOCKS) [
      | inl held ↦
          let below : ltb block BLOCKS ≡ true = grind (arith, nat_tests) in
          ap (λ (b : Bool). b && is_given (first_block track) (bits % 2 ^ sectors_on track) block) below
      | inr past ↦
          let none : ltb block BLOCKS ≡ false = grind (arith, nat_tests) in
          let far : sectors_on track ≤ block - first_block track =
          elim (cases_lt (block - first_block track) (sectors_on track)) [
            | inl few ↦ let below = counted_below track (block - first_block track) within few in absurd (omega arith)
            | inr far ↦ far
          ] in
          let clear = bit_at_above (bits % 2 ^ sectors_on track) (sectors_on track) (block - first_block track) (mod-lt bits (pow_pos (sectors_on track))) far in
          ap (λ (b : Bool). b && is_given (first_block track) (bits % 2 ^ sectors_on track) block) none
          ∙ sym (and_false (leb (first_block track) block))
          ∙ ap (λ (bit : ℕ). leb (first_block track) block && nat_eq bit 1) (sym clear)
    ]
  where
    and_false : (b : Bool) → (b && false) ≡ false
    and_false true = refl
    and_false false = refl

-- so the set grows by the track
pub track_added : (image : List (List ℕ)) (track bits : ℕ) (old new : set.FinSet nat_cmp) → 1 ≤ track → old ≡ free_below image (first_block track)
    → ((block : ℕ) → set.contains new block ≡ (set.contains old block || is_given (first_block track) (bits % 2 ^ sectors_on track) block))
    → ((s : ℕ) → s < sectors_on track → nat_eq (bit_at bits s) 1 ≡ is_free image (first_block track + s))
    → new ≡ free_below image (first_block (track + 1))
track_added image track bits old new one before added show =
    same_set nat_cmp_total nat_cmp-IsAntisymmetric _ _ (λ block.
    added block
    ∙ ap (λ (s : set.FinSet nat_cmp). set.contains s block || is_given (first_block track) (bits % 2 ^ sectors_on track) block) before
    ∙ ap (λ (b : Bool). b || is_given (first_block track) (bits % 2 ^ sectors_on track) block) (contains-free_below image (first_block track) block)
    ∙ one_track image track bits block one show
    ∙ sym (contains-free_below image (first_block (track + 1)) block))
