-- Any bytes are read as a dump
use Rattle.std.proofs.Common.{◌≡◌, ℕ, zero, suc, ◌+◌, ◌*◌, ◌/◌, ◌%◌, ◌<◌, Bool, cond, Option, Some, None, List, length, get_or, map, refl, sym, ap, ◌∙◌, subst, inl, inr, arith}
use Rattle.std.specs.Prelude.{All, ltb, replicate, ◌==◌, count_by, drop}
use Rattle.std.specs.List.{range_with_len}
use Rattle.std.specs.Option.{option_map_or}
use Rattle.std.proofs.lemmas.Bool.{cases_Bool}
use Rattle.std.proofs.lemmas.List.FromFn.{length-map-range_with_len, get_or-map-range_with_len}
use Rattle.d64_image.specs.Block.{pair_at}
use Rattle.d64_image.specs.Image.{IsBlock, IsSize}
use Rattle.d64_survey.specs.Dump.{IsDump}
use Rattle.d64_g64.specs.Circle.{bits_from}
use Rattle.d64_g64.specs.Codes.{nibble_of, joined, byte_of_bits, value_at, value_or_zero}
use Rattle.d64_g64.specs.Blocks.{data_bytes, bytes_behind, block_bytes_of, header_of, is_data, blank}
use Rattle.d64_g64.specs.File.{track_of}
use Rattle.d64_g64.specs.Dump.{id_in, block_bytes, first_blocks, first_codes, kept_count, dump_block_count, g64_dump}
use Rattle.d64_g64.proofs.Nibbles.{nibble_fits}
use Rattle.d64_g64.proofs.DumpBlocks.{length-block, length-first_codes}

-- a byte of two nibbles is one
value_fits : (high low : Option ℕ) → ((n : ℕ) → high ≡ Some n → n < 16) → ((n : ℕ) → low ≡ Some n → n < 16) → value_or_zero (joined high low) < 256
value_fits None low h l = omega arith
value_fits (Some high) None h l = omega arith
value_fits (Some high) (Some low) h l = let a = h high refl in let b = l low refl in omega (arith, a, b)

byte_fits : (track : List ℕ) (start k : ℕ) → value_or_zero (value_at track start k) < 256
unfolding value_at byte_of_bits
byte_fits track start k =
    let bits = bits_from track (start + 10 * k) 10 in
    value_fits (nibble_of (bits / 32)) (nibble_of (bits % 32)) (λ n is. nibble_fits (bits / 32) n is) (λ n is. nibble_fits (bits % 32) n is)

zeros_fit : (n k d : ℕ) → let zeros : List ℕ = replicate n 0 in k < length zeros → get_or zeros k d < 256
zeros_fit zero k d h = absurd (omega arith)
zeros_fit (suc n) zero d h = omega arith
zeros_fit (suc n) (suc k) d h = zeros_fit n k d (omega arith)

-- what lies behind a header are bytes
behind_fits : (track : List ℕ) (start : ℕ) → All (λ byte. byte < 256) (bytes_behind track start)
unfolding bytes_behind data_bytes
behind_fits track start = elim (cases_Bool (is_data track start)) [
  | inl there ↦ subst (λ (xs : List ℕ). All (λ byte. byte < 256) xs) (sym (ap (λ (b : Bool). cond b (map (λ k. value_or_zero (value_at track start k)) (range_with_len 1 256)) blank) there)) (λ k d h. fits k d h)
  | inr none ↦ subst (λ (xs : List ℕ). All (λ byte. byte < 256) xs) (sym (ap (λ (b : Bool). cond b (map (λ k. value_or_zero (value_at track start k)) (range_with_len 1 256)) blank) none)) (λ k d h. zeros_fit 256 k d h)
]
  where
    behind : List ℕ
    behind = map (λ k. value_or_zero (value_at track start k)) (range_with_len 1 256)

    fits : (k d : ℕ) → k < length behind → get_or behind k d < 256
    fits k d h =
        let held : k < 256 = subst (λ (n : ℕ). k < n) (length-map-range_with_len (λ k. value_or_zero (value_at track start k)) 1 256) h in
        subst (λ (n : ℕ). n < 256) (sym (get_or-map-range_with_len (λ k. value_or_zero (value_at track start k)) 1 256 k (1 + k) d held refl)) (byte_fits track start (1 + k))

block_fits : (file : List ℕ) (block : ℕ) → All (λ byte. byte < 256) (block_bytes file block)
unfolding block_bytes block_bytes_of
block_fits file block = by_header (track_of file (pair_at block).0) (header_of (id_in file) (track_of file (pair_at block).0) (pair_at block).0 (pair_at block).1)
  where
    by_header : (track : List ℕ) (found : Option (ℕ × ℕ)) → All (λ byte. byte < 256) (option_map_or (λ (pair : ℕ × ℕ). bytes_behind track pair.1) found blank)
    by_header track None = λ k d h. zeros_fit 256 k d h
    by_header track (Some pair) = behind_fits track pair.1

-- the blocks that are kept are as many as an image has
kept_is : (codes : List ℕ) → IsSize (kept_count codes)
unfolding kept_count
kept_is codes = elim (cases_Bool (ltb 85 (2 * count_by (λ code. code == 1) (drop 683 codes)))) [
  | inl more ↦ inr (ap (λ (b : Bool). cond b 768 683) more)
  | inr fewer ↦ inl (ap (λ (b : Bool). cond b 768 683) fewer)
]

length-first_blocks : (file : List ℕ) (count : ℕ) → length (first_blocks file count) ≡ count
unfolding first_blocks
length-first_blocks file count = length-map-range_with_len (block_bytes file) 0 count

blocks_are : (file : List ℕ) (count : ℕ) → All IsBlock (first_blocks file count)
unfolding first_blocks
blocks_are file count k d h =
    let held : k < count = subst (λ (n : ℕ). k < n) (length-map-range_with_len (block_bytes file) 0 count) h in
    subst (λ (xs : List ℕ). IsBlock xs) (sym (get_or-map-range_with_len (block_bytes file) 0 count k k d held (omega arith))) (length-block file k, block_fits file k)

pub is_dump : (file : List ℕ) → IsDump (g64_dump file)
unfolding g64_dump
is_dump file =
    let count = dump_block_count file in (
      (subst (λ (n : ℕ). IsSize n) (sym (length-first_blocks file count)) (kept_is (first_codes file 768)), blocks_are file count),
      length-first_codes file count ∙ sym (length-first_blocks file count),
    )
