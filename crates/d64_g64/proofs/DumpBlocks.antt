-- The blocks of a dump, as they are read one after another
use Rattle.std.proofs.Common.{◌≡◌, ℕ, zero, suc, ◌+◌, ◌-◌, ◌*◌, ◌<◌, ◌≤◌, min, Bool, cond, Option, Some, None, List, [], ◌∷◌, ◌++◌, length, get_or, map, take, drop, refl, sym, ap, ap₂, ◌∙◌, subst, inl, inr, arith}
use Rattle.std.specs.Prelude.{All, ◌==◌, count_by, ltb}
use Rattle.std.specs.Option.{option_map_or}
use Rattle.std.specs.List.{range_with_len, flat_map}
use Rattle.std.proofs.lemmas.Bool.{cases_lt, cases_Bool, le-ltb}
use Rattle.std.proofs.Math.Seq.{take-append-add, take-length}
use Rattle.std.proofs.lemmas.List.{append-nil, length-drop}
use Rattle.std.proofs.lemmas.List.FromFn.{map-range_with_len_more, take-map-range_with_len, length-map-range_with_len, get_or-map-range_with_len}
use Rattle.std.proofs.lemmas.List.Concat.{flat_map-append}
use Rattle.d64_image.specs.Block.{sectors_on, first_block, pair_at, block_of}
use Rattle.d64_image.specs.Image.{bytes_of as image_bytes}
use Rattle.d64_image.proofs.Pairs.{pair_at-counted, block_of-legal, block_of-none}
use Rattle.d64_image.proofs.Zones.{starts_at, ends_at, first_block-first_zone, first_block-fourth_zone, sectors_on-first_zone, sectors_on-second_zone, sectors_on-third_zone, sectors_on-fourth_zone}
use Rattle.d64_survey.specs.Dump.{dump_bytes}
use Rattle.d64_g64.specs.Codes.{value_at, value_or_zero}
use Rattle.d64_g64.specs.Blocks.{block_code_of, block_bytes_of, bytes_behind, data_bytes, is_data, header_of, blank}
use Rattle.d64_g64.specs.File.{track_of}
use Rattle.d64_g64.specs.Dump.{id_in, block_code, block_bytes, first_codes, first_blocks, kept_count, g64_dump}

-- a block by its track and sector
pub code_is : (file : List ℕ) (number sector : ℕ) → 1 ≤ number → number < 41 → sector < sectors_on number
    → block_code_of (id_in file) (track_of file number) number sector ≡ block_code file (first_block number + sector)
unfolding block_code
code_is file number sector low high within =
    sym (ap (λ (pair : ℕ × ℕ). block_code_of (id_in file) (track_of file pair.0) pair.0 pair.1) (pair_at-counted number sector low high within))

pub bytes_are : (file : List ℕ) (number sector : ℕ) → 1 ≤ number → number < 41 → sector < sectors_on number
    → block_bytes_of (id_in file) (track_of file number) number sector ≡ block_bytes file (first_block number + sector)
unfolding block_bytes
bytes_are file number sector low high within =
    sym (ap (λ (pair : ℕ × ℕ). block_bytes_of (id_in file) (track_of file pair.0) pair.0 pair.1) (pair_at-counted number sector low high within))

-- no block, and one block more
pub no_codes : (file : List ℕ) → first_codes file 0 ≡ []
unfolding first_codes
no_codes file = refl

pub no_blocks : (file : List ℕ) → image_bytes (first_blocks file 0) ≡ []
unfolding first_blocks
no_blocks file = refl

pub codes_more : (file : List ℕ) (count : ℕ) → first_codes file (count + 1) ≡ first_codes file count ++ block_code file count ∷ []
unfolding first_codes
codes_more file count = map-range_with_len_more (block_code file) 0 count count (omega arith)

pub blocks_more : (file : List ℕ) (count : ℕ) → image_bytes (first_blocks file (count + 1)) ≡ image_bytes (first_blocks file count) ++ block_bytes file count
unfolding first_blocks
blocks_more file count =
    ap (flat_map (λ xs. xs)) (map-range_with_len_more (block_bytes file) 0 count count (omega arith))
    ∙ flat_map-append (λ xs. xs) (map (block_bytes file) (range_with_len 0 count)) (block_bytes file count ∷ [])
    ∙ ap (λ (xs : List ℕ). flat_map (λ xs. xs) (map (block_bytes file) (range_with_len 0 count)) ++ xs) (append-nil (block_bytes file count))

-- the sectors of a track, and the block after its last one
pub few_sectors : (number : ℕ) → sectors_on number ≤ 21
few_sectors number =
    elim (cases_lt number 18) [
      | inl first ↦ let e = sectors_on-first_zone number first in omega (arith, e)
      | inr rest ↦ elim (cases_lt number 25) [
        | inl second ↦ let e = sectors_on-second_zone number rest second in omega (arith, e)
        | inr rest2 ↦ elim (cases_lt number 31) [
          | inl third ↦ let e = sectors_on-third_zone number rest2 third in omega (arith, e)
          | inr last ↦ let e = sectors_on-fourth_zone number last in omega (arith, e)
        ]
      ]
    ]

pub next_track : (number : ℕ) → 1 ≤ number → number < 41 → first_block (number + 1) ≡ first_block number + sectors_on number
next_track number low high = sym (starts_at (number + 1) (number + 1) refl (omega arith)) ∙ ends_at number number refl low high

pub first_of_all : first_block 1 ≡ 0
first_of_all = first_block-first_zone 1 (omega arith)

pub last_of_all : first_block 41 ≡ 768
last_of_all = first_block-fourth_zone 41 (omega arith) (omega arith)

-- a sector that the track has, and one that it doesn't have
pub has_sector : (number sector block : ℕ) → 1 ≤ number → number < 41 → block_of number sector ≡ Some block → sector < sectors_on number
has_sector number sector block low high is = elim (cases_lt sector (sectors_on number)) [
  | inl within ↦ within
  | inr past ↦ let wrong : Some block ≡ None = sym is ∙ block_of-none number sector (λ one_ more_ within. omega arith) in absurd (cc)
]

pub lacks_sector : (number sector : ℕ) → 1 ≤ number → number < 41 → block_of number sector ≡ None → sectors_on number ≤ sector
lacks_sector number sector low high is = elim (cases_lt sector (sectors_on number)) [
  | inl within ↦ let wrong : Some (first_block number + sector) ≡ None = sym (block_of-legal number sector low high within) ∙ is in absurd (cc)
  | inr past ↦ past
]

-- one sector more
pub sector_more : (number sector : ℕ) → sector < sectors_on number → first_block number + min (sector + 1) (sectors_on number) ≡ first_block number + min sector (sectors_on number) + 1
sector_more number sector h = omega arith

pub sector_of : (number sector : ℕ) → sector < sectors_on number → first_block number + min sector (sectors_on number) ≡ first_block number + sector
sector_of number sector h = omega arith

pub sector_past : (number sector : ℕ) → sectors_on number ≤ sector → first_block number + min (sector + 1) (sectors_on number) ≡ first_block number + min sector (sectors_on number)
sector_past number sector h = omega arith

-- a block has 256 bytes
length-behind : (track : List ℕ) (start : ℕ) → length (bytes_behind track start) ≡ 256
unfolding bytes_behind data_bytes
length-behind track start = elim (cases_Bool (is_data track start)) [
  | inl there ↦ ap length (ap (λ (b : Bool). cond b (map (λ k. value_or_zero (value_at track start k)) (range_with_len 1 256)) blank) there) ∙ length-map-range_with_len (λ k. value_or_zero (value_at track start k)) 1 256
  | inr none ↦ ap length (ap (λ (b : Bool). cond b (map (λ k. value_or_zero (value_at track start k)) (range_with_len 1 256)) blank) none)
]

pub length-block : (file : List ℕ) (block : ℕ) → length (block_bytes file block) ≡ 256
unfolding block_bytes block_bytes_of
length-block file block = long (track_of file (pair_at block).0) (header_of (id_in file) (track_of file (pair_at block).0) (pair_at block).0 (pair_at block).1)
  where
    long : (track : List ℕ) (found : Option (ℕ × ℕ)) → length (option_map_or (λ (pair : ℕ × ℕ). bytes_behind track pair.1) found blank) ≡ 256
    long track None = refl
    long track (Some pair) = length-behind track pair.1

-- the first bytes of the blocks are those of the first blocks
pub take_blocks : (blocks : List (List ℕ)) (count : ℕ) → All (λ block. length block ≡ 256) blocks → take (256 * count) (flat_map (λ xs. xs) blocks) ≡ flat_map (λ xs. xs) (take count blocks)
take_blocks blocks zero long = refl
take_blocks [] (suc count) long = nothing (256 * suc count)
  where
    nothing : (n : ℕ) → let none : List ℕ = [] in take n none ≡ []
    nothing zero = refl
    nothing (suc n) = refl
take_blocks (block ∷ blocks) (suc count) long =
    let more : 256 * suc count ≡ length block + 256 * count = let e : length block ≡ 256 = long 0 [] (omega arith) in omega (arith, e) in
    ap (λ (n : ℕ). take n (block ++ flat_map (λ xs. xs) blocks)) more
    ∙ take-append-add block (flat_map (λ xs. xs) blocks) (256 * count)
    ∙ ap (λ (xs : List ℕ). block ++ xs) (take_blocks blocks count (λ k d within. long (suc k) d (omega arith)))

-- the first blocks of all that were read
pub take_first_blocks : (file : List ℕ) (count : ℕ) → count ≤ 768 → take (256 * count) (image_bytes (first_blocks file 768)) ≡ image_bytes (first_blocks file count)
unfolding first_blocks
take_first_blocks file count h =
    take_blocks (map (block_bytes file) (range_with_len 0 768)) count (λ k d within. long k d within)
    ∙ ap (flat_map (λ xs. xs)) (take-map-range_with_len (block_bytes file) 0 768 count h)
  where
    long : (k : ℕ) (d : List ℕ) → k < length (map (block_bytes file) (range_with_len 0 768)) → length (get_or (map (block_bytes file) (range_with_len 0 768)) k d) ≡ 256
    long k d within =
        let held : k < 768 = subst (λ (n : ℕ). k < n) (length-map-range_with_len (block_bytes file) 0 768) within in
        ap length (get_or-map-range_with_len (block_bytes file) 0 768 k k d held (omega arith)) ∙ length-block file k

pub take_first_codes : (file : List ℕ) (count : ℕ) → count ≤ 768 → take count (first_codes file 768) ≡ first_codes file count
unfolding first_codes
take_first_codes file count h = take-map-range_with_len (block_code file) 0 768 count h

pub length-first_codes : (file : List ℕ) (count : ℕ) → length (first_codes file count) ≡ count
unfolding first_codes
length-first_codes file count = length-map-range_with_len (block_code file) 0 count

-- what follows a place
pub rest : (xs : List ℕ) (place : ℕ) → take (length xs - place) (drop place xs) ≡ drop place xs
rest xs place = ap (λ (n : ℕ). take n (drop place xs)) (sym (length-drop place xs)) ∙ take-length (drop place xs)

-- how many are kept
pub few_kept : (codes : List ℕ) (n : ℕ) → n ≡ count_by (λ code. code == 1) (drop 683 codes) → 2 * n ≤ 85 → 683 ≡ kept_count codes
unfolding kept_count
few_kept codes n is h =
    sym (ap (λ (b : Bool). cond b 768 683) (ap (λ (x : ℕ). ltb 85 (2 * x)) (sym is) ∙ le-ltb 85 (2 * n) h))

pub kept_within : (codes : List ℕ) → kept_count codes ≤ 768
unfolding kept_count
kept_within codes = elim (cases_Bool (ltb 85 (2 * count_by (λ code. code == 1) (drop 683 codes)))) [
  | inl more ↦ subst (λ (n : ℕ). n ≤ 768) (sym (ap (λ (b : Bool). cond b 768 683) more)) (omega arith)
  | inr fewer ↦ subst (λ (n : ℕ). n ≤ 768) (sym (ap (λ (b : Bool). cond b 768 683) fewer)) (omega arith)
]

-- what is kept is the dump
pub dump_is : (file : List ℕ) (blocks codes : List ℕ) → codes ≡ first_codes file 768 → blocks ≡ image_bytes (first_blocks file 768)
    → take (256 * kept_count codes) blocks ++ take (kept_count codes) codes ≡ dump_bytes (g64_dump file)
unfolding g64_dump
dump_is file blocks codes codes_are blocks_are =
    let count = kept_count (first_codes file 768) in
    ap₂ (λ (xs ys : List ℕ). take (256 * kept_count xs) ys ++ take (kept_count xs) xs) codes_are blocks_are
    ∙ ap₂ ◌++◌ (take_first_blocks file count (kept_within (first_codes file 768))) (take_first_codes file count (kept_within (first_codes file 768)))
