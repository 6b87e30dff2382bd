-- what a formatted disk has
use Rattle.std.proofs.Common.{◌≡◌, ◌≢◌, ℕ, zero, suc, ◌+◌, ◌-◌, ◌<◌, ◌≤◌, ◌&&◌, Bool, true, not, eqb, ltb, nat_eq, nat_le, nat_lt, List, [], ◌∷◌, ◌++◌, length, refl, sym, ap, ap₂, ◌∙◌, subst, inl, inr, arith}
use Rattle.std.specs.Prelude.{All}
use Rattle.std.specs.List.{range_with_len, sum_by, count_by, filter, list_all}
use Rattle.std.specs.Ordering.{nat_cmp}
use Rattle.std.specs.Cmp.{nat_cmp_total, unsigned_tied}
use Rattle.std.specs.FinSet as set
use Rattle.std.specs.FinSet.{from_list_push, nat_cmp-IsAntisymmetric, contains-remove, contains-from_list_nat}
use Rattle.std.proofs.Math.ListN.{replicate}
use Rattle.std.proofs.lemmas.Bool.Decides.{nat_tests}
use Rattle.std.proofs.lemmas.List.{length-append, length-replicate, length-set}
use Rattle.std.proofs.lemmas.List.Elements.{All-head, All-tail, All-set, All-append, All-replicate, All-weaker}
use Rattle.std.proofs.lemmas.List.Sums.{sum_by-cons, AllPass-from_list_all}
use Rattle.d64_image.specs.declared.image.TheConstants.{BLOCK_BYTES}
use Rattle.d64_image.specs.Block.{sectors_on, first_block, pair_at}
use Rattle.d64_image.specs.BlockSet.{MembersAreBelow}
use Rattle.d64_image.specs.Image.{IsBlock, IsSize, IsImage, tracks_of, with_sector}
use Rattle.d64_image.proofs.Sizes.{tracks_most, counted_within}
use Rattle.d64_image.proofs.Pairs.{pair_at-counted}
use Rattle.d64_map.specs.Track.{blocks_on, members_on}
use Rattle.d64_map.specs.Map.{map_block, count_of, all_of, free_blocks, blocks_free, CountsFit, with_map}
use Rattle.d64_map.proofs.Ranges.{range_push, count_more}
use Rattle.d64_map.proofs.FreeBlocks.{any-below}
use Rattle.d64_map.proofs.Maps.{length-with_map, free_blocks-with_map, counts-with_map, IsImage-with_map}
use Rattle.d64_files.specs.Name.{IsName, filled_field}
use Rattle.d64_files.specs.Directory.{directory_start}
use Rattle.d64_effects.specs.Format.{header, free_when_formatted, blank_disk, formatted_disk}
use Rattle.d64_files.specs.Writing.{empty_directory}
use Rattle.d64_effects.specs.Laws.{AreTwoBytes, free_count_of}
use Rattle.d64_files.proofs.WrittenBytes.{length-filled_field}

-- one step of the set of all blocks
pub from_range_more : (n block : ℕ) (s t : set.FinSet nat_cmp) → s ≡ set.from_list (range_with_len 0 n) → block ≡ n
    → t ≡ set.insert s block → t ≡ set.from_list (range_with_len 0 (n + 1))
from_range_more n block s t so_far is more =
    let z : 0 + n ≡ n = omega arith in
    more ∙ ap₂ (λ (x : set.FinSet nat_cmp) (b : ℕ). set.insert x b) so_far (is ∙ sym z)
    ∙ sym (from_list_push nat_cmp_total nat_cmp-IsAntisymmetric (range_with_len 0 n) (0 + n))
    ∙ ap (λ (xs : List ℕ). set.from_list {R = nat_cmp} xs) (sym (range_push 0 n))

-- the members are all blocks but the two
pub contains-free : (count : ℕ) (size : IsSize count) (q : ℕ) → set.contains (free_when_formatted count) q ≡ (not (eqb q directory_start) && (not (eqb q map_block) && ltb q count))
unfolding free_when_formatted
contains-free count size q =
    contains-remove nat_cmp_total (set.remove (all_of count) map_block) directory_start q
    ∙ ap₂ (λ (a b : Bool). not a && b) (unsigned_tied q directory_start)
    (contains-remove nat_cmp_total (all_of count) map_block q
    ∙ ap₂ (λ (a b : Bool). not a && b) (unsigned_tied q map_block) (contains-from_list_nat (range_with_len 0 count) q ∙ any-below count q))

-- each member is one of the disk's blocks
pub members_are_below : (count : ℕ) (size : IsSize count) → MembersAreBelow count (free_when_formatted count)
members_are_below count size q member = let e = sym (contains-free count size q) ∙ member in grind (arith, nat_tests)

-- each other block is a member
other_is_member : (count : ℕ) (size : IsSize count) (q : ℕ) → q < count → q ≢ map_block → q ≢ directory_start → set.contains (free_when_formatted count) q ≡ true
other_is_member count size q h m d = contains-free count size q ∙ grind (arith, nat_tests)

-- a block of zeros
abbrev zeros : List ℕ
zeros = replicate 256 0

-- the blank image has its blocks
pub length-parts : (count : ℕ) (size : IsSize count) (name id : List ℕ) → length (with_sector (with_sector (blank_disk count) map_block (header name id)) directory_start empty_directory) ≡ count
unfolding blank_disk
length-parts count size name id =
    length-set (with_sector (blank_disk count) map_block (header name id)) directory_start empty_directory ∙ length-set (blank_disk count) map_block (header name id) ∙ length-replicate count zeros

pub free_blocks-formatted_disk : (count : ℕ) (size : IsSize count) (name id : List ℕ) → free_blocks (formatted_disk count name id) ≡ free_when_formatted count
unfolding formatted_disk
free_blocks-formatted_disk count size name id =
    free_blocks-with_map (with_sector (with_sector (blank_disk count) map_block (header name id)) directory_start empty_directory) (free_when_formatted count)
    (subst IsSize (sym (length-parts count size name id)) size)
    (subst (λ (n : ℕ). MembersAreBelow n (free_when_formatted count)) (sym (length-parts count size name id)) (members_are_below count size))

pub counts-formatted_disk : (count : ℕ) (size : IsSize count) (name id : List ℕ) → CountsFit (formatted_disk count name id)
unfolding formatted_disk
counts-formatted_disk count size name id =
    counts-with_map (with_sector (with_sector (blank_disk count) map_block (header name id)) directory_start empty_directory) (free_when_formatted count)
    (subst IsSize (sym (length-parts count size name id)) size)
    (subst (λ (n : ℕ). MembersAreBelow n (free_when_formatted count)) (sym (length-parts count size name id)) (members_are_below count size))

-- a range of which each number passes
count_all : (p : ℕ → Bool) (a n : ℕ) → ((i : ℕ) → i < n → p (a + i) ≡ true) → n ≡ count_by p (range_with_len a n)
count_all p a zero all = refl
count_all p a (suc n) all =
    let e : n + 1 ≡ suc n = omega arith in
    subst (λ (m : ℕ). m ≡ count_by p (range_with_len a m)) e
    (count_more p a n n (n + 1) (count_all p a n (λ i h. all i (omega arith))) (all n (omega arith)) refl)

-- sums of the same numbers
sum_by-same : (f g : ℕ → ℕ) (xs : List ℕ) → All (λ x. f x ≡ g x) xs → sum_by f xs ≡ sum_by g xs
sum_by-same f g [] all = refl
sum_by-same f g (x ∷ xs) all =
    sum_by-cons f x xs ∙ ap₂ (λ (a b : ℕ). a + b) (All-head (λ y. f y ≡ g y) x xs all) (sum_by-same f g xs (All-tail (λ y. f y ≡ g y) x xs all)) ∙ sym (sum_by-cons g x xs)

-- the pairs of the two blocks
map_block-pair : pair_at map_block ≡ (18, 0)
unfolding first_block
map_block-pair = pair_at-counted 18 0 (omega arith) (omega arith) (omega arith)

directory_start-pair : pair_at directory_start ≡ (18, 1)
unfolding first_block
directory_start-pair = pair_at-counted 18 1 (omega arith) (omega arith) (omega arith)

-- all blocks of a track other than 18 are free
whole_track : (count : ℕ) (size : IsSize count) (track : ℕ) → 1 ≤ track → track ≤ tracks_of count → track ≢ 18 → members_on (free_when_formatted count) track ≡ sectors_on track
unfolding members_on blocks_on
whole_track count size track one last other =
    sym (count_all (set.contains (free_when_formatted count)) (first_block track) (sectors_on track) (λ i h.
    let p = pair_at-counted track i one (let most = tracks_most count size in omega arith) h in
    other_is_member count size (first_block track + i) (counted_within count track i size last h)
    (λ e. other (ap (λ (pair : ℕ × ℕ). pair.0) (sym p ∙ ap pair_at e ∙ map_block-pair)))
    (λ e. other (ap (λ (pair : ℕ × ℕ). pair.0) (sym p ∙ ap pair_at e ∙ directory_start-pair)))))

pub length-formatted_disk : (count : ℕ) (size : IsSize count) (name id : List ℕ) → length (formatted_disk count name id) ≡ count
unfolding formatted_disk
length-formatted_disk count size name id =
    length-with_map (with_sector (with_sector (blank_disk count) map_block (header name id)) directory_start empty_directory) (free_when_formatted count) ∙ length-parts count size name id

-- a track that the directory's sum counts, of n tracks
abbrev is_counted : ℕ → ℕ → Bool
is_counted tracks track = nat_le 1 track && (nat_le track tracks && not (nat_eq track 18))

-- the tracks whose counts are summed
abbrev summed_tracks : ℕ → List ℕ
summed_tracks tracks = filter (λ track. not (nat_eq track 18)) (range_with_len 1 tracks)

-- each of them counts all its sectors
counts_summed : (count : ℕ) (size : IsSize count) (name id : List ℕ) (tracks total : ℕ) → tracks ≡ tracks_of count
    → list_all (is_counted tracks) (summed_tracks tracks) ≡ true → sum_by sectors_on (summed_tracks tracks) ≡ total
    → sum_by (count_of (formatted_disk count name id)) (summed_tracks tracks) ≡ total
counts_summed count size name id tracks total same legal summed =
    sum_by-same (count_of (formatted_disk count name id)) sectors_on (summed_tracks tracks)
    (All-weaker (λ t. is_counted tracks t ≡ true) (λ t. count_of (formatted_disk count name id) t ≡ sectors_on t) (λ t h.
    let one : 1 ≤ t = grind (arith, nat_tests) in
    let last : t ≤ tracks = grind (arith, nat_tests) in
    let other : t ≢ 18 = grind (arith, nat_tests) in
    let within : t ≤ tracks_of count = subst (λ (n : ℕ). t ≤ n) same last in
    let fits : CountsFit (formatted_disk count name id) = counts-formatted_disk count size name id in
    fits.each t one (subst (λ (n : ℕ). t ≤ tracks_of n) (sym (length-formatted_disk count size name id)) within)
    ∙ ap (λ (s : set.FinSet nat_cmp). members_on s t) (free_blocks-formatted_disk count size name id) ∙ whole_track count size t one within other)
    (summed_tracks tracks) (AllPass-from_list_all (is_counted tracks) (summed_tracks tracks) legal))
    ∙ summed

pub blocks_free-formatted_disk : (count : ℕ) (size : IsSize count) (name id : List ℕ) → blocks_free (formatted_disk count name id) ≡ free_count_of count
unfolding blocks_free
blocks_free-formatted_disk count size name id =
    let summed : ℕ → ℕ = λ tracks. sum_by (count_of (formatted_disk count name id)) (summed_tracks tracks) in
    ap (λ (n : ℕ). summed (tracks_of n)) (length-formatted_disk count size name id)
    ∙ elim size [
      | inl fewer ↦ ap (λ (n : ℕ). summed (tracks_of n)) fewer
          ∙ counts_summed count (inl fewer) name id 35 664 (sym (ap tracks_of fewer)) refl refl ∙ sym (ap free_count_of fewer)
      | inr all ↦ ap (λ (n : ℕ). summed (tracks_of n)) all
          ∙ counts_summed count (inr all) name id 40 749 (sym (ap tracks_of all)) refl refl ∙ sym (ap free_count_of all)
    ]

-- numbers that pass the test are bytes
are_bytes : (xs : List ℕ) → list_all (λ byte. nat_lt byte 256) xs ≡ true → All (λ byte. byte < 256) xs
are_bytes xs pass =
    All-weaker (λ byte. nat_lt byte 256 ≡ true) (λ byte. byte < 256) (λ byte h. grind (arith, nat_tests)) xs
    (AllPass-from_list_all (λ byte. nat_lt byte 256) xs pass)

-- the block that its parts make
label_is_block : (start field id back : List ℕ) → length start ≡ 144 → length field ≡ 16 → length id ≡ 2 → length back ≡ 85
    → All (λ byte. byte < 256) start → All (λ byte. byte < 256) field → All (λ byte. byte < 256) id → All (λ byte. byte < 256) back
    → IsBlock (start ++ field ++ (0xA0 ∷ 0xA0 ∷ []) ++ id ++ (0xA0 ∷ []) ++ (0x32 ∷ 0x41 ∷ []) ++ replicate 4 0xA0 ++ back)
label_is_block start field id back l1 l2 l3 l4 a1 a2 a3 a4 =
    let P : ℕ → Type 0 = λ byte. byte < 256 in
    let w1 : List ℕ = start ++ field in
    let w2 : List ℕ = w1 ++ (0xA0 ∷ 0xA0 ∷ []) in
    let w3 : List ℕ = w2 ++ id in
    let w4 : List ℕ = w3 ++ (0xA0 ∷ []) in
    let w5 : List ℕ = w4 ++ (0x32 ∷ 0x41 ∷ []) in
    let w6 : List ℕ = w5 ++ replicate 4 0xA0 in
    let e1 = length-append start field in
    let e2 = length-append w1 (0xA0 ∷ 0xA0 ∷ []) in
    let e3 = length-append w2 id in
    let e4 = length-append w3 (0xA0 ∷ []) in
    let e5 = length-append w4 (0x32 ∷ 0x41 ∷ []) in
    let e6 = length-append w5 (replicate 4 0xA0) in
    let e7 = length-append w6 back in (
      omega arith,
      All-append P w6 back
          (All-append P w5 (replicate 4 0xA0)
          (All-append P w4 (0x32 ∷ 0x41 ∷ [])
          (All-append P w3 (0xA0 ∷ [])
          (All-append P w2 id (All-append P w1 (0xA0 ∷ 0xA0 ∷ []) (All-append P start field a1 a2) (are_bytes (0xA0 ∷ 0xA0 ∷ []) refl)) a3)
          (are_bytes (0xA0 ∷ []) refl))
          (are_bytes (0x32 ∷ 0x41 ∷ []) refl))
          (are_bytes (replicate 4 0xA0) refl))
          a4,
    )

pub IsBlock-header : (name id : List ℕ) → IsName name → AreTwoBytes id → IsBlock (header name id)
unfolding header
IsBlock-header name id named two =
    let P : ℕ → Type 0 = λ byte. byte < 256 in
    let start : List ℕ = 0x12 ∷ 0x01 ∷ 0x41 ∷ 0x00 ∷ replicate 140 0 in
    label_is_block start (filled_field name) id (replicate 85 0) refl (length-filled_field name named.short) two.0 refl
    (are_bytes start refl)
    (All-append P name (replicate (16 - length name) 0xA0) named.in_range (All-replicate P (16 - length name) 0xA0 (omega arith)))
    two.1 (are_bytes (replicate 85 0) refl)

-- the directory's first block is a block
pub IsBlock-empty_directory : IsBlock empty_directory
unfolding empty_directory
IsBlock-empty_directory = (refl, are_bytes (0x00 ∷ 0xFF ∷ replicate 254 0) refl)

blank_blocks : (count : ℕ) (size : IsSize count) → All IsBlock (blank_disk count)
unfolding blank_disk
blank_blocks count size = All-replicate IsBlock count zeros (refl, are_bytes zeros refl)

pub IsImage-formatted_disk : (count : ℕ) (size : IsSize count) (name id : List ℕ) → IsName name → AreTwoBytes id → IsImage (formatted_disk count name id)
unfolding formatted_disk
IsImage-formatted_disk count size name id named two =
    IsImage-with_map (with_sector (with_sector (blank_disk count) map_block (header name id)) directory_start empty_directory) (free_when_formatted count) (
      subst IsSize (sym (length-parts count size name id)) size,
      All-set IsBlock (with_sector (blank_disk count) map_block (header name id)) directory_start empty_directory IsBlock-empty_directory
          (All-set IsBlock (blank_disk count) map_block (header name id) (IsBlock-header name id named two) (blank_blocks count size)),
    )

-- the parts that the code puts together
pub formatted_from_parts : (count : ℕ) (name id : List ℕ) (image made : List (List ℕ)) (place start : ℕ) (label directory : List ℕ) (free : set.FinSet nat_cmp)
    → image ≡ blank_disk count → place ≡ map_block → label ≡ header name id → start ≡ directory_start
    → directory ≡ empty_directory → free ≡ free_when_formatted count → made ≡ with_map (with_sector (with_sector image place label) start directory) free
    → made ≡ formatted_disk count name id
unfolding formatted_disk blank_disk
formatted_from_parts count name id image made place start label directory free i p l s d f m =
    m ∙ ap₂ with_map (ap (λ (x : List (List ℕ)). with_sector (with_sector x place label) start directory) i
    ∙ ap₂ (λ (b : ℕ) (x : List ℕ). with_sector (with_sector (replicate count (replicate BLOCK_BYTES 0)) b x) start directory) p l
    ∙ ap₂ (λ (b : ℕ) (x : List ℕ). with_sector (with_sector (replicate count (replicate BLOCK_BYTES 0)) map_block (header name id)) b x) s d) f
