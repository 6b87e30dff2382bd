-- what the map that is written for a set says
use Rattle.std.proofs.Common.{◌≡◌, ◌≢◌, ℕ, ◌+◌, ◌-◌, ◌*◌, ◌/◌, ◌%◌, ◌<◌, ◌≤◌, true, false, cond, nat_eq, List, [], length, get_or, sym, ap, ◌∙◌, subst, inl, inr, arith}
use Rattle.std.specs.List.{range_with_len, slice_set}
use Rattle.std.specs.Int.{bit_at}
use Rattle.std.specs.Ordering.{nat_cmp}
use Rattle.std.specs.Cmp.{nat_cmp_total}
use Rattle.std.specs.FinSet as set
use Rattle.std.specs.FinSet.{same_set, nat_cmp-IsAntisymmetric}
use Rattle.std.proofs.lemmas.Bool.{cases_lt, cases_eq, cases_Bool, eq-eqb, ne_eqb, cond-true, cond-false}
use Rattle.std.proofs.lemmas.Bool.Decides.{nat_tests}
use Rattle.std.proofs.lemmas.List.{get_or-set_same, get_or-set_other, get_or_past, length-set}
use Rattle.std.proofs.lemmas.List.Elements.{All-set, All-from_get_or}
use Rattle.std.proofs.lemmas.List.FromFn.{fill_by_all, get_or-map-range_with_len, length-map-range_with_len, length-range_with_len}
use Rattle.std.proofs.lemmas.List.Sums.{count_by-le-length}
use Rattle.d64_image.specs.declared.block.TheConstants.{BLOCKS}
use Rattle.d64_image.specs.Block.{sectors_on, first_block, pair_at}
use Rattle.d64_image.specs.BlockSet.{MembersAreBelow}
use Rattle.d64_image.specs.Image.{IsBlock, IsImage, IsSize, tracks_of, sector_at}
use Rattle.d64_image.proofs.Zones.{Placed, placed}
use Rattle.d64_image.proofs.Sizes.{size_least, size_most, tracks_most, tracks_counted}
use Rattle.d64_image.proofs.Pairs.{pair_at-counted}
use Rattle.d64_map.specs.Track.{has_sector, blocks_on, members_on}
use Rattle.d64_map.specs.Map.{map_block, map_entry_place, IsOfTrack, is_free, free_blocks, CountsFit, bits_for, entry_track, map_byte, is_entry, map_for, with_map}
use Rattle.d64_map.proofs.Sectors.{has_sector-legal}
use Rattle.d64_map.proofs.Entries.{entry_of-four, entry_below, entry_track-of, HasTracks, has_tracks, entry}
use Rattle.d64_map.proofs.FreeBlocks.{contains-free_blocks, contains-free_blocks-past}
use Rattle.d64_map.proofs.Bits.{bit_at-sum, as_bit, bit_test, byte_below}

-- 256 bytes that are new at the entries and old elsewhere are the map's block for the set
pub map_for-is : (tracks : ℕ) (bytes xs : List ℕ) (free : set.FinSet nat_cmp) → length xs ≡ 256
    → ((k : ℕ) → is_entry tracks k ≡ true → get_or xs k 0 ≡ map_byte free k)
    → ((k : ℕ) → is_entry tracks k ≡ false → get_or xs k 0 ≡ get_or bytes k 0) → xs ≡ map_for tracks bytes free
unfolding map_for
map_for-is tracks bytes xs free long inside outside =
    fill_by_all (λ place. cond (is_entry tracks place) (map_byte free place) (get_or bytes place 0)) xs 256 0 long (λ k h.
    elim (cases_Bool (is_entry tracks k)) [
      | inl t ↦ inside k t ∙ sym (cond-true (is_entry tracks k) (map_byte free k) (get_or bytes k 0) t)
      | inr f ↦ outside k f ∙ sym (cond-false (is_entry tracks k) (map_byte free k) (get_or bytes k 0) f)
    ])

pub length-map_for : (tracks : ℕ) (bytes : List ℕ) (free : set.FinSet nat_cmp) → length (map_for tracks bytes free) ≡ 256
unfolding map_for
length-map_for tracks bytes free = length-map-range_with_len (λ place. cond (is_entry tracks place) (map_byte free place) (get_or bytes place 0)) 0 256

at_place : (tracks : ℕ) (bytes : List ℕ) (free : set.FinSet nat_cmp) (place : ℕ) → place < 256
    → get_or (map_for tracks bytes free) place 0 ≡ cond (is_entry tracks place) (map_byte free place) (get_or bytes place 0)
unfolding map_for
at_place tracks bytes free place h =
    get_or-map-range_with_len (λ k. cond (is_entry tracks k) (map_byte free k) (get_or bytes k 0)) 0 256 place place 0 h (omega arith)

pub at_entry : (tracks track part : ℕ) (bytes : List ℕ) (free : set.FinSet nat_cmp) → HasTracks tracks → 1 ≤ track → track ≤ tracks → track < 41 → part < 4
    → get_or (map_for tracks bytes free) (map_entry_place track + part) 0 ≡ map_byte free (map_entry_place track + part)
at_entry tracks track part bytes free has one last few h =
    let below = entry_below track few in
    at_place tracks bytes free (map_entry_place track + part) (omega arith)
    ∙ cond-true (is_entry tracks (map_entry_place track + part)) _ _ (entry tracks track (map_entry_place track + part) has one last (omega arith, omega arith))

pub elsewhere : (tracks : ℕ) (bytes : List ℕ) (free : set.FinSet nat_cmp) (place : ℕ) → length bytes ≡ 256 → is_entry tracks place ≡ false
    → get_or (map_for tracks bytes free) place 0 ≡ get_or bytes place 0
elsewhere tracks bytes free place long outside =
    elim (cases_lt place 256) [
      | inl h ↦ at_place tracks bytes free place h ∙ cond-false (is_entry tracks place) (map_byte free place) (get_or bytes place 0) outside
      | inr past ↦
          let m = length-map_for tracks bytes free in
          get_or_past (map_for tracks bytes free) place 0 (omega arith) ∙ sym (get_or_past bytes place 0 (omega arith))
    ]

-- the map's block of the image whose map was written
pub sector_at-with_map : (image : List (List ℕ)) (free : set.FinSet nat_cmp) → map_block < length image
    → sector_at (with_map image free) map_block ≡ map_for (tracks_of (length image)) (sector_at image map_block) free
unfolding with_map
sector_at-with_map image free h = get_or-set_same image map_block (map_for (tracks_of (length image)) (sector_at image map_block) free) [] h

pub sector_at-with_map-other : (image : List (List ℕ)) (free : set.FinSet nat_cmp) (block : ℕ) → block ≢ map_block → sector_at (with_map image free) block ≡ sector_at image block
unfolding with_map
sector_at-with_map-other image free block h = get_or-set_other image map_block block (map_for (tracks_of (length image)) (sector_at image map_block) free) [] h

pub length-with_map : (image : List (List ℕ)) (free : set.FinSet nat_cmp) → length (with_map image free) ≡ length image
unfolding with_map
length-with_map image free = length-set image map_block (map_for (tracks_of (length image)) (sector_at image map_block) free)

-- an image whose map's block has bytes has that block
pub has_map : (image : List (List ℕ)) → length (sector_at image map_block) ≡ 256 → map_block < length image
has_map image long =
    elim (cases_lt map_block (length image)) [
      | inl h ↦ h
      | inr past ↦ let e = ap length (get_or_past image map_block [] past) in absurd (omega (arith, e, long))
    ]

-- the byte of a track's count, and those of its bits
pub map_byte-count : (free : set.FinSet nat_cmp) (track place : ℕ) → track < 41 → place ≡ map_entry_place track → map_byte free place ≡ members_on free track
unfolding map_byte
map_byte-count free track place few e =
    let four = entry_of-four track in
    let r : place % 4 ≡ 0 = omega arith in
    let z : place ≡ map_entry_place track + 0 = omega arith in
    let q : entry_track place ≡ track = ap entry_track z ∙ entry_track-of track 0 few (omega arith) in
    cond-true _ _ _ (eq-eqb (place % 4) 0 r) ∙ ap (members_on free) q

pub map_byte-bits : (free : set.FinSet nat_cmp) (track part place : ℕ) → track < 41 → part < 3 → place ≡ map_entry_place track + 1 + part → map_byte free place ≡ bits_for free track (8 * part)
unfolding map_byte
map_byte-bits free track part place last few e =
    let four = entry_of-four track in
    let r : place % 4 ≡ part + 1 = omega arith in
    let z : place ≡ map_entry_place track + (1 + part) = omega arith in
    let q : entry_track place ≡ track = ap entry_track z ∙ entry_track-of track (1 + part) last (omega arith) in
    let p : place % 4 - 1 ≡ part = omega arith in
    cond-false _ _ _ (ne_eqb (place % 4) 0 (λ z. omega arith)) ∙ ap (λ (t : ℕ). bits_for free t (8 * (place % 4 - 1))) q ∙ ap (λ (k : ℕ). bits_for free track (8 * k)) p

-- a track's entry after its four bytes were written, the count first
pub entry_written : (xs : List ℕ) (free : set.FinSet nat_cmp) (track entry count low middle high : ℕ) → length xs ≡ 256 → track < 41 → entry ≡ map_entry_place track
    → count ≡ members_on free track → low ≡ bits_for free track 0 → middle ≡ bits_for free track 8 → high ≡ bits_for free track 16
    → (place : ℕ) → IsOfTrack track place
    → get_or (slice_set (slice_set (slice_set (slice_set xs entry count) (entry + 1) low) (entry + 2) middle) (entry + 3) high) place 0 ≡ map_byte free place
entry_written xs free track entry count low middle high long last same counted a b c place here =
    let one : List ℕ = slice_set xs entry count in
    let two : List ℕ = slice_set one (entry + 1) low in
    let three : List ℕ = slice_set two (entry + 2) middle in
    let m = length-set xs entry count in
    let n = length-set one (entry + 1) low in
    let o = length-set two (entry + 2) middle in
    let from = here.0 in
    let to = here.1 in
    let below = entry_below track last in
    elim (cases_eq place (entry + 3)) [
      | inl e ↦ ap (λ (k : ℕ). get_or (slice_set three (entry + 3) high) k 0) e ∙ get_or-set_same three (entry + 3) high 0 (omega arith)
          ∙ c ∙ sym (map_byte-bits free track 2 place last (omega arith) (omega arith))
      | inr p ↦ get_or-set_other three (entry + 3) place high 0 p
          ∙ elim (cases_eq place (entry + 2)) [
            | inl e ↦ ap (λ (k : ℕ). get_or three k 0) e ∙ get_or-set_same two (entry + 2) middle 0 (omega arith)
                ∙ b ∙ sym (map_byte-bits free track 1 place last (omega arith) (omega arith))
            | inr q ↦ get_or-set_other two (entry + 2) place middle 0 q
                ∙ elim (cases_eq place (entry + 1)) [
                  | inl e ↦ ap (λ (k : ℕ). get_or two k 0) e ∙ get_or-set_same one (entry + 1) low 0 (omega arith)
                      ∙ a ∙ sym (map_byte-bits free track 0 place last (omega arith) (omega arith))
                  | inr r ↦ get_or-set_other one (entry + 1) place low 0 r
                      ∙ (let e : place ≡ entry = omega (arith, p, q, r, from, to, same) in
                      ap (λ (k : ℕ). get_or one k 0) e ∙ get_or-set_same xs entry count 0 (omega arith)
                      ∙ counted ∙ sym (map_byte-count free track place last (omega arith)))
                ]
          ]
    ]

-- each bit of the byte for eight sectors
pub bit_at-bits_for : (free : set.FinSet nat_cmp) (track first k : ℕ) → k < 8 → bit_at (bits_for free track first) k ≡ as_bit (has_sector free track (first + k))
unfolding bits_for
bit_at-bits_for free track first k h = bit_at-sum (λ b. has_sector free track (first + b)) 8 k h

-- the pair of a block is legal, and the block is counted from it
pub record IsPlaced (block : ℕ) : Type 0 where
  pub from_one : 1 ≤ (pair_at block).0
  pub within : (pair_at block).0 < 41
  pub held : (pair_at block).1 < sectors_on (pair_at block).0
  pub counted : first_block (pair_at block).0 + (pair_at block).1 ≡ block

pub placed_at : (block : ℕ) → block < BLOCKS → IsPlaced block
placed_at block h =
    let p : Placed block = placed block h in
    let q : (p.track, p.sector) ≡ pair_at block = sym (ap pair_at (sym p.counted) ∙ pair_at-counted p.track p.sector p.from_one p.within p.held) in
    let P : ℕ × ℕ → Type 0 = λ x. (1 ≤ x.0) × (x.0 < 41) × (x.1 < sectors_on x.0) × (first_block x.0 + x.1 ≡ block) in
    let r : P (pair_at block) = subst P q (p.from_one, p.within, p.held, p.counted) in
    record { from_one = r.0; within = r.1; held = r.2; counted = r.3 }

pub sectors_few : (track : ℕ) → sectors_on track < 22
sectors_few track = grind (arith, nat_tests)

-- a block of the image lies on one of its tracks
pub track_within : (count block : ℕ) → IsSize count → block < count → (pair_at block).0 ≤ tracks_of count
track_within count block size h =
    let most = size_most count size in
    let p = placed_at block (omega arith) in
    let track : ℕ = (pair_at block).0 in
    elim (cases_lt (tracks_of count) track) [
      | inl beyond ↦ absurd (let past = tracks_counted count track size beyond p.within in let e = p.counted in omega arith)
      | inr within ↦ within
    ]

-- the bit of a block in the map that is written for a set says whether it is a member
pub is_free-with_map : (image : List (List ℕ)) (free : set.FinSet nat_cmp) (block : ℕ) → IsSize (length image) → block < length image
    → is_free (with_map image free) block ≡ set.contains free block
unfolding is_free
is_free-with_map image free block size h =
    let least = size_least (length image) size in
    let most = size_most (length image) size in
    let p = placed_at block (omega arith) in
    let tracks : ℕ = tracks_of (length image) in
    let track : ℕ = (pair_at block).0 in
    let sector : ℕ = (pair_at block).1 in
    let few = sectors_few track in
    let held : sector < sectors_on track = p.held in
    let part : sector / 8 < 3 = omega arith in
    let place : map_entry_place track + 1 + sector / 8 ≡ map_entry_place track + (1 + sector / 8) = omega arith in
    let byte : get_or (sector_at (with_map image free) map_block) (map_entry_place track + 1 + sector / 8) 0 ≡ bits_for free track (8 * (sector / 8)) =
    ap (λ (x : List ℕ). get_or x (map_entry_place track + 1 + sector / 8) 0) (sector_at-with_map image free (omega arith))
    ∙ ap (λ (k : ℕ). get_or (map_for tracks (sector_at image map_block) free) k 0) place
    ∙ at_entry tracks track (1 + sector / 8) (sector_at image map_block) free (has_tracks (length image) size) p.from_one (track_within (length image) block size h) p.within (omega arith)
    ∙ map_byte-bits free track (sector / 8) (map_entry_place track + (1 + sector / 8)) p.within part (sym place) in
    let whole : 8 * (sector / 8) + sector % 8 ≡ sector = omega arith in
    ap (λ (n : ℕ). nat_eq (bit_at n (sector % 8)) 1) byte
    ∙ ap (λ (n : ℕ). nat_eq n 1) (bit_at-bits_for free track (8 * (sector / 8)) (sector % 8) (omega arith))
    ∙ bit_test (has_sector free track (8 * (sector / 8) + sector % 8))
    ∙ ap (has_sector free track) whole ∙ has_sector-legal free track sector p.from_one p.within p.held ∙ ap (set.contains free) p.counted

-- the map that is written for a set marks free exactly that set
pub free_blocks-with_map : (image : List (List ℕ)) (free : set.FinSet nat_cmp) → IsSize (length image) → MembersAreBelow (length image) free → free_blocks (with_map image free) ≡ free
free_blocks-with_map image free size legal =
    let l = length-with_map image free in
    same_set nat_cmp_total nat_cmp-IsAntisymmetric _ _ (λ q.
    elim (cases_lt q (length image)) [
      | inl h ↦ contains-free_blocks (with_map image free) q (omega arith) ∙ is_free-with_map image free q size h
      | inr past ↦ contains-free_blocks-past (with_map image free) q (omega arith)
          ∙ elim (cases_Bool (set.contains free q)) [ inl member ↦ absurd (let h = legal q member in omega arith) | inr none ↦ sym none ]
    ])

-- and its counts fit
pub counts-with_map : (image : List (List ℕ)) (free : set.FinSet nat_cmp) → IsSize (length image) → MembersAreBelow (length image) free → CountsFit (with_map image free)
counts-with_map image free size legal = record {
  each = λ track one last.
      let least = size_least (length image) size in
      let most = tracks_most (length image) size in
      let within : track ≤ tracks_of (length image) = subst (λ (n : ℕ). track ≤ tracks_of n) (length-with_map image free) last in
      let place : map_entry_place track ≡ map_entry_place track + 0 = omega arith in
      ap (λ (x : List ℕ). get_or x (map_entry_place track) 0) (sector_at-with_map image free (omega arith))
      ∙ ap (λ (k : ℕ). get_or (map_for (tracks_of (length image)) (sector_at image map_block) free) k 0) place
      ∙ at_entry (tracks_of (length image)) track 0 (sector_at image map_block) free (has_tracks (length image) size) one within (omega arith) (omega arith)
      ∙ map_byte-count free track (map_entry_place track + 0) (omega arith) (sym place)
      ∙ ap (λ (s : set.FinSet nat_cmp). members_on s track) (sym (free_blocks-with_map image free size legal));
}

-- the bytes of the map's block are bytes
few_members : (free : set.FinSet nat_cmp) (track : ℕ) → members_on free track < 256
unfolding members_on blocks_on
few_members free track =
    let c = count_by-le-length (set.contains free) (range_with_len (first_block track) (sectors_on track)) in
    let l = length-range_with_len (first_block track) (sectors_on track) in
    let few = sectors_few track in
    omega arith

below_256 : (free : set.FinSet nat_cmp) (place : ℕ) → map_byte free place < 256
unfolding map_byte bits_for
below_256 free place =
    elim (cases_eq (place % 4) 0) [
      | inl e ↦ subst (λ (n : ℕ). n < 256) (sym (cond-true _ _ _ (eq-eqb (place % 4) 0 e))) (few_members free (entry_track place))
      | inr e ↦ subst (λ (n : ℕ). n < 256) (sym (cond-false _ _ _ (ne_eqb (place % 4) 0 e))) (byte_below (λ b. has_sector free (entry_track place) (8 * (place % 4 - 1) + b)))
    ]

pub IsBlock-map_for : (tracks : ℕ) (bytes : List ℕ) (free : set.FinSet nat_cmp) → IsBlock bytes → IsBlock (map_for tracks bytes free)
IsBlock-map_for tracks bytes free old = (
  length-map_for tracks bytes free,
  All-from_get_or (λ byte. byte < 256) (map_for tracks bytes free) 0 (λ k h.
      let m = length-map_for tracks bytes free in
      let here : k < 256 = omega arith in
      elim (cases_Bool (is_entry tracks k)) [
        | inl e ↦ subst (λ (n : ℕ). n < 256) (sym (at_place tracks bytes free k here ∙ cond-true (is_entry tracks k) (map_byte free k) (get_or bytes k 0) e)) (below_256 free k)
        | inr e ↦ subst (λ (n : ℕ). n < 256) (sym (at_place tracks bytes free k here ∙ cond-false (is_entry tracks k) (map_byte free k) (get_or bytes k 0) e)) (old.1 k 0 (let l = old.0 in omega arith))
      ]),
)

pub IsImage-with_map : (image : List (List ℕ)) (free : set.FinSet nat_cmp) → IsImage image → IsImage (with_map image free)
unfolding with_map
IsImage-with_map image free is =
    let tracks : ℕ = tracks_of (length image) in
    let least = size_least (length image) is.0 in (
      subst IsSize (sym (length-set image map_block (map_for tracks (sector_at image map_block) free))) is.0,
      All-set IsBlock image map_block (map_for tracks (sector_at image map_block) free) (IsBlock-map_for tracks (sector_at image map_block) free (is.1 map_block [] (omega arith))) is.1,
    )
