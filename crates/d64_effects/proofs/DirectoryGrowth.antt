-- what a directory's growth by a block with an entry leaves
use Rattle.std.proofs.Common.{◌≡◌, ◌≢◌, ℕ, zero, suc, ◌+◌, ◌-◌, ◌*◌, ◌<◌, ◌||◌, Bool, true, false, eqb, List, [], ◌∷◌, ◌++◌, map, length, get_or, drop, replicate, Some, refl, sym, ap, ap₂, ◌∙◌, subst, inl, inr, arith}
use Rattle.std.specs.Prelude.{All}
use Rattle.std.specs.List.{list_any}
use Rattle.std.proofs.lemmas.Bool.{cases_eq, eq-eqb, ne_eqb, or_right, or_parts, or_from}
use Rattle.std.proofs.lemmas.List.{ext_get_or, get_or-set_same, get_or-set_other, get_or-drop, get_or-append_right, get_or-replicate, get_or-map, length-append, length-drop, length-map, length-set, map-append, take_at, append-nil}
use Rattle.std.proofs.lemmas.List.Concat.{flat_map-cons}
use Rattle.std.proofs.lemmas.List.Elements.{All-nil, All-cons, All-set}
use Rattle.std.proofs.lemmas.List.Folds.{list_any_at, list_any-append}
use Rattle.std.proofs.lemmas.Grind.{flat_map-append}
use Rattle.d64_image.specs.declared.block.TheConstants.{BLOCKS}
use Rattle.d64_image.specs.declared.image.TheConstants.{BLOCK_BYTES}
use Rattle.d64_image.specs.Block.{pair_at}
use Rattle.d64_image.specs.Image.{IsBlock, IsSize, IsImage, sector_at, with_sector}
use Rattle.d64_files.specs.Chain.{Chain, led_by, link_at, link_of, link_to}
use Rattle.d64_files.specs.Directory.{directory, slots, slots_in}
use Rattle.d64_files.specs.Slot.{cell, cells}
use Rattle.d64_files.specs.Writing.{written_at, with_bytes, pair_bytes, dir_last, empty_directory, with_growth}
use Rattle.d64_files.proofs.Chains.{chain_before, chain_of_one, led_by-alike}
use Rattle.d64_files.proofs.SlotLists.{length-cells, get_or-cells}
use Rattle.d64_files.proofs.WrittenBytes.{length-written_at}
use Rattle.d64_files.specs.Directory.{directory_start}
use Rattle.d64_effects.proofs.DirectoryEntries.{get_or-written_within, get_or-written_past, IsBlock-written_at, length-cell, get_or-cell, Chain-directory, directory-from_Chain, directory-within, block_at}
use Rattle.d64_effects.proofs.EmptyDisks.{IsBlock-empty_directory}
use Rattle.d64_effects.proofs.FileChains.{leads_to, pair_small}

-- the image whose directory has one block more, with an entry in that block's first slot
abbrev pub grown_with : List (List ℕ) → ℕ → List ℕ → List (List ℕ)
grown_with image new entry = with_bytes (with_growth image new) new 2 entry

-- a list that isn't empty has a last element
last_within : (blocks : List ℕ) → blocks ≢ [] → length blocks - 1 < length blocks
last_within [] some = absurd (some refl)
last_within (block ∷ blocks) some = omega arith

-- the directory's last block is one of its blocks
pub dir_last-is_held : (image : List (List ℕ)) → directory image ≢ [] → list_any (eqb (dir_last image)) (directory image) ≡ true
dir_last-is_held image some =
    list_any_at (eqb (dir_last image)) (directory image) (length (directory image) - 1) 0 (last_within (directory image) some)
    (eq-eqb (dir_last image) (dir_last image) refl)

-- and one of the image's
pub dir_last-within : (image : List (List ℕ)) → directory image ≢ [] → dir_last image < length image
dir_last-within image some = directory-within image (dir_last image) some (dir_last-is_held image some)

-- a block that isn't the directory's differs from each that is
pub not_held : (blocks : List ℕ) (new block : ℕ) → list_any (eqb new) blocks ≡ false → list_any (eqb block) blocks ≡ true → block ≢ new
not_held blocks new block fresh found e =
    let f : true ≡ false = sym found ∙ ap (λ (b : ℕ). list_any (eqb b) blocks) e ∙ fresh in cc

-- the other blocks stay
pub sector_at-grown : (image : List (List ℕ)) (new : ℕ) (entry : List ℕ) (block : ℕ) → block ≢ new → block ≢ dir_last image
    → sector_at (grown_with image new entry) block ≡ sector_at image block
unfolding with_growth
sector_at-grown image new entry block other before =
    let linked : List (List ℕ) = with_bytes image (dir_last image) 0 (pair_bytes new) in
    let grown : List (List ℕ) = with_sector linked new empty_directory in
    get_or-set_other grown new block (written_at (sector_at grown new) 2 entry) [] other
    ∙ get_or-set_other linked new block empty_directory [] other
    ∙ get_or-set_other image (dir_last image) block (written_at (sector_at image (dir_last image)) 0 (pair_bytes new)) [] before

-- the directory's last block names the new one
pub sector_at-grown_last : (image : List (List ℕ)) (new : ℕ) (entry : List ℕ) → dir_last image ≢ new → dir_last image < length image
    → sector_at (grown_with image new entry) (dir_last image) ≡ written_at (sector_at image (dir_last image)) 0 (pair_bytes new)
unfolding with_growth
sector_at-grown_last image new entry other inside =
    let linked : List (List ℕ) = with_bytes image (dir_last image) 0 (pair_bytes new) in
    let grown : List (List ℕ) = with_sector linked new empty_directory in
    get_or-set_other grown new (dir_last image) (written_at (sector_at grown new) 2 entry) [] other
    ∙ get_or-set_other linked new (dir_last image) empty_directory [] other
    ∙ get_or-set_same image (dir_last image) (written_at (sector_at image (dir_last image)) 0 (pair_bytes new)) [] inside

-- a block of the directory with an entry in its first slot
abbrev pub first_entry : List ℕ → List ℕ
first_entry entry = (0 ∷ 255 ∷ entry) ++ replicate 224 0

written_first : (entry : List ℕ) → length entry ≡ 30 → written_at empty_directory 2 entry ≡ first_entry entry
unfolding written_at empty_directory
written_first entry full =
    let e : 2 + length entry ≡ 32 = omega arith in
    ap (λ (n : ℕ). 0 ∷ 255 ∷ (entry ++ drop n (0 ∷ 255 ∷ replicate 254 0))) e

-- the new block holds the entry
pub sector_at-grown_new : (image : List (List ℕ)) (new : ℕ) (entry : List ℕ) → new < length image → length entry ≡ 30
    → sector_at (grown_with image new entry) new ≡ first_entry entry
unfolding with_growth
sector_at-grown_new image new entry inside full =
    let linked : List (List ℕ) = with_bytes image (dir_last image) 0 (pair_bytes new) in
    let grown : List (List ℕ) = with_sector linked new empty_directory in
    let l = length-set image (dir_last image) (written_at (sector_at image (dir_last image)) 0 (pair_bytes new)) in
    let m = length-set linked new empty_directory in
    get_or-set_same grown new (written_at (sector_at grown new) 2 entry) [] (omega arith)
    ∙ ap (λ (s : List ℕ). written_at s 2 entry) (get_or-set_same linked new empty_directory [] (omega arith))
    ∙ written_first entry full

-- an image has as many blocks as before
pub length-grown : (image : List (List ℕ)) (new : ℕ) (entry : List ℕ) → length (grown_with image new entry) ≡ length image
unfolding with_growth
length-grown image new entry =
    let linked : List (List ℕ) = with_bytes image (dir_last image) 0 (pair_bytes new) in
    let grown : List (List ℕ) = with_sector linked new empty_directory in
    length-set grown new (written_at (sector_at grown new) 2 entry)
    ∙ length-set linked new empty_directory
    ∙ length-set image (dir_last image) (written_at (sector_at image (dir_last image)) 0 (pair_bytes new))

-- a track and a sector are bytes
pub pair_bytes-are_bytes : (block : ℕ) → block < BLOCKS → All (λ byte. byte < 256) (pair_bytes block)
pair_bytes-are_bytes block h =
    let P : ℕ → Type 0 = λ byte. byte < 256 in
    let small = pair_small block h in
    All-cons P (pair_at block).0 ((pair_at block).1 ∷ []) small.0 (All-cons P (pair_at block).1 [] small.1 (All-nil P))

-- an image stays one
pub IsImage-grown : (image : List (List ℕ)) (new : ℕ) (entry : List ℕ) → IsImage image → directory image ≢ [] → new < length image
    → length entry ≡ 30 → All (λ byte. byte < 256) entry → IsImage (grown_with image new entry)
unfolding with_growth
IsImage-grown image new entry is some inside full bytes =
    let last : List ℕ = written_at (sector_at image (dir_last image)) 0 (pair_bytes new) in
    let linked : List (List ℕ) = with_sector image (dir_last image) last in
    let grown : List (List ℕ) = with_sector linked new empty_directory in
    let l : length linked ≡ length image = length-set image (dir_last image) last in
    let m : length grown ≡ length image = length-set linked new empty_directory ∙ l in
    let small : new < BLOCKS = let z = is.0 in omega arith in
    let whole = block_at image (dir_last image) is (dir_last-within image some) in
    let first : All IsBlock linked =
    All-set IsBlock image (dir_last image) last
    (IsBlock-written_at (sector_at image (dir_last image)) (pair_bytes new) 0 whole (omega arith) (pair_bytes-are_bytes new small)) is.1 in
    let second : All IsBlock grown = All-set IsBlock linked new empty_directory IsBlock-empty_directory first in
    let here = block_at grown new (subst IsSize (sym m) is.0, second) (omega arith) in (
      subst IsSize (sym (length-set grown new (written_at (sector_at grown new) 2 entry) ∙ m)) is.0,
      All-set IsBlock grown new (written_at (sector_at grown new) 2 entry) (IsBlock-written_at (sector_at grown new) entry 2 here (omega arith) bytes) second,
    )

-- the directory's last block is linked to the new one
pub link_of-grown_last : (image : List (List ℕ)) (new : ℕ) (entry : List ℕ) → dir_last image ≢ new → dir_last image < length image → new < BLOCKS
    → new < length image → link_of (grown_with image new entry) (dir_last image) ≡ link_to (Some new)
link_of-grown_last image new entry other held small inside =
    let after : List (List ℕ) = grown_with image new entry in
    let bytes : List ℕ = sector_at image (dir_last image) in
    let l = length-grown image new entry in
    ap (λ (s : List ℕ). led_by after (get_or s 0 0, get_or s 1 0)) (sector_at-grown_last image new entry other held)
    ∙ ap₂ (λ (x y : ℕ). led_by after (x, y)) (get_or-written_within bytes (pair_bytes new) 0 0 (omega arith) (omega arith))
    (get_or-written_within bytes (pair_bytes new) 0 1 (omega arith) (omega arith))
    ∙ leads_to after new small (omega arith)

-- and the new block ends the chain
pub Chain-grown_new : (image : List (List ℕ)) (new : ℕ) (entry : List ℕ) → new < length image → length entry ≡ 30
    → Chain (grown_with image new entry) new (new ∷ [])
unfolding led_by
Chain-grown_new image new entry inside full =
    let l = length-grown image new entry in
    chain_of_one (grown_with image new entry) new (omega arith)
    (ap (λ (s : List ℕ). led_by (grown_with image new entry) (get_or s 0 0, get_or s 1 0)) (sector_at-grown_new image new entry inside full))

-- the last block of a list
abbrev last_in : List ℕ → ℕ
last_in blocks = get_or blocks (length blocks - 1) 0

last_in-cons : (block next : ℕ) (rest : List ℕ) → last_in (block ∷ next ∷ rest) ≡ last_in (next ∷ rest)
last_in-cons block next rest =
    let long : length (block ∷ next ∷ rest) - 1 ≡ suc (length rest) = omega arith in
    let short : length (next ∷ rest) - 1 ≡ length rest = omega arith in
    ap (λ (n : ℕ). get_or (block ∷ next ∷ rest) n 0) long ∙ sym (ap (λ (n : ℕ). get_or (next ∷ rest) n 0) short)

last_in-is-held : (block : ℕ) (rest : List ℕ) → list_any (eqb (last_in (block ∷ rest))) (block ∷ rest) ≡ true
last_in-is-held block rest =
    list_any_at (eqb (last_in (block ∷ rest))) (block ∷ rest) (length (block ∷ rest) - 1) 0 (omega arith)
    (eq-eqb (last_in (block ∷ rest)) (last_in (block ∷ rest)) refl)

-- a block that isn't among others isn't the one that is
other_alone : (start block new : ℕ) (rest : List ℕ) → block ≡ start → list_any (eqb new) (block ∷ rest) ≡ false → list_any (eqb start) (new ∷ []) ≡ false
other_alone start block new rest is fresh =
    let p = or_parts (eqb new block) (list_any (eqb new) rest) fresh in
    or_from (eqb start new) false (ne_eqb start new (λ e.
    let f : true ≡ false = sym (eq-eqb new block (sym e ∙ sym is)) ∙ p.0 in cc)) refl

-- a chain goes on with a block to which its last one is linked instead, and which ends it
pub Chain-appended : (image other : List (List ℕ)) (start new : ℕ) (blocks : List ℕ) → Chain image start blocks → length other ≡ length image
    → Chain other new (new ∷ []) → link_of other (get_or blocks (length blocks - 1) 0) ≡ link_to (Some new) → list_any (eqb new) blocks ≡ false
    → ((block : ℕ) → list_any (eqb block) blocks ≡ true → block ≢ get_or blocks (length blocks - 1) 0 → link_at other block ≡ link_at image block)
    → Chain other start (blocks ++ new ∷ [])
unfolding Chain
Chain-appended image other start new [] h long ends link fresh alike = absurd h
Chain-appended image other start new (block ∷ []) h long ends link fresh alike =
    subst (λ (b : ℕ). Chain other start (b ∷ new ∷ [])) (sym h.0)
    (chain_before other start new [] (subst (λ (n : ℕ). start < n) (sym long) h.1) (ap (link_of other) (sym h.0) ∙ link)
    ends (other_alone start block new [] h.0 fresh))
Chain-appended image other start new (block ∷ next ∷ rest) h long ends link fresh alike =
    let same = last_in-cons block next rest in
    let p = or_parts (eqb new block) (list_any (eqb new) (next ∷ rest)) fresh in
    let after : Chain other next (next ∷ (rest ++ new ∷ [])) =
    Chain-appended image other next new (next ∷ rest) h.3 long ends (ap (link_of other) (sym same) ∙ link) p.1
    (λ b found apart. alike b (or_right (eqb b block) (list_any (eqb b) (next ∷ rest)) found) (λ e. apart (e ∙ same))) in
    let here : link_at other start ≡ link_at image start =
    alike start (ap (λ (t : Bool). t || list_any (eqb start) (next ∷ rest)) (eq-eqb start block (sym h.0))) (λ e.
    not_held (next ∷ rest) start (last_in (next ∷ rest)) h.4 (last_in-is-held next rest) (sym (e ∙ same))) in
    let leads : link_of other start ≡ link_to (Some next) = ap (led_by other) here ∙ led_by-alike image other (link_at image start) long ∙ h.2 in
    let apart : list_any (eqb start) (next ∷ (rest ++ new ∷ [])) ≡ false =
    list_any-append (eqb start) (next ∷ rest) (new ∷ []) ∙ or_from (list_any (eqb start) (next ∷ rest)) (list_any (eqb start) (new ∷ [])) h.4
    (other_alone start block new (next ∷ rest) h.0 fresh) in
    subst (λ (b : ℕ). Chain other start (b ∷ next ∷ (rest ++ new ∷ []))) (sym h.0)
    (chain_before other start next (rest ++ new ∷ []) (subst (λ (n : ℕ). start < n) (sym long) h.1) leads after apart)

-- the directory has the new block at its end
pub directory-grown : (image : List (List ℕ)) (new : ℕ) (entry : List ℕ) → IsImage image → directory image ≢ [] → new < length image
    → list_any (eqb new) (directory image) ≡ false → length entry ≡ 30 → directory (grown_with image new entry) ≡ directory image ++ new ∷ []
directory-grown image new entry is some inside fresh full =
    let small : new < BLOCKS = let z = is.0 in omega arith in
    let m = length-grown image new entry in
    let other = not_held (directory image) new (dir_last image) fresh (dir_last-is_held image some) in
    directory-from_Chain (grown_with image new entry) (directory image ++ new ∷ [])
    (Chain-appended image (grown_with image new entry) directory_start new (directory image) (Chain-directory image some) m
    (Chain-grown_new image new entry inside full) (link_of-grown_last image new entry other (dir_last-within image some) small inside) fresh
    (λ block found apart.
    ap (λ (s : List ℕ). (get_or s 0 0, get_or s 1 0)) (sector_at-grown image new entry block (not_held (directory image) new block fresh found) apart)))

-- the slots of the new block
later_slot : (entry : List ℕ) (i : ℕ) → length entry ≡ 30 → i < 7 → cell (first_entry entry) (suc i) ≡ replicate 32 0
later_slot entry i full small =
    let bytes : List ℕ = first_entry entry in
    let l : length bytes ≡ BLOCK_BYTES = length-append (0 ∷ 255 ∷ entry) (replicate 224 0) ∙ omega arith in
    let m = length-cell bytes (suc i) l (omega arith) in
    ext_get_or 0 (cell bytes (suc i)) (replicate 32 0) m (λ k h.
    let inside : k < 32 = omega arith in
    get_or-cell bytes (suc i) k inside
    ∙ get_or-append_right (0 ∷ 255 ∷ entry) (replicate 224 0) 32 (32 * suc i + k) 0 (omega arith) (omega arith)
    ∙ get_or-replicate 224 (32 * suc i + k - 32) 0 0 (omega arith)
    ∙ sym (get_or-replicate 32 k 0 0 inside))

cells-first_entry : (entry : List ℕ) → length entry ≡ 30 → cells (first_entry entry) ≡ (0 ∷ 255 ∷ entry) ∷ replicate 7 (replicate 32 0)
cells-first_entry entry full =
    let l = length-cells (first_entry entry) in
    ext_get_or [] (cells (first_entry entry)) ((0 ∷ 255 ∷ entry) ∷ replicate 7 (replicate 32 0)) l (λ i h.
    let small : i < 8 = omega arith in
    get_or-cells (first_entry entry) i [] small ∙ by_place i small)
  where
    by_place : (i : ℕ) → i < 8 → cell (first_entry entry) i ≡ get_or ((0 ∷ 255 ∷ entry) ∷ replicate 7 (replicate 32 0)) i []
    by_place zero small = take_at (0 ∷ 255 ∷ entry) (replicate 224 0) 32 (omega arith)
    by_place (suc i) small = later_slot entry i full (omega arith) ∙ sym (get_or-replicate 7 i (replicate 32 0) [] (omega arith))

-- a link that is written over leaves a block's slots beyond their first two bytes
cell-beyond_link : (bytes part : List ℕ) (i : ℕ) → length bytes ≡ BLOCK_BYTES → length part ≡ 2 → i < 8
    → drop 2 (cell (written_at bytes 0 part) i) ≡ drop 2 (cell bytes i)
cell-beyond_link bytes part i long two small =
    let w : List ℕ = written_at bytes 0 part in
    let l = length-cell bytes i long small in
    let m = length-cell w i (length-written_at bytes part 0 (omega arith) ∙ long) small in
    let n = length-drop 2 (cell w i) in
    let o = length-drop 2 (cell bytes i) in
    ext_get_or 0 (drop 2 (cell w i)) (drop 2 (cell bytes i)) (omega arith) (λ k h.
    let inside : 2 + k < 32 = omega arith in
    get_or-drop 2 (cell w i) k 0 ∙ get_or-cell w i (2 + k) inside
    ∙ get_or-written_past bytes part 0 (32 * i + (2 + k)) (omega arith) (omega arith)
    ∙ sym (get_or-drop 2 (cell bytes i) k 0 ∙ get_or-cell bytes i (2 + k) inside))

pub cells-beyond_link : (bytes part : List ℕ) → length bytes ≡ BLOCK_BYTES → length part ≡ 2
    → map (drop 2) (cells (written_at bytes 0 part)) ≡ map (drop 2) (cells bytes)
cells-beyond_link bytes part long two =
    let w : List ℕ = written_at bytes 0 part in
    let l = length-cells w in
    let m = length-cells bytes in
    let n = length-map (cells w) (drop 2) in
    let o = length-map (cells bytes) (drop 2) in
    ext_get_or [] (map (drop 2) (cells w)) (map (drop 2) (cells bytes)) (omega arith) (λ i h.
    let small : i < 8 = omega arith in
    get_or-map (drop 2) (cells w) i [] [] (omega arith)
    ∙ ap (drop 2) (get_or-cells w i [] small)
    ∙ cell-beyond_link bytes part i long two small
    ∙ sym (get_or-map (drop 2) (cells bytes) i [] [] (omega arith) ∙ ap (drop 2) (get_or-cells bytes i [] small)))

-- the slots of blocks beyond their first two bytes need only those of each block
pub slots-beyond_links : (image other : List (List ℕ)) (blocks : List ℕ)
    → ((block : ℕ) → list_any (eqb block) blocks ≡ true → map (drop 2) (cells (sector_at other block)) ≡ map (drop 2) (cells (sector_at image block)))
    → map (drop 2) (slots_in other blocks) ≡ map (drop 2) (slots_in image blocks)
slots-beyond_links image other [] alike = refl
slots-beyond_links image other (block ∷ blocks) alike =
    ap (map (drop 2)) (flat_map-cons (λ (b : ℕ). cells (sector_at other b)) block blocks)
    ∙ map-append (drop 2) (cells (sector_at other block)) (slots_in other blocks)
    ∙ ap₂ (λ (xs ys : List (List ℕ)). xs ++ ys) (alike block (ap (λ (t : Bool). t || list_any (eqb block) blocks) (eq-eqb block block refl)))
    (slots-beyond_links image other blocks (λ b found. alike b (or_right (eqb b block) (list_any (eqb b) blocks) found)))
    ∙ sym (ap (map (drop 2)) (flat_map-cons (λ (b : ℕ). cells (sector_at image b)) block blocks)
    ∙ map-append (drop 2) (cells (sector_at image block)) (slots_in image blocks))

-- the slots of the directory's old blocks stay beyond the link
pub slots-grown_old : (image : List (List ℕ)) (new : ℕ) (entry : List ℕ) → IsImage image → directory image ≢ []
    → list_any (eqb new) (directory image) ≡ false
    → map (drop 2) (slots_in (grown_with image new entry) (directory image)) ≡ map (drop 2) (slots image)
slots-grown_old image new entry is some fresh =
    let last : ℕ = dir_last image in
    let after : List (List ℕ) = grown_with image new entry in
    let other = not_held (directory image) new last fresh (dir_last-is_held image some) in
    let inside = dir_last-within image some in
    let whole = block_at image last is inside in
    slots-beyond_links image after (directory image) (λ block found.
    elim (cases_eq block last) [
      | inl same ↦
          ap (λ (b : ℕ). map (drop 2) (cells (sector_at after b))) same
          ∙ ap (λ (s : List ℕ). map (drop 2) (cells s)) (sector_at-grown_last image new entry other inside)
          ∙ cells-beyond_link (sector_at image last) (pair_bytes new) whole.0 refl
          ∙ ap (λ (b : ℕ). map (drop 2) (cells (sector_at image b))) (sym same)
      | inr apart ↦
          ap (λ (s : List ℕ). map (drop 2) (cells s)) (sector_at-grown image new entry block (not_held (directory image) new block fresh found) apart)
    ])

-- the slots are those of the old blocks, and then those of the new one
pub slots-grown_all : (image : List (List ℕ)) (new : ℕ) (entry : List ℕ) → IsImage image → directory image ≢ [] → new < length image
    → list_any (eqb new) (directory image) ≡ false → length entry ≡ 30
    → slots (grown_with image new entry)
    ≡ slots_in (grown_with image new entry) (directory image) ++ ((0 ∷ 255 ∷ entry) ∷ replicate 7 (replicate 32 0))
slots-grown_all image new entry is some inside fresh full =
    let after : List (List ℕ) = grown_with image new entry in
    ap (slots_in after) (directory-grown image new entry is some inside fresh full)
    ∙ flat_map-append (λ (b : ℕ). cells (sector_at after b)) (directory image) (new ∷ [])
    ∙ ap (λ (xs : List (List ℕ)). slots_in after (directory image) ++ xs)
    (flat_map-cons (λ (b : ℕ). cells (sector_at after b)) new [] ∙ append-nil (cells (sector_at after new))
    ∙ ap cells (sector_at-grown_new image new entry inside full) ∙ cells-first_entry entry full)

-- beyond the link, the slots are as before, and then those of the new block: the entry and seven
-- empty ones
pub slots-grown : (image : List (List ℕ)) (new : ℕ) (entry : List ℕ) → IsImage image → directory image ≢ [] → new < length image
    → list_any (eqb new) (directory image) ≡ false → length entry ≡ 30
    → map (drop 2) (slots (grown_with image new entry)) ≡ map (drop 2) (slots image) ++ (entry ∷ replicate 7 (replicate 30 0))
slots-grown image new entry is some small fresh full =
    ap (map (drop 2)) (slots-grown_all image new entry is some small fresh full)
    ∙ map-append (drop 2) (slots_in (grown_with image new entry) (directory image)) ((0 ∷ 255 ∷ entry) ∷ replicate 7 (replicate 32 0))
    ∙ ap (λ (xs : List (List ℕ)). xs ++ (entry ∷ replicate 7 (replicate 30 0))) (slots-grown_old image new entry is some fresh)
