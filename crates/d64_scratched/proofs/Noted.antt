-- the slots of an image, of which some are noted
use Rattle.std.proofs.Common.{◌≡◌, ℕ, ◌+◌, ◌<◌, ◌≤◌, ◌*◌, zero, suc, true, false, nat_eq, List, [], ◌∷◌, ◌++◌, length, take, refl, sym, ap, ◌∙◌, subst, append_assoc, append-nil, take_all, arith}
use Rattle.std.specs.Prelude.{nat_lt}
use Rattle.std.specs.List.{list_any}
use Rattle.std.proofs.lemmas.List.{length-append}
use Rattle.d64_image.specs.declared.block.TheConstants.{BLOCKS}
use Rattle.d64_files.specs.Slot.{EntryView}
use Rattle.d64_files.specs.Directory.{entry_of, entries}
use Rattle.d64_files.proofs.Owners.{entries_from}
use Rattle.d64_survey.specs.Owners.{way_slots}
use Rattle.d64_scratched.specs.Claims.{lowest_of, Lowers, RecordsClaims}
use Rattle.d64_scratched.specs.Scratched.{is_scratched, scratched_way, blocks_left, is_claimed_below}
use Rattle.d64_scratched.specs.declared.lowest.LowestSlots.{LowestSlots}
use Rattle.d64_scratched.proofs.LowestNumbers.{Records, records-scratched, records-other}

-- some slots are noted, and the others are to come
pub record Noting (image : List (List ℕ)) (table : LowestSlots) (rest : List EntryView) : Type 0 where
  pub seen : List (List ℕ)
  pub left : List (List ℕ)
  pub few : length (way_slots image) ≤ 8 * BLOCKS
  pub split : way_slots image ≡ seen ++ left
  pub coming : rest ≡ entries_from image (length seen) left
  pub records : Records image seen table

-- of no slot nothing is left
nothing_left : (image : List (List ℕ)) (block number : ℕ) → list_any (nat_eq block) (blocks_left image (take number [])) ≡ false
nothing_left image block zero = refl
nothing_left image block (suc number) = refl

length-entries : (image : List (List ℕ)) (n : ℕ) (cells : List (List ℕ)) → length (entries_from image n cells) ≡ length cells
length-entries image n [] = refl
length-entries image n (cell ∷ cells) = ap suc (length-entries image (n + 1) cells)

-- at first no slot is noted
pub noting-none : (image : List (List ℕ)) (table : LowestSlots) (walk : List EntryView) → walk ≡ entries image (way_slots image) → length walk ≤ 8 * BLOCKS
    → ((block number : ℕ) → block < BLOCKS → number < 65536 → nat_lt (lowest_of table block) number ≡ false) → Noting image table walk
noting-none image table walk is few none = record {
  seen = [];
  left = way_slots image;
  few = subst (λ (n : ℕ). n ≤ 8 * BLOCKS) (ap length is ∙ length-entries image 0 (way_slots image)) few;
  split = refl;
  coming = is;
  records = λ block number within most. none block number within (omega arith) ∙ sym (nothing_left image block number);
}

-- one slot that comes, and those after it
pub record Next (image : List (List ℕ)) (table : LowestSlots) (entry : EntryView) (rest : List EntryView) : Type 0 where
  pub seen : List (List ℕ)
  pub cell : List ℕ
  pub left : List (List ℕ)
  pub few : length (way_slots image) ≤ 8 * BLOCKS
  pub split : way_slots image ≡ seen ++ cell ∷ left
  pub is : entry ≡ entry_of image (length seen, cell)
  pub coming : rest ≡ entries_from image (length seen + 1) left
  pub records : Records image seen table

next_by : (image : List (List ℕ)) (table : LowestSlots) (entry : EntryView) (rest : List EntryView) (seen left : List (List ℕ))
    → length (way_slots image) ≤ 8 * BLOCKS → way_slots image ≡ seen ++ left → entry ∷ rest ≡ entries_from image (length seen) left → Records image seen table
    → Next image table entry rest
next_by image table entry rest seen [] few split coming records = absurd (cc)
next_by image table entry rest seen (cell ∷ left) few split coming records = record {
  seen = seen;
  cell = cell;
  left = left;
  few = few;
  split = split;
  is = cc;
  coming = cc;
  records = records;
}

pub next : (image : List (List ℕ)) (table : LowestSlots) (walk : List EntryView) (entry : EntryView) (rest : List EntryView) → Noting image table walk
    → walk ≡ entry ∷ rest → Next image table entry rest
next image table walk entry rest noting steps =
    next_by image table entry rest noting.seen noting.left noting.few noting.split (sym steps ∙ noting.coming) noting.records

-- its number is that of a slot
pub next-slot : (image : List (List ℕ)) (table : LowestSlots) (entry : EntryView) (rest : List EntryView) → Next image table entry rest → entry.slot < 8 * BLOCKS
next-slot image table entry rest n =
    let few = n.few in
    let long = ap length n.split ∙ length-append n.seen (n.cell ∷ n.left) in
    subst (λ (slot : ℕ). slot < 8 * BLOCKS) (sym (ap (λ (e : EntryView). e.slot) n.is)) (omega arith)

-- after it
then_noting : (image : List (List ℕ)) (old new : LowestSlots) (entry : EntryView) (rest : List EntryView) (n : Next image old entry rest)
    → Records image (n.seen ++ n.cell ∷ []) new → Noting image new rest
then_noting image old new entry rest n records = record {
  seen = n.seen ++ n.cell ∷ [];
  left = n.left;
  few = n.few;
  split = n.split ∙ sym (append_assoc n.seen (n.cell ∷ []) n.left);
  coming = n.coming ∙ ap (λ (k : ℕ). entries_from image k n.left) (sym (length-append n.seen (n.cell ∷ [])));
  records = records;
}

pub noting-scratched : (image : List (List ℕ)) (old new : LowestSlots) (entry : EntryView) (rest : List EntryView) → Next image old entry rest
    → is_scratched entry.bytes ≡ true → Lowers old (scratched_way image entry.bytes).0 entry.slot new → Noting image new rest
noting-scratched image old new entry rest n scratched lowers =
    let bytes : entry.bytes ≡ n.cell = ap (λ (e : EntryView). e.bytes) n.is in
    let slot : entry.slot ≡ length n.seen = ap (λ (e : EntryView). e.slot) n.is in
    then_noting image old new entry rest n
    (records-scratched image n.seen n.cell old new (sym (ap is_scratched bytes) ∙ scratched) n.records
    (subst (λ (k : ℕ). Lowers old (scratched_way image n.cell).0 k new) slot
    (subst (λ (c : List ℕ). Lowers old (scratched_way image c).0 entry.slot new) bytes lowers)))

pub noting-other : (image : List (List ℕ)) (table : LowestSlots) (entry : EntryView) (rest : List EntryView) → Next image table entry rest
    → is_scratched entry.bytes ≡ false → Noting image table rest
noting-other image table entry rest n other =
    then_noting image table table entry rest n
    (records-other image n.seen n.cell table (sym (ap is_scratched (ap (λ (e : EntryView). e.bytes) n.is)) ∙ other) n.records)

-- in the end all are noted
all_by : (image : List (List ℕ)) (table : LowestSlots) (seen left : List (List ℕ)) → way_slots image ≡ seen ++ left → [] ≡ entries_from image (length seen) left
    → Records image seen table → RecordsClaims image table
all_by image table seen [] split coming records block slot within few =
    records block slot within few ∙ ap (λ (cells : List (List ℕ)). list_any (nat_eq block) (blocks_left image (take slot cells))) (sym (split ∙ append-nil seen))
all_by image table seen (cell ∷ left) split coming records block slot within few = absurd (cc)

pub all_noted : (image : List (List ℕ)) (table : LowestSlots) (walk : List EntryView) → Noting image table walk → walk ≡ [] → RecordsClaims image table
all_noted image table walk noting none = all_by image table noting.seen noting.left noting.split (sym none ∙ noting.coming) noting.records

-- from the number of slots on all scratched slots are below
pub claimed_past : (image : List (List ℕ)) (slot most block : ℕ) → length (way_slots image) ≤ most → most ≤ slot
    → is_claimed_below image most block ≡ is_claimed_below image slot block
claimed_past image slot most block few past =
    ap (λ (cells : List (List ℕ)). list_any (nat_eq block) (blocks_left image cells))
    (take_all most (way_slots image) few ∙ sym (take_all slot (way_slots image) (omega arith)))
