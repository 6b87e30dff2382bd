-- the deleted file that comes back
use Rattle.std.proofs.Common.{◌≡◌, ℕ, suc, ◌+◌, ◌-◌, ◌==◌, ◌<◌, ◌≤◌, Bool, true, false, not, cond, List, [], ◌∷◌, length, get_or, Option, Some, None, refl, sym, ap, ap₂, ◌∙◌, subst, arith}
use Rattle.std.specs.Prelude.{◌&&◌, filter, find, is_some, slice_get}
use Rattle.std.specs.List.{enumerate_from, list_any}
use Rattle.std.specs.Option.{option_map, option_or, option_map_or}
use Rattle.std.specs.Ordering.{nat_cmp}
use Rattle.std.specs.FinSet as set
use Rattle.std.proofs.lemmas.List.{length-set}
use Rattle.std.proofs.lemmas.Bool.{and_parts}
use Rattle.d64_map.specs.Map.{free_blocks}
use Rattle.d64_files.specs.Clearing.{with_type}
use Rattle.d64_files.specs.Directory.{slots, numbered_slots, entry_of, entries, is_name_taken}
use Rattle.d64_files.specs.FirstFault.{first_fault, sound_conditions}
use Rattle.d64_files.specs.Slot.{EntryView, is_used, first_pair}
use Rattle.d64_files.specs.declared.dir_fault.DirFault.{DirFault}
use Rattle.d64_files.specs.declared.kind.Kind.{Kind}
use Rattle.d64_files.proofs.Owners.{entries_from}
use Rattle.d64_effects.specs.Undelete.{cell_at, chain_left, undeleted_disk, CanComeBack}
use Rattle.d64_effects.specs.View.{View, IsSound}
use Rattle.d64_effects.specs.ViewAfter.{undeleted_view}
use Rattle.d64_effects.specs.Write.{blocks_without}
use Rattle.d64_scratched.specs.Scratched.{is_scratched, scratched_way}
use Rattle.d64_survey.proofs.Owning.{chain_is_way}
use Rattle.d64_dos.specs.Restoring.{is_whole_by, is_left_by, entry_back}
use Rattle.d64_dos.specs.Undelete.{is_scratched_as, chain_of, is_file_left, is_claimed, slot_to_undelete, undelete_refusal, disk_with_file_back, view_with_file_back}
use Rattle.d64_dos.specs.WriteRefusal.{is_writable}
use Rattle.d64_dos.specs.declared.refusal.Refusal.TheVariants.{NotFound, Exists, WrongType, Directory, Lost}
use Rattle.d64_dos.proofs.SameWords.{left_decides, left_same, whole_same}

-- the numbered slot of an entry
abbrev pub slot_in : EntryView → ℕ × List ℕ
slot_in entry = (entry.slot, entry.bytes)

-- the first entry that passes is the first numbered slot that passes
found_from : (test : ℕ × List ℕ → Bool) (image : List (List ℕ)) (n : ℕ) (cells : List (List ℕ))
    → option_map slot_in (find (λ (e : EntryView). test (slot_in e)) (entries_from image n cells)) ≡ find test (enumerate_from n cells)
found_from test image n [] = refl
found_from test image n (c ∷ cells) = by_test (test (n, c)) (found_from test image (n + 1) cells)
  where
    by_test : (b : Bool)
        → option_map slot_in (find (λ (e : EntryView). test (slot_in e)) (entries_from image (n + 1) cells)) ≡ find test (enumerate_from (n + 1) cells)
        → option_map slot_in (cond b (Some (entry_of image (n, c))) (find (λ (e : EntryView). test (slot_in e)) (entries_from image (n + 1) cells)))
        ≡ cond b (Some (n, c)) (find test (enumerate_from (n + 1) cells))
    by_test true same = refl
    by_test false same = same

pub found_slot : (test : ℕ × List ℕ → Bool) (image cells : List (List ℕ))
    → option_map slot_in (find (λ (e : EntryView). test (slot_in e)) (entries image cells)) ≡ find test (numbered_slots cells)
found_slot test image cells = found_from test image 0 cells

-- a numbered slot that was found passes, and is a slot of that number
record FoundAt (test : ℕ × List ℕ → Bool) (n : ℕ) (cells : List (List ℕ)) (slot : ℕ × List ℕ) : Type 0 where
  after : n ≤ slot.0
  there : slot.0 < n + length cells
  cell : get_or cells (slot.0 - n) [] ≡ slot.1
  passes : test slot ≡ true

found_at : (test : ℕ × List ℕ → Bool) (n : ℕ) (cells : List (List ℕ)) (slot : ℕ × List ℕ) → find test (enumerate_from n cells) ≡ Some slot → FoundAt test n cells slot
found_at test n [] slot h = absurd (cc)
found_at test n (c ∷ cells) slot h = by_test (test (n, c)) refl h (found_at test (n + 1) cells slot)
  where
    by_test : (b : Bool) → test (n, c) ≡ b → cond b (Some (n, c)) (find test (enumerate_from (n + 1) cells)) ≡ Some slot
        → (find test (enumerate_from (n + 1) cells) ≡ Some slot → FoundAt test (n + 1) cells slot) → FoundAt test n (c ∷ cells) slot
    by_test true e h later =
        let same : (n, c) ≡ slot = cc in
        subst (FoundAt test n (c ∷ cells)) same
        (record { after = omega arith; there = omega arith; cell = ap (λ (k : ℕ). get_or (c ∷ cells) k []) (let z : n - n ≡ 0 = omega arith in z); passes = e })
    by_test false e h later =
        let more = later h in
        let after : n + 1 ≤ slot.0 = more.after in
        let there : slot.0 < n + 1 + length cells = more.there in
        record {
          after = omega arith;
          there = omega arith;
          cell = ap (λ (k : ℕ). get_or (c ∷ cells) k []) (let z : slot.0 - n ≡ suc (slot.0 - (n + 1)) = omega arith in z) ∙ more.cell;
          passes = more.passes;
        }

-- a scratched slot of a name whose file isn't lost
pub record IsLeft (image : List (List ℕ)) (name : List ℕ) (slot : ℕ) : Type 0 where
  pub there : slot < length (slots image)
  pub scratched : is_scratched_as name (cell_at image slot) ≡ true
  pub left : is_file_left image (cell_at image slot) ≡ true

not_not : (b : Bool) → not b ≡ true → b ≡ false
not_not true h = absurd (let e : false ≡ true = h in cc)
not_not false h = refl

-- the tests by which a slot is chosen
abbrev pub is_left_as : List (List ℕ) → List ℕ → ℕ × List ℕ → Bool
is_left_as image name slot = is_scratched_as name slot.1 && is_file_left image slot.1

abbrev pub is_unclaimed : List (List ℕ) → ℕ × List ℕ → Bool
is_unclaimed image slot = not (list_any (is_claimed image slot.0) (chain_of image slot.1))

abbrev pub is_whole_as : List (List ℕ) → List ℕ → ℕ × List ℕ → Bool
is_whole_as image name slot = is_left_as image name slot && is_unclaimed image slot

-- the first of those that pass a test that passes another
find_filter : (p r : ℕ × List ℕ → Bool) (xs : List (ℕ × List ℕ)) → find p (filter r xs) ≡ find (λ x. r x && p x) xs
find_filter p r [] = refl
find_filter p r (x ∷ xs) = by_test (r x) (find_filter p r xs)
  where
    by_test : (b : Bool) → find p (filter r xs) ≡ find (λ y. r y && p y) xs
        → find p (cond b (x ∷ filter r xs) (filter r xs)) ≡ cond (b && p x) (Some x) (find (λ y. r y && p y) xs)
    by_test true same = ap (cond (p x) (Some x)) same
    by_test false same = same

first_filter : (r : ℕ × List ℕ → Bool) (xs : List (ℕ × List ℕ)) → slice_get (filter r xs) 0 ≡ find r xs
first_filter r [] = refl
first_filter r (x ∷ xs) = by_test (r x) (first_filter r xs)
  where
    by_test : (b : Bool) → slice_get (filter r xs) 0 ≡ find r xs → slice_get (cond b (x ∷ filter r xs) (filter r xs)) 0 ≡ cond b (Some x) (find r xs)
    by_test true same = refl
    by_test false same = same

pub slot_to_undelete-is : (image : List (List ℕ)) (name : List ℕ)
    → slot_to_undelete image name
    ≡ option_map (λ (s : ℕ × List ℕ). s.0) (option_or (find (is_whole_as image name) (numbered_slots (slots image))) (find (is_left_as image name) (numbered_slots (slots image))))
unfolding slot_to_undelete
slot_to_undelete-is image name =
    ap₂ (λ (whole left : Option (ℕ × List ℕ)). option_map (λ (s : ℕ × List ℕ). s.0) (option_or whole left))
    (find_filter (is_unclaimed image) (is_left_as image name) (numbered_slots (slots image))) (first_filter (is_left_as image name) (numbered_slots (slots image)))

-- a slot that was found by a test of this kind
left_by : (image : List (List ℕ)) (name : List ℕ) (test : ℕ × List ℕ → Bool) (slot : ℕ × List ℕ)
    → ((one : ℕ × List ℕ) → test one ≡ true → is_left_as image name one ≡ true)
    → find test (numbered_slots (slots image)) ≡ Some slot → IsLeft image name slot.0
left_by image name test slot shows found =
    let at = found_at test 0 (slots image) slot found in
    let there : slot.0 < 0 + length (slots image) = at.there in
    let is : slot.1 ≡ cell_at image slot.0 = sym at.cell ∙ ap (λ (k : ℕ). get_or (slots image) k []) (let z : slot.0 - 0 ≡ slot.0 = omega arith in z) in
    let known = and_parts (is_scratched_as name slot.1) (is_file_left image slot.1) (shows slot at.passes) in
    record {
      there = omega arith;
      scratched = ap (is_scratched_as name) (sym is) ∙ known.0;
      left = ap (is_file_left image) (sym is) ∙ known.1;
    }

-- the slot that is chosen
pub chosen : (image : List (List ℕ)) (name : List ℕ) (slot : ℕ) → slot_to_undelete image name ≡ Some slot → IsLeft image name slot
chosen image name slot h =
    by_found (find (is_whole_as image name) (numbered_slots (slots image))) (find (is_left_as image name) (numbered_slots (slots image))) refl refl (sym (slot_to_undelete-is image name) ∙ h)
  where
    by_found : (whole left : Option (ℕ × List ℕ)) → find (is_whole_as image name) (numbered_slots (slots image)) ≡ whole
        → find (is_left_as image name) (numbered_slots (slots image)) ≡ left → option_map (λ (s : ℕ × List ℕ). s.0) (option_or whole left) ≡ Some slot → IsLeft image name slot
    by_found (Some one) left e f h =
        let same : one.0 ≡ slot = cc in
        subst (IsLeft image name) same (left_by image name (is_whole_as image name) one (λ s passes. (and_parts (is_left_as image name s) (is_unclaimed image s) passes).0) e)
    by_found None (Some one) e f h =
        let same : one.0 ≡ slot = cc in subst (IsLeft image name) same (left_by image name (is_left_as image name) one (λ s passes. passes) f)
    by_found None None e f h = absurd (cc)

-- its file can come back
pub can_come_back : (image : List (List ℕ)) (name : List ℕ) (slot : ℕ) → IsLeft image name slot → CanComeBack image slot
can_come_back image name slot is =
    let cell : List ℕ = cell_at image slot in
    let left = left_decides image cell is.left in
    let scratched = (and_parts (is_scratched cell) _ is.scratched).0 in
    record {
      there = is.there;
      unused = not_not (is_used cell) (and_parts (not (is_used cell)) (not ((first_pair cell).0 == 0)) scratched).0;
      chain = left.some;
      free = left.free;
    }

-- what holds if no refusal applies
pub record NoneApplies (writes some : Bool) (fault : Option DirFault) : Type 0 where
  pub writable : writes ≡ true
  pub sound : fault ≡ None
  pub left : some ≡ true

none_applies : (writable scratched taken left : Bool) (fault : Option DirFault)
    → cond (not writable) (Some WrongType) (option_or (option_map Directory fault) (cond (not scratched) (Some NotFound) (cond taken (Some Exists) (cond left None (Some Lost))))) ≡ None
    → NoneApplies writable left fault
none_applies false scratched taken left fault h = absurd (cc)
none_applies true scratched taken left (Some fault) h = absurd (cc)
none_applies true false taken left None h = absurd (cc)
none_applies true true true left None h = absurd (cc)
none_applies true true false false None h = absurd (cc)
none_applies true true false true None h = record { writable = refl; sound = refl; left = refl }

pub undeletable : (image : List (List ℕ)) (name : List ℕ) (kind : Kind) → undelete_refusal image name kind ≡ None
    → NoneApplies (is_writable kind) (is_some (slot_to_undelete image name)) (first_fault image sound_conditions)
unfolding undelete_refusal
undeletable image name kind h =
    none_applies (is_writable kind) (list_any (is_scratched_as name) (slots image)) (is_name_taken name (slots image)) (is_some (slot_to_undelete image name))
    (first_fault image sound_conditions) h

-- and then there is a slot
pub some_slot : (found : Option ℕ) → is_some found ≡ true → (slot : ℕ) × (found ≡ Some slot)
some_slot None h = absurd (cc)
some_slot (Some slot) h = (slot, refl)

pub disk_back : (image : List (List ℕ)) (name : List ℕ) (kind : Kind) (slot : ℕ) → slot_to_undelete image name ≡ Some slot
    → disk_with_file_back image name kind ≡ undeleted_disk image slot kind
unfolding disk_with_file_back
disk_back image name kind slot e = ap (λ (found : Option ℕ). option_map_or (λ (s : ℕ). undeleted_disk image s kind) found image) e

pub view_back : (image : List (List ℕ)) (old : View) (name : List ℕ) (kind : Kind) (slot : ℕ) → slot_to_undelete image name ≡ Some slot
    → view_with_file_back image old name kind ≡ undeleted_view image old slot kind
unfolding view_with_file_back
view_back image old name kind slot e = ap (λ (found : Option ℕ). option_map_or (λ (s : ℕ). undeleted_view image old s kind) found old) e

-- the slot of the entry that was found
same_slot : (whole left : Option EntryView)
    → option_map (λ (e : EntryView). e.slot) (option_or whole left) ≡ option_map (λ (s : ℕ × List ℕ). s.0) (option_or (option_map slot_in whole) (option_map slot_in left))
same_slot (Some entry) left = refl
same_slot None (Some entry) = refl
same_slot None None = refl

-- the tests of the code are those of the definition, on a sound disk
left_test : (image : List (List ℕ)) (name : List ℕ) → IsSound image → is_left_by image name ≡ is_left_as image name
left_test image name sound = λ i slot. is_scratched_as name slot.1 && left_same image slot.0 slot.1 sound i

whole_test : (image : List (List ℕ)) (name : List ℕ) → IsSound image → is_whole_by image name ≡ is_whole_as image name
whole_test image name sound =
    λ i slot. (ap (λ (b : Bool). is_scratched_as name slot.1 && b) (whole_same image slot.0 slot.1 sound)
    ∙ and_assoc (is_scratched_as name slot.1) (is_file_left image slot.1) (is_unclaimed image slot)) i
  where
    and_assoc : (a b c : Bool) → (a && (b && c)) ≡ ((a && b) && c)
    and_assoc true b c = refl
    and_assoc false b c = refl

pub found_back : (image : List (List ℕ)) (name : List ℕ) (found : Option EntryView) → IsSound image → found ≡ entry_back image image name
    → option_map (λ (e : EntryView). e.slot) found ≡ slot_to_undelete image name
found_back image name found sound e =
    ap (option_map (λ (e : EntryView). e.slot)) e
    ∙ same_slot (find (λ (e : EntryView). is_whole_by image name (slot_in e)) (entries image (slots image))) (find (λ (e : EntryView). is_left_by image name (slot_in e)) (entries image (slots image)))
    ∙ ap₂ (λ (whole left : Option (ℕ × List ℕ)). option_map (λ (s : ℕ × List ℕ). s.0) (option_or whole left))
    (found_slot (is_whole_by image name) image (slots image) ∙ ap (λ (test : ℕ × List ℕ → Bool). find test (numbered_slots (slots image))) (whole_test image name sound))
    (found_slot (is_left_by image name) image (slots image) ∙ ap (λ (test : ℕ × List ℕ → Bool). find test (numbered_slots (slots image))) (left_test image name sound))
    ∙ sym (slot_to_undelete-is image name)

-- its bytes are those of its slot
entry_bytes : (image : List (List ℕ)) (name : List ℕ) (entry : EntryView) → Some entry ≡ entry_back image image name → entry.bytes ≡ cell_at image entry.slot
entry_bytes image name entry h =
    by_found (find (λ (e : EntryView). is_whole_by image name (slot_in e)) (entries image (slots image))) (find (λ (e : EntryView). is_left_by image name (slot_in e)) (entries image (slots image)))
    refl refl h
  where
    lies : (test : ℕ × List ℕ → Bool) (one : EntryView) → find (λ (e : EntryView). test (slot_in e)) (entries image (slots image)) ≡ Some one → one.bytes ≡ cell_at image one.slot
    lies test one e =
        let at = found_at test 0 (slots image) (slot_in one) (sym (found_slot test image (slots image)) ∙ ap (option_map slot_in) e) in
        sym at.cell ∙ ap (λ (k : ℕ). get_or (slots image) k []) (let z : one.slot - 0 ≡ one.slot = omega arith in z)

    by_found : (whole left : Option EntryView) → find (λ (e : EntryView). is_whole_by image name (slot_in e)) (entries image (slots image)) ≡ whole
        → find (λ (e : EntryView). is_left_by image name (slot_in e)) (entries image (slots image)) ≡ left → Some entry ≡ option_or whole left
        → entry.bytes ≡ cell_at image entry.slot
    by_found (Some one) left e f h = let same : one ≡ entry = cc in lies (is_whole_by image name) entry (e ∙ ap Some same)
    by_found None (Some one) e f h = let same : one ≡ entry = cc in lies (is_left_by image name) entry (f ∙ ap Some same)
    by_found None None e f h = absurd (cc)

pub restored_entry : (image : List (List ℕ)) (name : List ℕ) (entry : EntryView) (free : set.FinSet nat_cmp) → IsSound image → Some entry ≡ entry_back image image name
    → free ≡ blocks_without (free_blocks image) (scratched_way image entry.bytes).0
    → (entry.slot < length (slots image)) × (free ≡ blocks_without (free_blocks image) (chain_left image entry.slot))
restored_entry image name entry free sound found without =
    let left = chosen image name entry.slot (sym (found_back image name (Some entry) sound found)) in (
      left.there,
      without ∙ ap (λ (cell : List ℕ). blocks_without (free_blocks image) (scratched_way image cell).0) (entry_bytes image name entry found)
          ∙ ap (blocks_without (free_blocks image)) (sym (chain_is_way image (first_pair (cell_at image entry.slot)) (left_decides image (cell_at image entry.slot) left.left).some)),
    )

-- the refusal on a sound disk, of a kind that can be written
pub refused_by_slots : (image : List (List ℕ)) (name : List ℕ) (kind : Kind) (scratched taken left : Bool) → is_writable kind ≡ true
    → None ≡ first_fault image sound_conditions → scratched ≡ list_any (is_scratched_as name) (slots image) → taken ≡ is_name_taken name (slots image)
    → left ≡ is_some (slot_to_undelete image name)
    → cond (not scratched) (Some NotFound) (cond taken (Some Exists) (cond left None (Some Lost))) ≡ undelete_refusal image name kind
unfolding undelete_refusal
refused_by_slots image name kind scratched taken left writes sound some there here =
    λ i. cond (not (sym writes i)) (Some WrongType)
    (option_or (option_map Directory (sound i)) (cond (not (some i)) (Some NotFound) (cond (there i) (Some Exists) (cond (here i) None (Some Lost)))))

-- another type byte leaves as many blocks
pub length-with_type : (image : List (List ℕ)) (slot : ℕ) (kind : Kind) → length (with_type image slot kind) ≡ length image
unfolding with_type
length-with_type image slot kind = length-set image _ _
