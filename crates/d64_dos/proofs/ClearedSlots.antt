-- The slots of a walk that pass a test, and slots that are cleared one after another.
use Rattle.std.proofs.Common.{◌≡◌, ℕ, ◌+◌, ◌*◌, ◌<◌, ◌≤◌, Bool, true, false, cond, List, [], ◌∷◌, ◌++◌, length, map, refl, ap, ap₂, arith, ◌∙◌}
use Rattle.std.specs.Prelude.{All, filter}
use Rattle.std.specs.List.{enumerate_from}
use Rattle.std.proofs.lemmas.List.Elements.{All-nil, All-cons}
use Rattle.d64_image.specs.declared.block.TheConstants.{BLOCKS}
use Rattle.d64_image.specs.Image.{IsImage}
use Rattle.d64_files.specs.Clearing.{with_cleared_slot}
use Rattle.d64_files.specs.Slot.{EntryView}
use Rattle.d64_files.specs.Directory.{slots, entry_of, entries}
use Rattle.d64_files.proofs.Owners.{entries_from}
use Rattle.d64_effects.specs.Clear.{slots_where}
use Rattle.d64_effects.specs.ClearLaws.{ClearingKeepsTheImage, ClearingKeepsTheNumberOfSlots}

-- the numbers of the slots of a walk that pass a test
abbrev pub passing : (List ℕ → Bool) → List EntryView → List ℕ
passing test walk = map (λ entry. entry.slot) (filter (λ entry. test entry.bytes) walk)

-- the entries of slots pass if the slots do, from any number on
passing_from : (test : List ℕ → Bool) (image : List (List ℕ)) (n : ℕ) (cells : List (List ℕ))
    → passing test (entries_from image n cells) ≡ map (λ (slot : ℕ × List ℕ). slot.0) (filter (λ (slot : ℕ × List ℕ). test slot.1) (enumerate_from n cells))
passing_from test image n [] = refl
passing_from test image n (c ∷ cells) = by_test (test c) (passing_from test image (n + 1) cells)
  where
    entries_left : List EntryView
    entries_left = filter (λ (entry : EntryView). test entry.bytes) (entries_from image (n + 1) cells)

    slots_left : List (ℕ × List ℕ)
    slots_left = filter (λ (slot : ℕ × List ℕ). test slot.1) (enumerate_from (n + 1) cells)

    by_test : (b : Bool) → map (λ (entry : EntryView). entry.slot) entries_left ≡ map (λ (slot : ℕ × List ℕ). slot.0) slots_left
        → map (λ (entry : EntryView). entry.slot) (cond b (entry_of image (n, c) ∷ entries_left) entries_left)
        ≡ map (λ (slot : ℕ × List ℕ). slot.0) (cond b ((n, c) ∷ slots_left) slots_left)
    by_test true same = ap (λ (numbers : List ℕ). n ∷ numbers) same
    by_test false same = same

-- so for a walk along all slots
pub passing-entries : (test : List ℕ → Bool) (image cells : List (List ℕ)) → passing test (entries image cells) ≡ slots_where test cells
passing-entries test image cells = passing_from test image 0 cells

-- what holds as a walk along all slots begins, while no number is taken
pub record Begins (test : List ℕ → Bool) (image : List (List ℕ)) (places : List ℕ) (walk : List EntryView) : Type 0 where
  pub passes : passing test walk ≡ slots_where test (slots image)
  pub taken : places ++ passing test walk ≡ slots_where test (slots image)
  pub room : length places + length walk ≤ 8 * BLOCKS

pub begins : (test : List ℕ → Bool) (image : List (List ℕ)) (places : List ℕ) (items walk : List EntryView)
    → places ≡ [] → walk ≡ items → items ≡ entries image (slots image) → length items ≤ 8 * BLOCKS → Begins test image places walk
begins test image places items walk none same all few =
    let passes = ap (passing test) (same ∙ all) ∙ passing-entries test image (slots image) in
    let empty = ap (length {A = ℕ}) none in
    let long = ap (length {A = EntryView}) same in
    record { passes = passes; taken = ap₂ (λ (done left : List ℕ). done ++ left) none passes; room = omega arith }

-- an image that has as many slots as another
pub record HasSlotsOf (image next : List (List ℕ)) : Type 0 where
  pub is_image : IsImage next
  pub count : length (slots next) ≡ length (slots image)

-- so has the one with one more slot cleared
pub one_more_cleared : ClearingKeepsTheImage → ClearingKeepsTheNumberOfSlots → (image next : List (List ℕ)) (slot : ℕ) → HasSlotsOf image next
    → slot < length (slots image) → HasSlotsOf image (with_cleared_slot next slot)
one_more_cleared keeps_image keeps_count image next slot so there =
    let e = so.count in
    let one : All (λ number. number < length (slots next)) (slot ∷ []) =
    All-cons (λ number. number < length (slots next)) slot [] (omega arith) (All-nil (λ number. number < length (slots next))) in
    record {
      is_image = keeps_image next (slot ∷ []) so.is_image one;
      count = keeps_count next (slot ∷ []) so.is_image one ∙ so.count;
    }
