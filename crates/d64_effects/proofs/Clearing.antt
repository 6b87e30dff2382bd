-- slots that are cleared one after another
use Rattle.std.proofs.Common.{◌≡◌, ℕ, ◌+◌, ◌<◌, Bool, true, false, cond, List, [], ◌∷◌, ◌++◌, length, map, get_or, refl, sym, ap, ◌∙◌, arith}
use Rattle.std.specs.Prelude.{All, filter, fold}
use Rattle.std.specs.List.{enumerate_from}
use Rattle.std.proofs.lemmas.List.{length-set}
use Rattle.std.proofs.lemmas.List.Elements.{All-nil, All-cons, All-head, All-tail, All-weaker}
use Rattle.d64_image.specs.Image.{IsImage}
use Rattle.d64_files.specs.Clearing.{with_cleared_slot}
use Rattle.d64_files.specs.Directory.{directory, slots}
use Rattle.d64_effects.specs.ClearLaws.{AreSlotsOf, ClearingKeepsTheImage, ClearingKeepsTheDirectory, ClearingKeepsTheNumberOfSlots, OneMoreSlotCounts, SlotsWhereAreSlots}
use Rattle.d64_effects.proofs.SlotChanges.{cleared, one_cleared, numbers_from}

-- what stays of an image
record Stays (image other : List (List ℕ)) : Type 0 where
  is_image : IsImage other
  blocks : directory other ≡ directory image
  count : length (slots other) ≡ length (slots image)

stays : (numbers : List ℕ) (image : List (List ℕ)) → IsImage image → AreSlotsOf image numbers → Stays image (fold with_cleared_slot image numbers)
stays [] image is there = record { is_image = is; blocks = refl; count = refl }
stays (slot ∷ numbers) image is there =
    let P : ℕ → Type 0 = λ number. number < length (slots image) in
    let one = one_cleared image slot is (All-head P slot numbers there) in
    let same : length (slots (with_cleared_slot image slot)) ≡ length (slots image) =
    ap length one.entries ∙ length-set (slots image) slot (cleared (get_or (slots image) slot [])) in
    let more =
    stays numbers (with_cleared_slot image slot) one.is_image
    (All-weaker P (λ number. number < length (slots (with_cleared_slot image slot))) (λ number h. omega arith) numbers (All-tail P slot numbers there)) in
    record { is_image = more.is_image; blocks = more.blocks ∙ one.blocks; count = more.count ∙ same }

pub clearing-keeps_the_image : ClearingKeepsTheImage
clearing-keeps_the_image image numbers is there = (stays numbers image is there).is_image

pub clearing-keeps_the_directory : ClearingKeepsTheDirectory
clearing-keeps_the_directory image numbers is there = (stays numbers image is there).blocks

pub clearing-keeps_the_number_of_slots : ClearingKeepsTheNumberOfSlots
clearing-keeps_the_number_of_slots image numbers is there = (stays numbers image is there).count

-- the number of a slot that passes a test, before those of others
first_number : (n : ℕ) (cell : List ℕ) (passed : List (ℕ × List ℕ)) (more : List ℕ) (b : Bool)
    → map (λ (slot : ℕ × List ℕ). slot.0) (cond b ((n, cell) ∷ passed) passed) ++ more
    ≡ cond b (n ∷ (map (λ (slot : ℕ × List ℕ). slot.0) passed ++ more)) (map (λ (slot : ℕ × List ℕ). slot.0) passed ++ more)
first_number n cell passed more true = refl
first_number n cell passed more false = refl

first_alone : (n : ℕ) (cell : List ℕ) (passed : List (ℕ × List ℕ)) (b : Bool)
    → map (λ (slot : ℕ × List ℕ). slot.0) (cond b ((n, cell) ∷ passed) passed)
    ≡ cond b (n ∷ map (λ (slot : ℕ × List ℕ). slot.0) passed) (map (λ (slot : ℕ × List ℕ). slot.0) passed)
first_alone n cell passed true = refl
first_alone n cell passed false = refl

one_more : (test : List ℕ → Bool) (cells : List (List ℕ)) (cell : List ℕ) (n k : ℕ) → n + length cells ≡ k
    → numbers_from test n (cells ++ cell ∷ []) ≡ numbers_from test n cells ++ cond (test cell) (k ∷ []) []
one_more test [] cell n k e =
    first_alone n cell [] (test cell) ∙ ap (λ (m : ℕ). cond (test cell) (m ∷ []) []) (let f : n ≡ k = omega arith in f)
one_more test (first ∷ cells) cell n k e =
    first_alone n first (filter (λ (slot : ℕ × List ℕ). test slot.1) (enumerate_from (n + 1) (cells ++ cell ∷ []))) (test first)
    ∙ ap (λ (later : List ℕ). cond (test first) (n ∷ later) later) (one_more test cells cell (n + 1) k (omega arith))
    ∙ sym (first_number n first (filter (λ (slot : ℕ × List ℕ). test slot.1) (enumerate_from (n + 1) cells)) (cond (test cell) (k ∷ []) []) (test first))

pub one_more_slot-counts : OneMoreSlotCounts
one_more_slot-counts test cells cell = one_more test cells cell 0 (length cells) (omega arith)

-- the numbers of slots that pass a test lie below the end
numbers_below : (test : List ℕ → Bool) (cells : List (List ℕ)) (n end : ℕ) → n + length cells ≡ end → All (λ number. number < end) (numbers_from test n cells)
numbers_below test [] n end e = All-nil (λ number. number < end)
numbers_below test (cell ∷ cells) n end e = by_test (test cell) (numbers_below test cells (n + 1) end (omega arith))
  where
    by_test : (b : Bool) → All (λ number. number < end) (numbers_from test (n + 1) cells)
        → All (λ number. number < end)
        (map (λ slot. slot.0) (cond b ((n, cell) ∷ filter (λ slot. test slot.1) (enumerate_from (n + 1) cells)) (filter (λ slot. test slot.1) (enumerate_from (n + 1) cells))))
    by_test true later = All-cons (λ number. number < end) n (numbers_from test (n + 1) cells) (omega arith) later
    by_test false later = later

pub slots_where-are_slots : SlotsWhereAreSlots
slots_where-are_slots test cells = numbers_below test cells 0 (length cells) (omega arith)
