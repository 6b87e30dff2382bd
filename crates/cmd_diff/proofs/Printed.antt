-- Changes that are printed, one after another.
use Rattle.std.proofs.Common.{◌≡◌, ℕ, ◌+◌, List, [], ◌∷◌, ◌++◌, refl, sym, ap, ◌∙◌, append_assoc, append-nil, codes, arith}
use Rattle.std.specs.List.{flat_map, range_with_len}
use Rattle.std.proofs.lemmas.Grind.{flat_map-append}
use Rattle.std.proofs.lemmas.List.{flat_map_more}
use Rattle.d64_map.proofs.Ranges.{range_push}
use Rattle.d64_inventory.specs.Rows.{row_at}
use Rattle.d64_survey.specs.Dump.{DumpView}
use Rattle.program_arguments.specs.declared.jobs.DiffForm.{DiffForm}
use Rattle.program_arguments.specs.declared.jobs.DiffForm.TheVariants.{Text, Json}
use Rattle.out_json_csv.specs.Values.{line_of}
use Rattle.cmd_diff.specs.Changes.{DumpChange, BlocksChanged, CodesChanged, slot_change, slot_changes, where_any}
use Rattle.cmd_diff.specs.ChangeObject.{change_object}
use Rattle.cmd_diff.specs.ChangeText.{change_lines}
use Rattle.cmd_diff.specs.Differences.{printed_change, printed_changes, printed_blocks}

-- changes after others
pub both_printed : (form : DiffForm) (first second : List DumpChange) → printed_changes form (first ++ second) ≡ printed_changes form first ++ printed_changes form second
unfolding printed_changes
both_printed form first second = flat_map-append (printed_change form) first second

-- a text with changes, and then others
pub then_printed : (form : DiffForm) (old middle last : List ℕ) (first second : List DumpChange) → middle ≡ old ++ printed_changes form first → last ≡ middle ++ printed_changes form second
    → last ≡ old ++ printed_changes form (first ++ second)
then_printed form old middle last first second begun done =
    done
    ∙ ap (λ (text : List ℕ). text ++ printed_changes form second) begun
    ∙ append_assoc old (printed_changes form first) (printed_changes form second)
    ∙ ap (λ (text : List ℕ). old ++ text) (sym (both_printed form first second))

-- blocks with other bytes
pub bytes_printed : (form : DiffForm) (blocks : List ℕ) → printed_blocks form (codes "blocks that differ:") (codes "blocks") blocks ≡ printed_changes form (where_any BlocksChanged blocks)
unfolding printed_changes
bytes_printed form [] = refl
bytes_printed Text (block ∷ blocks) = sym (append-nil (change_lines (BlocksChanged (block ∷ blocks))))
bytes_printed Json (block ∷ blocks) = sym (append-nil (line_of (change_object (BlocksChanged (block ∷ blocks)))))

-- blocks with another read code
pub codes_printed : (form : DiffForm) (blocks : List ℕ) → printed_blocks form (codes "blocks whose read codes differ:") (codes "codes") blocks ≡ printed_changes form (where_any CodesChanged blocks)
unfolding printed_changes
codes_printed form [] = refl
codes_printed Text (block ∷ blocks) = sym (append-nil (change_lines (CodesChanged (block ∷ blocks))))
codes_printed Json (block ∷ blocks) = sym (append-nil (line_of (change_object (CodesChanged (block ∷ blocks)))))

-- the changes of one slot more
pub slot_more : (old new : DumpView) (slot : ℕ) → slot_changes old new slot ++ slot_change (row_at old slot) (row_at new slot) ≡ slot_changes old new (slot + 1)
unfolding slot_changes
slot_more old new slot =
    let f : ℕ → List DumpChange = λ n. slot_change (row_at old n) (row_at new n) in
    let here : slot ≡ 0 + slot = omega arith in
    flat_map_more f [] (range_with_len 0 slot) slot
    ∙ ap (λ (n : ℕ). flat_map f (range_with_len 0 slot ++ n ∷ [])) here
    ∙ ap (flat_map f) (sym (range_push 0 slot))
