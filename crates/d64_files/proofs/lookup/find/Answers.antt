use Rattle.std.proofs.Common.{ℕ, List, Option, Some, ap, ◌∙◌}
use Rattle.std.specs.Prelude.{option_map}
use Rattle.d64_files.specs.Slot.{EntryView}
use Rattle.d64_files.specs.Directory.{slots, is_named, first_named}
use Rattle.d64_files.proofs.SlotLists.{found-entry}
use Rattle.d64_files.proofs.lookup.find.Goals as goal

-- the number of the entry that was found
abbrev slot_of : Option EntryView → Option ℕ
slot_of found = option_map (λ (e : EntryView). e.slot) found

pub returns-in-Some-clause-slot : goal.returns-in-Some-clause-slot
returns-in-Some-clause-slot c =
    ap Some c.slot.ensures
    ∙ ap slot_of c.in-Some.ensures
    ∙ found-entry (is_named c.args.pattern.now) c.in_ok-of.field-0 (slots c.in_ok-of.field-0)
    ∙ ap (λ (image : List (List ℕ)). first_named c.args.pattern.now (slots image)) c.in_ok-of.ensures.image

pub returns-in-None-clause-slot : goal.returns-in-None-clause-slot
returns-in-None-clause-slot c =
    ap slot_of c.in-None.ensures
    ∙ found-entry (is_named c.args.pattern.now) c.in_ok-of.field-0 (slots c.in_ok-of.field-0)
    ∙ ap (λ (image : List (List ℕ)). first_named c.args.pattern.now (slots image)) c.in_ok-of.ensures.image
