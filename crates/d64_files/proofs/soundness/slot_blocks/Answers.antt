use Rattle.std.proofs.Common.{ℕ, ◌≤◌, List, Some, None, sym, ap, ◌∙◌, arith}
use Rattle.std.specs.Ordering.{nat_cmp}
use Rattle.std.specs.FinSet as set
use Rattle.d64_files.specs.Ownership.{HasItsChains}
use Rattle.d64_files.specs.Directory.{slots, entries, condition_number}
use Rattle.d64_files.specs.declared.dir_fault.DirFault.TheVariants.{NoChain}
use Rattle.d64_files.proofs.Contents.{found_bytes, no_bytes, slot_has, owns_by_bytes}
use Rattle.d64_files.proofs.soundness.slot_blocks.Goals as goal

pub returns-in-Err : goal.returns-in-Err
returns-in-Err c =
    let f = c.in-Err.ensures.conditions in
    let from : 2 ≤ condition_number c.in-Err.field-0 = f.not_before in
    let to : condition_number c.in-Err.field-0 ≤ 3 = f.not_after in
    absurd (f.fails (c.requires c.in-Err.field-0 (omega arith) (omega arith)))

pub blocks_of-requires : goal.blocks_of-requires
blocks_of-requires c =
    slot_has (HasItsChains c.args.image.now) (slots c.args.image.now) c.args.slot c.in-Some.entry.bytes (c.requires NoChain (omega arith) (omega arith))
    (found_bytes c.args.image.now c.args.slot c.slots.result c.in-Some.entry (c.slots.ensures.slots ∙ ap (λ (image : List (List ℕ)). entries image (slots image)) c.in-Ok.ensures.image) c.in-Some.ensures)

pub returns-in-Some : goal.returns-in-Some
returns-in-Some c =
    c.blocks_of.ensures
    ∙ ap (λ (bs : List ℕ). set.from_list {R = nat_cmp} bs)
    (sym (owns_by_bytes c.args.image.now c.args.slot (Some c.in-Some.entry.bytes)
    (found_bytes c.args.image.now c.args.slot c.slots.result c.in-Some.entry (c.slots.ensures.slots ∙ ap (λ (image : List (List ℕ)). entries image (slots image)) c.in-Ok.ensures.image) c.in-Some.ensures)))

pub returns-in-None : goal.returns-in-None
returns-in-None c =
    c.empty-in-None.ensures.value
    ∙ ap (λ (bs : List ℕ). set.from_list {R = nat_cmp} bs)
    (sym (owns_by_bytes c.args.image.now c.args.slot None (no_bytes c.args.image.now c.args.slot c.slots.result (c.slots.ensures.slots ∙ ap (λ (image : List (List ℕ)). entries image (slots image)) c.in-Ok.ensures.image) c.in-None.ensures)))
