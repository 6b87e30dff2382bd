use Rattle.std.proofs.Common.{◌≡◌, ◌≤◌, refl, ap, arith}
use Rattle.d64_files.specs.Slot.{cell, kind_number}
use Rattle.d64_files.proofs.SlotLists.{block_kind, block_kinds}
use Rattle.d64_files.proofs.slots.kinds_are_known.Goals as goal

pub returns-then-slot_of-gt-LAST_KIND : goal.returns-then-slot_of-gt-LAST_KIND
returns-then-slot_of-gt-LAST_KIND c =
    let same : kind_number c.slot_of.result.now ≡ kind_number (cell c.args.block.now c.loop-index.index) = ap kind_number c.slot_of.ensures.value in
    let wrong = c.if-slot_of-gt-LAST_KIND.true in
    (λ e. cc, λ all. absurd (let one : kind_number (cell c.args.block.now c.loop-index.index) ≤ 4 = block_kind c.args.block.now c.loop-index.index (omega arith) all in omega arith))

pub returns : goal.returns
returns c = (λ _. block_kinds c.args.block.now (λ k small. c.loop-index.invariant k (omega arith)), λ _. refl)
