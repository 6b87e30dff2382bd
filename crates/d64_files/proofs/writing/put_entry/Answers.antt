use Rattle.std.proofs.Common.{ℕ, ◌+◌, ◌*◌, ◌%◌, List, ap₂, ◌∙◌}
use Rattle.std.proofs.lemmas.Result.{on_ok_weaker}
use Rattle.d64_files.specs.Writing.{with_bytes, entry_bytes, with_entry}
use Rattle.d64_files.proofs.writing.put_entry.Goals as goal

pub returns-clause-written : goal.returns-clause-written
unfolding with_entry
returns-clause-written c =
    let entry : List ℕ = entry_bytes c.args.name.now c.args.kind c.args.first c.args.blocks in
    on_ok_weaker c.put_entry_at.result
    (λ written.
    written
    ∙ ap₂ (λ (block place : ℕ). with_bytes c.args.image.now block (32 * (place % 8) + 2) entry) c.block_of_slot-block.ensures.block c.place-index.ensures)
    c.put_entry_at.ensures.written
