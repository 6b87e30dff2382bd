use Rattle.std.proofs.Common.{ℕ, ◌+◌, ◌*◌, List, ap, ◌∙◌}
use Rattle.std.proofs.lemmas.Result.{on_ok_weaker}
use Rattle.d64_image.specs.Image.{with_sector}
use Rattle.d64_files.specs.Writing.{written_at, entry_bytes}
use Rattle.d64_files.proofs.writing.put_entry_at.Goals as goal

pub returns-clause-written : goal.returns-clause-written
returns-clause-written c =
    let entry : List ℕ = entry_bytes c.args.file.now.name.now c.args.file.now.kind c.args.file.now.first c.args.file.now.blocks in
    on_ok_weaker c.write.result
    (λ written.
    written
    ∙ ap (with_sector c.args.image.now c.args.block)
    (c.write_entry.ensures ∙ ap (λ (bytes : List ℕ). written_at bytes (32 * c.args.index + 2) entry) c.sector.ensures.value))
    c.write.ensures.written
