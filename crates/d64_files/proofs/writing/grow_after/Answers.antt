use Rattle.std.proofs.Common.{ℕ, List, ap, ap₂, ◌∙◌}
use Rattle.std.proofs.lemmas.Result.{on_ok_weaker}
use Rattle.d64_image.specs.Image.{with_sector}
use Rattle.d64_files.specs.Writing.{with_bytes, pair_bytes, empty_directory, with_growth}
use Rattle.d64_files.proofs.writing.grow_after.Goals as goal

pub returns-clause-written : goal.returns-clause-written
unfolding with_growth
returns-clause-written c =
    let image = c.args.image.now in
    let first = c.in_ok-write.ensures.written ∙ ap (with_sector image c.args.last) c.linked_last.ensures.linked in
    on_ok_weaker c.write-2.result
    (λ written.
    written
    ∙ ap₂ (λ (held : List (List ℕ)) (new : List ℕ). with_sector held c.args.new new) first c.empty_directory.ensures
    ∙ ap (λ (block : ℕ). with_sector (with_bytes image block 0 (pair_bytes c.args.new)) c.args.new empty_directory) c.requires.last)
    c.write-2.ensures.written
