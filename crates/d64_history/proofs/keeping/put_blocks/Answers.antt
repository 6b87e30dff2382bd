use Rattle.std.proofs.Common.{◌≡◌, ◌++◌, ℕ, List, take, ap, sym, ◌∙◌, append_assoc}
use Rattle.std.specs.Int.{w16, to_le_bytes}
use Rattle.std.specs.List.{flat_map}
use Rattle.std.proofs.lemmas.List.{flat_map_more}
use Rattle.d64_image.specs.Patch.{Kept}
use Rattle.d64_history.specs.SessionFile.{block_file}
use Rattle.d64_history.proofs.Records.{take_on}
use Rattle.d64_history.proofs.keeping.put_blocks.Goals as goal

-- one block more is in the file
pub loop-entry-preserved : goal.loop-entry-preserved
loop-entry-preserved c =
    let entry : ℕ × List ℕ = c.entry-item.result in
    let before : Kept = take c.loop-entry.entry-index c.args.blocks.now in
    let taken = take_on c.args.blocks.now c.loop-entry.entry-index entry c.loop-entry-test.true c.entry-item.is in
    let digits : c.to_le_bytes.result ≡ to_le_bytes w16 entry.0 = c.to_le_bytes.ensures ∙ ap (to_le_bytes w16) c.index.ensures.value in
    let first : c.extend_from_slice.new.self.items ≡ c.loop-entry.file.items ++ to_le_bytes w16 entry.0 =
    c.in_ok-extend_from_slice.ensures.items ∙ ap (λ (xs : List ℕ). c.loop-entry.file.items ++ xs) digits in
    let both : c.extend_from_slice-in-loop-entry.new.self.items ≡ (c.loop-entry.file.items ++ to_le_bytes w16 entry.0) ++ entry.1 =
    c.in_ok-extend_from_slice-2.ensures.items ∙ ap (λ (xs : List ℕ). xs ++ entry.1) first in
    both ∙ append_assoc c.loop-entry.file.items (to_le_bytes w16 entry.0) entry.1
    ∙ ap (λ (xs : List ℕ). xs ++ block_file entry) c.loop-entry.invariant
    ∙ flat_map_more block_file c.args.file.now.items before entry
    ∙ ap (λ (es : Kept). c.args.file.now.items ++ flat_map block_file es) (sym taken)
