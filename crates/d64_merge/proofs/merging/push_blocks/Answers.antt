use Rattle.std.proofs.Common.{◌∙◌, ◌++◌, ℕ, List, sym, ap}
use Rattle.std.specs.List.{flat_map}
use Rattle.std.proofs.lemmas.List.{take_all}
use Rattle.std.proofs.lemmas.List.Folds.{flat_map-map}
use Rattle.d64_merge.specs.Merged.{taken_bytes, merged_image}
use Rattle.d64_merge.specs.declared.choice.Choice.{Choice}
use Rattle.d64_merge.proofs.merging.push_blocks.Goals as goal

pub returns : goal.returns
unfolding merged_image
returns c =
    let list = c.args.list.now in
    let taken = taken_bytes c.args.dumps.now in
    let old = c.args.bytes.now.items in
    c.loop-choice.invariant
    ∙ ap (λ (xs : List Choice). old ++ flat_map taken xs) (take_all c.loop-choice.choice-index list c.loop-choice-test.false)
    ∙ ap (λ (bytes : List ℕ). old ++ bytes) (sym (flat_map-map (λ bytes. bytes) taken list))
