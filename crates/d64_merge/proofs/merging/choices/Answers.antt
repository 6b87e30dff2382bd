use Rattle.std.proofs.Common.{◌≡◌, ◌<◌, ◌∙◌, ◌++◌, ◌∷◌, [], List, sym, ap, ap₂, arith, rules}
use Rattle.std.specs.Prelude.{◌==◌}
use Rattle.std.proofs.lemmas.List.FromFn.{map-range_with_len_more}
use Rattle.d64_merge.specs.Choices.{choice}
use Rattle.d64_merge.specs.Merged.{merged_tracks}
use Rattle.d64_merge.specs.declared.choice.Choice.{Choice}
use Rattle.d64_merge.proofs.Kept.{few_blocks}
use Rattle.d64_merge.proofs.merging.choices.Goals as goal
use Rattle.d64_merge.proofs.merging.choices.Goals.{in-Some+in_ok-push-in-Some, in-None}

pub loop-index-preserved : goal.loop-index-preserved
loop-index-preserved c =
    let preference = c.args.preference in
    let dumps = c.args.dumps.now in
    let index = c.loop-index.index in
    elim c.match-at.branch [
      | in-Some+in_ok-push-in-Some w ↦
          let here : w.in-Some.block ≡ index = search rules in
          let pushed : c.match-at.list.items ≡ c.loop-index.list.items ++ w.choose.result ∷ [] = search rules in
          pushed
          ∙ ap₂ (λ (xs : List Choice) (x : Choice). xs ++ x ∷ []) c.loop-index.invariant (w.choose.ensures ∙ ap (choice preference dumps) here)
          ∙ sym (map-range_with_len_more (choice preference dumps) 0 index index (omega arith))
      | in-None w ↦
          let within : index < c.block_count-index-end.result = search rules in
          let count = c.block_count-index-end.ensures in
          let few = few_blocks (merged_tracks dumps == 40) in
          let below : index < 768 = omega (arith, within, count, few) in
          absurd (search rules)
    ]
