use Rattle.std.proofs.Common.{◌≡◌, ◌+◌, ◌++◌, ◌∷◌, ℕ, List, [], take, get_or, ap, sym, ◌∙◌, arith}
use Rattle.std.specs.List.{flat_map}
use Rattle.std.proofs.lemmas.List.{flat_map_more, take_more}
use Rattle.d64_image.specs.Patch.{Kept}
use Rattle.d64_history.specs.SessionFile.{record_file}
use Rattle.d64_history.proofs.keeping.put_records.Goals as goal

-- one record more is in the file
pub loop-preserved : goal.loop-preserved
loop-preserved c =
    let records : List Kept = c.args.records.now in
    let before : List Kept = take c.loop.counter records in
    let patch : Kept = c.at.result.now in
    let within = c.loop-test.true in
    let count = c.len-end.ensures in
    let taken : take (c.loop.counter + 1) records ≡ before ++ patch ∷ [] =
    take_more records c.loop.counter [] (omega arith)
    ∙ ap (λ (n : ℕ). before ++ get_or records n [] ∷ []) (sym c.loop.invariant.number)
    ∙ ap (λ (p : Kept). before ++ p ∷ []) (sym c.at.ensures.kept) in
    record {
      file =
          c.in_ok-put_record.ensures
          ∙ ap (λ (xs : List ℕ). xs ++ record_file patch) c.loop.invariant.file
          ∙ flat_map_more record_file c.args.file.now.items before patch
          ∙ ap (λ (ps : List Kept). c.args.file.now.items ++ flat_map record_file ps) (sym taken);
      number = c.next-place.ensures.number ∙ ap (λ (n : ℕ). n + 1) c.loop.invariant.number;
      blocks = c.next-place.ensures.blocks;
    }
