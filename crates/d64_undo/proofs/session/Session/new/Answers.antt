use Rattle.std.proofs.Common.{◌≡◌, List, length, sym, ap, ◌∙◌, subst, arith}
use Rattle.d64_image.specs.Patch.{Kept}
use Rattle.d64_image.specs.PatchList.{blocks_before}
use Rattle.d64_history.specs.Held.{history_of}
use Rattle.d64_history.specs.Records.{AreRecords}
use Rattle.d64_undo.specs.SoundHistory.{IsSoundHistory}
use Rattle.d64_history.proofs.Sessions.{history-new_history, none-are_records}
use Rattle.d64_undo.proofs.SoundHistories.{new_history-sound}
use Rattle.d64_undo.proofs.session.Session.new.Goals as goal
use Rattle.d64_undo.proofs.session.Session.new.Goals.{After-new}

-- no record is done
none-done : (c : After-new) → c.end-cursor.result.number ≡ 0
none-done c = c.end-cursor.ensures.number ∙ ap (λ (records : List Kept). length records) c.new-records.ensures

pub invariant_of-result : goal.invariant_of-result
invariant_of-result c =
    let number = c.end-cursor.ensures.number in (
      omega arith,
      subst (AreRecords c.new-records.result c.args.image) (sym (none-done c)) (none-are_records c.new-records.result c.args.image c.new-records.ensures),
      c.end-cursor.ensures.blocks ∙ ap (blocks_before c.new-records.result) (sym number),
      λ known. absurd (cc),
      cc,
    )

-- there is no record yet
pub returns-clause-begun : goal.returns-clause-begun
returns-clause-begun c =
    ap (history_of c.new-records.result c.args.image) (none-done c)
    ∙ history-new_history c.new-records.result c.args.image c.new-records.ensures

-- the one image is sound
pub returns-clause-sound : goal.returns-clause-sound
returns-clause-sound c sound = subst IsSoundHistory (sym (returns-clause-begun c)) (new_history-sound c.args.image sound)
