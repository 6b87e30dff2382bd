use Rattle.std.proofs.Common.{◌≡◌, ℕ, List, ◌∷◌, ◌++◌, sym, ap, ◌∙◌, arith}
use Rattle.d64_files.specs.Slot.{EntryView, is_used}
use Rattle.out_picture.specs.Legend.{placed_row, shown_files}
use Rattle.out_picture.proofs.FileRows.{rows_left, one_row}
use Rattle.out_picture.proofs.legend.push_file_rows.Goals as goal

pub loop-entry-preserved-then-place-lt-SHOWN_FILES : goal.loop-entry-preserved-then-place-lt-SHOWN_FILES
loop-entry-preserved-then-place-lt-SHOWN_FILES c =
    let image = c.args.inspection.now.image in
    let test = λ (entry : EntryView). is_used entry.bytes in
    let place = c.loop-entry.place in
    let before = c.loop-entry.out.items in
    let items = c.next.new.self in
    let steps : c.loop-entry.entry-iterator ≡ c.in-Some.entry ∷ items = c.in-Some.ensures.steps in
    let more : c.push_placed_row.new.out.items ≡ before ++ placed_row image (place, c.in-Some.entry) =
    c.in_ok-push_placed_row.ensures ∙ ap (λ (i : List (List ℕ)). before ++ placed_row i (place, c.in-Some.entry)) c.image.ensures in (
      one_row (placed_row image) test shown_files place c.in-Some.entry items before c.push_placed_row.new.out.items _ c.if-place-lt-SHOWN_FILES.true (sym c.used.ensures ∙ c.if-used.true)
          more (ap (λ (left : List EntryView). before ++ rows_left (placed_row image) test shown_files place left) (sym steps) ∙ c.loop-entry.invariant.0),
      omega (arith, c.if-place-lt-SHOWN_FILES.true),
    )
