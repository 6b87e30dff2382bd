use Rattle.std.proofs.Common.{ℕ, Option, ◌++◌, ap, ◌∙◌}
use Rattle.std.specs.Prelude.{codes, decimal}
use Rattle.d64_survey.specs.Dump.{drive_status}
use Rattle.out_messages.specs.FaultText.{drive_status_text}
use Rattle.out_messages.proofs.Joins.{join4}
use Rattle.out_picture.specs.Cells.{read_text}
use Rattle.out_picture.proofs.cells.push_read.Goals as goal

pub returns : goal.returns
unfolding read_text
returns c =
    let code = c.args.code in
    join4 c.args.out.now.items (codes "could not be read (code ") (decimal code) (drive_status_text (drive_status code)) (codes "), ")
    c.extend_from_slice.new.self.items c.push_number.new.out.items c.push_status.new.out.items c.extend_from_slice-2.new.self.items
    c.in_ok-extend_from_slice.ensures.items
    (c.in_ok-push_number.ensures ∙ ap (λ (n : ℕ). c.extend_from_slice.new.self.items ++ decimal n) c.from.ensures)
    (c.in_ok-push_status.ensures ∙ ap (λ (status : Option ℕ). c.push_number.new.out.items ++ drive_status_text status) c.drive_status.ensures)
    c.in_ok-extend_from_slice-2.ensures.items
