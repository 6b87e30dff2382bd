use Rattle.std.proofs.Common.{rules, ℕ, ◌++◌, ap, ◌∙◌}
use Rattle.std.specs.Prelude.{codes, decimal, Option}
use Rattle.d64_survey.specs.Dump.{drive_status}
use Rattle.out_messages.specs.Words.{block_text}
use Rattle.out_messages.specs.FaultText.{drive_status_text, belonging_text, read_error_text}
use Rattle.out_messages.proofs.Joins.{join5}
use Rattle.out_messages.proofs.fault_text.push_read_error.Goals as goal

pub returns : goal.returns
unfolding read_error_text
returns c =
    join5 c.args.out.now.items (block_text c.args.error.block) (codes " could not be read: code ") (decimal c.args.error.code) (drive_status_text (drive_status c.args.error.code)) (belonging_text c.args.survey.now c.args.error.block)
    c.push_block.new.out.items c.extend_from_slice.new.self.items c.push_number.new.out.items c.push_status.new.out.items c.push_belonging.new.out.items
    c.in_ok-push_block.ensures c.in_ok-extend_from_slice.ensures.items (search rules)
    (c.in_ok-push_status.ensures ∙ ap (λ (status : Option ℕ). c.push_number.new.out.items ++ drive_status_text status) c.drive_status.ensures) c.in_ok-push_belonging.ensures
