use Rattle.std.proofs.Common.{◌∙◌, ◌++◌, sym, ap}
use Rattle.std.specs.Prelude.{codes}
use Rattle.std.proofs.lemmas.Result.{on_ok_weaker}
use Rattle.d64_scratched.specs.declared.loss.Loss.{Loss}
use Rattle.d64_leftovers.specs.Deleted.{DeletedRowView}
use Rattle.out_files.specs.DeletedTable.{new_owners, loss_text}
use Rattle.out_files.proofs.Parts.{both_added, added_where_ok}
use Rattle.out_files.proofs.deleted_table.push_loss.Goals as goal

pub returns-in_ok-extend_from_slice-in-Reused : goal.returns-in_ok-extend_from_slice-in-Reused
unfolding loss_text
returns-in_ok-extend_from_slice-in-Reused c =
    let image = c.args.survey.now in
    let row = c.args.row.now in
    let before = c.args.out.now.items in
    on_ok_weaker c.push_new_owners.result
    (λ added.
    both_added _ _ _ (codes "its blocks were used again") (new_owners image c.row.inside.reused) c.in_ok-extend_from_slice-in-Reused.ensures.items added
    ∙ ap (λ (r : DeletedRowView). before ++ (codes "its blocks were used again" ++ new_owners image r.reused)) c.row.view_is
    ∙ ap (λ (l : Loss). before ++ loss_text image row l) (sym c.in-Reused.is))
    c.push_new_owners.ensures

pub returns-in-Claimed : goal.returns-in-Claimed
unfolding loss_text
returns-in-Claimed c =
    on_ok_weaker c.extend_from_slice-in-Claimed.result
    (λ added. added ∙ ap (λ (l : Loss). c.args.out.now.items ++ loss_text c.args.survey.now c.args.row.now l) (sym c.in-Claimed.is))
    (added_where_ok c.extend_from_slice-in-Claimed.result c.args.out.now.items c.extend_from_slice-in-Claimed.new.self.items (codes "it shares blocks with a file deleted later") c.extend_from_slice-in-Claimed.ensures.items)

pub returns-in-Unreadable : goal.returns-in-Unreadable
unfolding loss_text
returns-in-Unreadable c =
    on_ok_weaker c.extend_from_slice-in-Unreadable.result
    (λ added. added ∙ ap (λ (l : Loss). c.args.out.now.items ++ loss_text c.args.survey.now c.args.row.now l) (sym c.in-Unreadable.is))
    (added_where_ok c.extend_from_slice-in-Unreadable.result c.args.out.now.items c.extend_from_slice-in-Unreadable.new.self.items (codes "it has a read error") c.extend_from_slice-in-Unreadable.ensures.items)
