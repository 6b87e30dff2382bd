use Rattle.std.proofs.Common.{None, Some}
use Rattle.std.proofs.lemmas.Result.{on_ok_weaker}
use Rattle.out_files.specs.FileRow.{way_fields, content_fields}
use Rattle.out_files.specs.OrphanRow.{old_name_fields, old_type_fields, orphan_fields}
use Rattle.out_files.proofs.Parts.{both_added}
use Rattle.out_files.proofs.orphan_field.push_orphan_fields.Goals as goal

pub returns : goal.returns
unfolding orphan_fields
returns c =
    let seen = c.row.inside in
    rw (← c.row.view_is)
    (on_ok_weaker c.push_orphan_state.result
    (λ reported.
    both_added _ _ _ (old_name_fields seen.old) _ c.in_ok-push_old_names.ensures
    (both_added _ _ _ (old_type_fields seen.old) _ c.in_ok-push_old_type.ensures
    (both_added _ _ _ _ _ (rw (← c.row.view_is) at c.in_ok-push_orphan_entry.ensures)
    (both_added _ _ _ (way_fields (Some seen.blocks) None) _ c.in_ok-push_ways.ensures
    (both_added _ _ _ (content_fields seen.content) _ c.in_ok-push_content.ensures reported)))))
    (rw (← c.row.view_is) at c.push_orphan_state.ensures))
