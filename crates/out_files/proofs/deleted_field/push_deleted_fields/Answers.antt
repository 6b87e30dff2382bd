use Rattle.std.proofs.Common.{false, None, Some}
use Rattle.std.proofs.lemmas.Result.{on_ok_weaker}
use Rattle.out_files.specs.FileRow.{name_fields, type_fields, entry_fields, way_fields, content_fields}
use Rattle.out_files.specs.DeletedRow.{deleted_fields}
use Rattle.out_files.proofs.Parts.{both_added}
use Rattle.out_files.proofs.deleted_field.push_deleted_fields.Goals as goal

pub returns : goal.returns
unfolding deleted_fields
returns c =
    let seen = c.row.inside in
    rw (← c.row.view_is)
    (on_ok_weaker c.push_state.result
    (λ reported.
    both_added _ _ _ (name_fields seen.field) _ c.in_ok-push_names.ensures
    (both_added _ _ _ (type_fields None 0 false false) _ c.in_ok-push_type.ensures
    (both_added _ _ _ (entry_fields seen.size seen.first None) _ c.in_ok-push_entry.ensures
    (both_added _ _ _ (way_fields (Some seen.blocks) None) _ c.in_ok-push_ways.ensures
    (both_added _ _ _ (content_fields seen.content) _ c.in_ok-push_content.ensures reported)))))
    (rw (← c.row.view_is) at c.push_state.ensures))
