use Rattle.out_json_csv.proofs.Objects.{members_printed}
use Rattle.out_files.specs.DeletedObject.{deleted_members}
use Rattle.out_files.proofs.deleted_member.put_deleted_members.Goals as goal

pub returns : goal.returns
unfolding deleted_members
returns c =
    rw (← c.row.view_is)
    (members_printed c.put_names.ensures c.in_ok-put_names.was
    (members_printed c.put_type.ensures c.in_ok-put_type.was
    (members_printed c.put_entry.ensures c.in_ok-put_entry.was
    (members_printed c.put_ways.ensures c.in_ok-put_ways.was
    (members_printed c.put_content.ensures c.in_ok-put_content.was (rw (← c.row.view_is) at c.put_state.ensures))))))
