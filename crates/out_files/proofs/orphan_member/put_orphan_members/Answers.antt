use Rattle.out_json_csv.proofs.Objects.{members_printed}
use Rattle.out_files.specs.OrphanObject.{orphan_members}
use Rattle.out_files.proofs.orphan_member.put_orphan_members.Goals as goal

pub returns : goal.returns
unfolding orphan_members
returns c =
    rw (← c.row.view_is)
    (members_printed c.put_old_names.ensures c.in_ok-put_old_names.was
    (members_printed c.put_old_type.ensures c.in_ok-put_old_type.was
    (members_printed (rw (← c.row.view_is) at c.put_orphan_entry.ensures) c.in_ok-put_orphan_entry.was
    (members_printed c.put_ways.ensures c.in_ok-put_ways.was
    (members_printed c.put_content.ensures c.in_ok-put_content.was (rw (← c.row.view_is) at c.put_orphan_state.ensures))))))
