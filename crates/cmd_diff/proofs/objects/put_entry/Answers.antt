use Rattle.cmd_diff.specs.Changes.{entry_object}
use Rattle.out_json_csv.proofs.Objects.{object_printed}
use Rattle.cmd_diff.proofs.objects.put_entry.Goals as goal

pub returns : goal.returns
unfolding entry_object
returns c =
    object_printed c.begin_object.ensures c.in_ok-begin_object.was c.put_file_members.ensures c.in_ok-put_file_members.was c.end_object.ensures
