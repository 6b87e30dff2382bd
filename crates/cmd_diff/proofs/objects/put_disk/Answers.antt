use Rattle.cmd_diff.specs.Changes.{disk_object}
use Rattle.out_json_csv.proofs.Objects.{members_printed, object_printed}
use Rattle.cmd_diff.proofs.objects.put_disk.Goals as goal

pub returns : goal.returns
unfolding disk_object
returns c =
    object_printed c.begin_object.ensures c.in_ok-begin_object.was
    (members_printed c.put_size.ensures c.in_ok-put_size.was
    (members_printed (rw c.image.ensures at c.put_label.ensures) c.in_ok-put_label.was
    (rw c.image-2.ensures at c.put_free.ensures))) c.in_ok-put_free.was c.end_object.ensures
