use Rattle.out_json_csv.proofs.Objects.{members_printed}
use Rattle.cmd_merge.proofs.objects.put_counts.Goals as goal

pub returns : goal.returns
returns c =
    members_printed c.put_count.ensures c.in_ok-put_count.was
    (members_printed c.put_count-2.ensures c.in_ok-put_count-2.was
    (members_printed c.put_count-3.ensures c.in_ok-put_count-3.was
    (members_printed c.put_count-4.ensures c.in_ok-put_count-4.was
    c.put_count-5.ensures)))
