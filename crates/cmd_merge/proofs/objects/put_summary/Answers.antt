use Rattle.out_json_csv.proofs.Objects.{members_printed}
use Rattle.cmd_merge.proofs.objects.put_summary.Goals as goal

pub returns : goal.returns
returns c =
    members_printed c.put_size.ensures c.in_ok-put_size.was
    (members_printed c.put_counts.ensures c.in_ok-put_counts.was
    (members_printed c.put_left.ensures c.in_ok-put_left.was
    c.put_digest.ensures))
