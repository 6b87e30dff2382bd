use Rattle.std.proofs.Common.{[], ◌∷◌, codes, rules}
use Rattle.out_json_csv.specs.Values.{PrintsMembers, numeral}
use Rattle.out_json_csv.proofs.Objects.{members_printed}
use Rattle.cmd_merge.proofs.objects.put_size.Goals as goal

pub returns : goal.returns
returns c =
    let tracks : PrintsMembers c.put_number.result c.put_host_name.new.writer c.put_number.new.writer ((codes "tracks", numeral c.args.summary.now.tracks) ∷ []) = search rules in
    members_printed c.put_host_name.ensures c.in_ok-put_host_name.was
    (members_printed tracks c.in_ok-put_number.was
    (members_printed c.put_boolean.ensures c.in_ok-put_boolean.was c.put_number-2.ensures))
