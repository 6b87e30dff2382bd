use Rattle.std.proofs.Common.{◌≡◌, rules}
use Rattle.out_json_csv.proofs.Objects.{members_printed}
use Rattle.out_files.proofs.orphan_member.put_orphan_state.Goals as goal

pub returns : goal.returns
returns c =
    let errors : c.row.inside.read_errors ≡ c.args.row.now.read_errors = search rules in
    members_printed c.put_truth.ensures c.in_ok-put_truth.was
    (members_printed c.put_why.ensures c.in_ok-put_why.was
    (members_printed c.put_conditions.ensures c.in_ok-put_conditions.was (rw errors at c.put_number.ensures)))
