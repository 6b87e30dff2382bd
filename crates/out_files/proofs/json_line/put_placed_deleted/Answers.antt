use Rattle.std.proofs.Common.{◌≡◌, rules}
use Rattle.out_json_csv.proofs.Objects.{members_printed}
use Rattle.out_files.proofs.json_line.put_placed_deleted.Goals as goal

pub returns : goal.returns
returns c =
    let slot : c.file.inside.slot ≡ c.args.file.now.slot = search rules in
    members_printed (rw slot at c.put_place.ensures) c.in_ok-put_place.was c.put_deleted_members.ensures
