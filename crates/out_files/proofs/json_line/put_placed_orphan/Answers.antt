use Rattle.out_json_csv.proofs.Objects.{members_printed}
use Rattle.out_files.proofs.json_line.put_placed_orphan.Goals as goal

pub returns : goal.returns
returns c = members_printed c.put_orphan_place.ensures c.in_ok-put_orphan_place.was c.put_orphan_members.ensures
