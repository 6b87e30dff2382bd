use Rattle.std.proofs.Common.{◌≡◌, rules}
use Rattle.cmd_diff.proofs.printing.print_changed.Goals as goal

pub returns-in-Json : goal.returns-in-Json
returns-in-Json c =
    let slot : c.old.inside.slot ≡ c.args.old.now.slot = search rules in
    rw c.in-Json.is (rw slot at c.slot_json.ensures)
