use Rattle.cmd_diff.proofs.printing.print_block_list.Goals as goal

pub returns-in-Json : goal.returns-in-Json
returns-in-Json c = rw c.in-Json.is c.blocks_json.ensures
