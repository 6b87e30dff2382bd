use Rattle.cmd_check.proofs.json_line.put_digest.Goals as goal

pub returns-in-Some : goal.returns-in-Some
returns-in-Some c = rw c.in-Some.is c.put_hexadecimal.ensures
