use Rattle.script_commands.proofs.handlers.name.Goals as goal

pub returns-in-Some : goal.returns-in-Some
returns-in-Some c = rw (← c.as_bytes-bytes.ensures.value, ← c.in-Some.ensures) c.name_with_id.ensures

pub returns-in-None : goal.returns-in-None
returns-in-None c = rw (← c.as_bytes-bytes.ensures.value, ← c.in-None.ensures) c.name_alone.ensures
