use Rattle.std.proofs.Common.{Ok, Err, refl}
use Rattle.script_lines.proofs.Acts.{Does-given, Does-refused}
use Rattle.script_lines.proofs.TextArguments.{Does-read}
use Rattle.script_commands.proofs.Refused.{responds_refused}
use Rattle.script_commands.proofs.handlers.write.Goals as goal

pub returns : goal.returns
returns g c =
    let new = g.H.Host.state c.fetch.new.host in
    rw (← c.in_ok-file.ensures, ← c.in_ok-name.ensures)
    (Does-read _ _ _ c.in_ok-name-2.name _ _ _ _ c.in_ok-name-2.ensures
    (Does-given _ _ c.in_ok-bytes.bytes.items _ new _ _ _ (Ok c.in_ok-bytes.bytes.items, c.in_ok-bytes.ensures, refl)
    (c.run_command.ensures new)))

pub returns-in_err-bytes : goal.returns-in_err-bytes
returns-in_err-bytes g c =
    rw (← c.in_ok-file.ensures, ← c.in_ok-name.ensures)
    (responds_refused _ _ _ _ _ _ _ c.from_residual-in_err-bytes.ensures.1
    (Does-read _ _ _ c.in_ok-name-2.name _ _ _ _ c.in_ok-name-2.ensures
    (Does-refused _ _ _ _ _ _ (Err c.in_err-bytes.field-0.0, c.in_err-bytes.ensures, refl))))
