use Rattle.std.proofs.Common.{Ok, Err, refl}
use Rattle.script_lines.proofs.Acts.{Does-given, Does-refused}
use Rattle.script_lines.proofs.TextArguments.{Does-read}
use Rattle.script_commands.proofs.Refused.{responds_refused}
use Rattle.script_commands.proofs.handlers.crunch.Goals as goal

pub returns : goal.returns
returns g c =
    let new = g.H.Host.state c.fetch.new.host in
    rw (← c.in_ok-file.ensures, ← c.new_name.ensures)
    (Does-read _ _ _ c.in_ok-name.name _ _ _ _ c.in_ok-name.ensures
    (Does-given _ _ c.in_ok-text.text.items _ new _ _ _ (Ok c.in_ok-text.text.items, c.in_ok-text.ensures, refl)
    (rw c.as_slice.ensures.value at (c.write_program.ensures new))))

pub returns-in_err-text : goal.returns-in_err-text
returns-in_err-text g c =
    rw (← c.in_ok-file.ensures, ← c.new_name.ensures)
    (responds_refused _ _ _ _ _ _ _ c.from_residual-in_err-text.ensures.1
    (Does-read _ _ _ c.in_ok-name.name _ _ _ _ c.in_ok-name.ensures
    (Does-refused _ _ _ _ _ _ (Err c.in_err-text.field-0.0, c.in_err-text.ensures, refl))))
