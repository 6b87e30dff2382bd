use Rattle.std.proofs.Common.{[], refl}
use Rattle.script_lines.proofs.Acts.{Does-given}
use Rattle.script_commands.proofs.handlers.keep.Goals as goal

pub returns : goal.returns
returns g c =
    let host = g.H.Host.state c.args.host.now in
    rw (← c.in_ok-name.ensures, ← c.in_ok-file.ensures.file, ← c.as_slice.ensures.value)
    (Does-given _ _ [] host host _ _ _ (refl, refl) (c.store.ensures c.args.session.now))
