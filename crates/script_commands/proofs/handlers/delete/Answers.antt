use Rattle.std.proofs.Common.{◌≡◌, Err, map, rules}
use Rattle.script_lines.specs.Line.{delete_act}
use Rattle.script_lines.specs.Response.{RespondsAlone}
use Rattle.script_lines.proofs.TextArguments.{Does-read_each, Does-unread_each}
use Rattle.script_commands.proofs.handlers.delete.Goals as goal

pub returns-in_err-patterns : goal.returns-in_err-patterns
returns-in_err-patterns c =
    let status = c.in_err-patterns.field-0.0 in
    let stopped : RespondsAlone (delete_act c.args.session.now (map (λ word. word.now) c.args.patterns.now)) c.args.session.now (Err status) c.args.session.now =
    λ host. Does-unread_each _ _ _ status host _ c.in_err-patterns.ensures in
    let same : c.from_residual.result ≡ Err status = search rules in
    rw same stopped

pub returns : goal.returns
returns c = λ host. Does-read_each _ _ c.in_ok-patterns.patterns.items _ host _ _ _ c.in_ok-patterns.ensures (c.run_command.ensures host)
