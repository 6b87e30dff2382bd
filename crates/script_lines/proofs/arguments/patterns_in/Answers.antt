use Rattle.std.proofs.Common.{◌≡◌, Err, rules, arith}
use Rattle.script_lines.proofs.TextArguments.{ReadsEach-more, ReadsEach-no_room, ReadsEach-stopped}
use Rattle.script_lines.proofs.arguments.patterns_in.Goals as goal

pub loop-argument-preserved : goal.loop-argument-preserved
loop-argument-preserved c =
    rw c.in-Ok.ensures.items
    (ReadsEach-more _ c.args.arguments.now c.loop-argument.argument-index _ c.loop-argument.patterns.items _ (omega arith) c.loop-argument.invariant c.in_ok-pattern.ensures)

pub returns-in_err-pattern : goal.returns-in_err-pattern
returns-in_err-pattern c =
    let stopped : c.from_residual.result ≡ Err c.in_err-pattern.field-0.0 = search rules in
    rw stopped
    (ReadsEach-stopped _ c.args.arguments.now c.loop-argument.argument-index _ c.loop-argument.patterns.items _ (omega arith) c.loop-argument.invariant c.in_err-pattern.ensures)

pub returns-in-Err : goal.returns-in-Err
returns-in-Err c =
    ReadsEach-no_room _ c.args.arguments.now c.loop-argument.argument-index _ c.loop-argument.patterns.items _ (omega arith) c.loop-argument.invariant c.in_ok-pattern.ensures
