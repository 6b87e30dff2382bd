use Rattle.std.proofs.Common.{rules, ◌∙◌, Bool, ap, sym}
use Rattle.std.specs.Str.{bytes_eq}
use Rattle.script_lines.specs.LineCommand.{commands, command_name}
use Rattle.script_lines.specs.declared.line_command.LineCommand.{LineCommand}
use Rattle.script_lines.proofs.Finding.{found_at, none_found, passed_at}
use Rattle.script_lines.proofs.line_command.LineCommand.named.Goals as goal

-- the command with the name is found
pub returns-then-eq : goal.returns-then-eq
returns-then-eq c =
    let has : LineCommand → Bool = λ command. bytes_eq c.args.name.now (command_name command) in
    let this = ap (bytes_eq c.args.name.now) (sym c.name.ensures) ∙ sym c.eq.ensures ∙ c.if-eq.true in
    found_at has commands c.loop-command.command-index _ _ (search rules) this c.loop-command.invariant

-- a command with another name is passed over
pub loop-command-preserved : goal.loop-command-preserved
loop-command-preserved c =
    let has : LineCommand → Bool = λ command. bytes_eq c.args.name.now (command_name command) in
    let other = ap (bytes_eq c.args.name.now) (sym c.name.ensures) ∙ sym c.eq.ensures ∙ c.if-eq.false in
    passed_at has commands c.loop-command.command-index _ _ (search rules) other c.loop-command.invariant

-- no command has the name
pub returns : goal.returns
returns c =
    let has : LineCommand → Bool = λ command. bytes_eq c.args.name.now (command_name command) in
    none_found has commands c.loop-command.command-index _ (search rules) c.loop-command.invariant
