use Rattle.std.proofs.Common.{refl}
use Rattle.script_lines.proofs.Acts.{Does-given}
use Rattle.script_lines.proofs.BasicActs.{Does-uncrunched}
use Rattle.script_commands.proofs.Refused.{responds_refused}
use Rattle.script_commands.proofs.handlers.write_program.Goals as goal

pub returns : goal.returns
returns c = λ host. Does-given _ _ c.in_ok-bytes.bytes.items host host _ _ _ (c.in_ok-bytes.ensures.crunched, refl) (c.run_command.ensures host)

pub returns-in_err-bytes : goal.returns-in_err-bytes
returns-in_err-bytes c = λ host. responds_refused _ host host _ _ _ _ c.from_residual.ensures.1 (Does-uncrunched _ _ c.in_err-bytes.field-0.0 host _ c.in_err-bytes.ensures.fault)
