use Rattle.std.proofs.Common.{rules}
use Rattle.script_text.proofs.ScriptReads.{IsReadFrom-whole}
use Rattle.cmd_basic.proofs.tools.whole_input.Goals as goal

pub returns-then-script-clause-read : goal.returns-then-script-clause-read
returns-then-script-clause-read g c = record {
  all = IsReadFrom-whole _ _ c.in-Ok.script c.in-Ok.ensures.read c.if-script.true;
  ended = c.in-Ok.ensures.read.ended c.if-script.true;
  within = search rules;
}
