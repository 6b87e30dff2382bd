use Rattle.std.proofs.Common.{rules, ◌≡◌, ℕ, List, length, refl}
use Rattle.d64_history.specs.History.{History}
use Rattle.script_lines.specs.Line.{run, write_one_block}
use Rattle.d64_dos.specs.Change.{BlockWrite}
use Rattle.script_commands.proofs.handlers.write_one_block.Goals as goal

-- a host file of one block is given to the session
whole : (history : History) (at : ℕ) (bytes block : List ℕ) → length bytes ≡ 256 → block ≡ bytes
    → write_one_block history at bytes ≡ run history (BlockWrite at block)
whole history at bytes block size same = rw (size, same) refl

pub returns-in-Some : goal.returns-in-Some
returns-in-Some c = λ host.
    rw (whole c.args.session.now c.args.at c.args.bytes.now c.in-Some.block.now (search rules) (search rules)) (c.run_command.ensures host)
