use Rattle.cmd_extract.specs.Progress.{Progress}
use Rattle.cmd_extract.specs.Unpacking.{wait_work}
use Rattle.cmd_extract.proofs.Steps.{comes_further, comes_not}
use Rattle.cmd_extract.proofs.files.Files.unpack_row.Goals as goal

pub returns-in_err-unpack_file : goal.returns-in_err-unpack_file
returns-in_err-unpack_file g c = λ rest.
    comes_not c.from_residual.result _ _ _ _ c.from_residual.ensures.0 (c.in_err-unpack_file.ensures (λ (after : Progress). wait_work c.args.task.now after rest))

pub returns : goal.returns
returns g c = λ rest.
    comes_further c.put_long_lines.result _ _ _ _ _ _ (c.in_ok-unpack_file.ensures (λ (after : Progress). wait_work c.args.task.now after rest)) (c.put_long_lines.ensures rest)
