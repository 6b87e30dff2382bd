use Rattle.std.proofs.Common.{◌≡◌, false, length, subst, arith}
use Rattle.std.specs.Prelude.{nat_lt}
use Rattle.std.proofs.lemmas.Bool.{lt-ltb, ltb-true, false_from_ne_true}
use Rattle.cmd_extract.specs.Work.{Work, Comes, LeadsTo}
use Rattle.cmd_extract.specs.FilesNow.{progress_of_files}
use Rattle.cmd_extract.proofs.Steps.{nothing_yet}
use Rattle.cmd_extract.proofs.ListSteps.{waited_long, waited_short}
use Rattle.cmd_extract.proofs.files.Files.put_long_lines.Goals as goal

pub returns-then-len-gt-WAITING_BYTES : goal.returns-then-len-gt-WAITING_BYTES
returns-then-len-gt-WAITING_BYTES g c = λ rest.
    let p = progress_of_files c.args.self.now in
    subst (λ (w : Work). Comes c.put_lines.result w (g.H.Host.state c.args.host.now) (rest (progress_of_files c.put_lines.new.self)) (g.H.Host.state c.put_lines.new.host))
    (waited_long c.args.task.now p rest (lt-ltb 65536 (length p.lines) (omega (arith, c.len.ensures, c.if-len-gt-WAITING_BYTES.true)))) (c.put_lines.ensures rest)

pub returns : goal.returns
returns g c = λ rest.
    let p = progress_of_files c.args.self.now in
    let host = g.H.Host.state c.args.host.now in
    let is_short : nat_lt 65536 (length p.lines) ≡ false = false_from_ne_true (nat_lt 65536 (length p.lines)) (λ passes. omega (arith, ltb-true 65536 (length p.lines) passes, c.len.ensures, c.if-len-gt-WAITING_BYTES.false)) in
    subst (λ (w : Work). LeadsTo w host (rest p) host) (waited_short c.args.task.now p rest is_short) (nothing_yet (rest p) host)
