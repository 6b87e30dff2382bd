use Rattle.std.proofs.Common.{sym, subst}
use Rattle.std.proofs.lemmas.List.{take_all}
use Rattle.program_arguments.specs.Commands.{d64sh}
use Rattle.program_arguments.specs.Making.{IsCommandMade}
use Rattle.program_arguments.proofs.Additions.{with_next, with_these}
use Rattle.program_arguments.proofs.command.d64sh.Goals as goal

pub loop-subcommand-preserved : goal.loop-subcommand-preserved
loop-subcommand-preserved c =
    let one = c.with_subcommand-command.ensures _ c.loop-subcommand.invariant.made in
    record { made = subst (λ app. IsCommandMade app c.with_subcommand-command.result) (sym (with_next _ c.loop-subcommand.subcommand-index c.loop-subcommand-test.true)) one }

pub returns : goal.returns
unfolding d64sh
returns c =
    let all = take_all c.loop-subcommand.subcommand-index _ c.loop-subcommand-test.false in
    subst (λ subcommands. IsCommandMade (with_these subcommands) c.loop-subcommand.command) all c.loop-subcommand.invariant.made
