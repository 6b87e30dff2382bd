use Rattle.std.proofs.Common.{subst, sym}
use Rattle.std.proofs.lemmas.List.{take_all}
use Rattle.program_arguments.specs.Making.{IsCommandMade, with_rules}
use Rattle.program_arguments.proofs.Additions.{with_more}
use Rattle.program_arguments.proofs.arguments.with_arguments.Goals as goal

pub loop-argument-preserved : goal.loop-argument-preserved
loop-argument-preserved c = record {
  made = λ app is.
      let one = c.with_argument-command.ensures _ (c.loop-argument.invariant.made app is) in
      subst (λ new. IsCommandMade new c.with_argument-command.result) (sym (with_more app _ c.loop-argument.argument-index _ c.loop-argument-test.true)) one;
}

pub returns : goal.returns
returns c = λ app is.
    let all = take_all c.loop-argument.argument-index _ c.loop-argument-test.false in
    subst (λ arguments. IsCommandMade (with_rules app arguments) c.loop-argument.command) all (c.loop-argument.invariant.made app is)
