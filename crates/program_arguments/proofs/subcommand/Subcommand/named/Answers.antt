use Rattle.std.proofs.Common.{ap, sym, ◌∙◌}
use Rattle.std.specs.Str.{bytes_eq}
use Rattle.program_arguments.proofs.OneOf.{none_so_far}
use Rattle.program_arguments.proofs.subcommand.Subcommand.named.Goals as goal

pub loop-subcommand-preserved : goal.loop-subcommand-preserved
loop-subcommand-preserved c =
    let name = c.args.name.now in
    let other = ap (bytes_eq name) (sym c.name.ensures) ∙ sym c.eq.ensures ∙ c.if-eq.false in
    record { none = none_so_far _ c.loop-subcommand.subcommand-index name c.loop-subcommand-test.true c.loop-subcommand.invariant.none other }
