use Rattle.std.proofs.Common.{true, false, ap, ◌∙◌}
use Rattle.d64_g64.specs.Blocks.{data_code}
use Rattle.d64_g64.specs.Starts.{TrackPlace}
use Rattle.d64_g64.proofs.HeaderSearches.{code_by_parts, code_of_bad}
use Rattle.d64_g64.proofs.block.read_behind.Goals as goal

pub returns-then-not-is_good-clause-code : goal.returns-then-not-is_good-clause-code
returns-then-not-is_good-clause-code c = code_of_bad c.args.id c.args.start.now.track (c.args.start.now.place, c.args.next) (c.if-not-is_good.ensures c.args.next)

pub returns-then-has_other_id-clause-code : goal.returns-then-has_other_id-clause-code
returns-then-has_other_id-clause-code c =
    code_by_parts c.args.id c.args.start.now.track (c.args.start.now.place, c.args.next) true true (c.if-not-is_good.ensures c.args.next) (c.if-has_other_id.ensures c.args.next)

pub returns-else-has_other_id-clause-code : goal.returns-else-has_other_id-clause-code
returns-else-has_other_id-clause-code c =
    c.read_next-code.ensures.code ∙ ap (λ (p : TrackPlace). data_code p.track c.args.next) c.start.view_is
    ∙ code_by_parts c.args.id c.args.start.now.track (c.args.start.now.place, c.args.next) true false (c.if-not-is_good.ensures c.args.next) (c.if-has_other_id.ensures c.args.next)
