use Rattle.std.proofs.Common.{ap, ◌∙◌}
use Rattle.std.specs.Prelude.{count_by, ◌==◌}
use Rattle.d64_g64.proofs.DumpBlocks.{few_kept, rest}
use Rattle.d64_g64.proofs.dump.kept_count.Goals as goal

pub returns-else-count_good-gt-BLOCKS_BEYOND-clause-count :
    goal.returns-else-count_good-gt-BLOCKS_BEYOND-clause-count
returns-else-count_good-gt-BLOCKS_BEYOND-clause-count c = few_kept c.args.codes.now c.count_good.result (c.count_good.ensures.count ∙ ap (count_by (λ code. code == 1)) (rest c.args.codes.now 683)) c.if-count_good-gt-BLOCKS_BEYOND.false
