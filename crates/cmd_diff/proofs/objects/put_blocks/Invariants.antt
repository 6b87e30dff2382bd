use Rattle.std.proofs.Common.{drop}
use Rattle.cmd_diff.specs.ChangeObject.{block_value}
use Rattle.out_json_csv.proofs.Arrays.{ArrayBegun}
use Rattle.cmd_diff.proofs.objects.put_blocks.Given as goal

abbrev pub invariant-loop-block : goal.invariant-loop-block
invariant-loop-block l = ArrayBegun block_value l.initial.writer l.writer l.blocks (drop l.block-index l.blocks)
