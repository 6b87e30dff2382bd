use Rattle.std.proofs.Common.{drop}
use Rattle.cmd_check.specs.Doubts.{doubt_value}
use Rattle.out_json_csv.proofs.Arrays.{ArrayBegun}
use Rattle.cmd_check.proofs.doubt.put_doubt_list.Given as goal

abbrev pub invariant-loop-doubt : goal.invariant-loop-doubt
invariant-loop-doubt l = ArrayBegun doubt_value l.initial.writer l.writer l.doubts (drop l.doubt-index l.doubts)
