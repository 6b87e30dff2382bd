use Rattle.std.proofs.Common.{drop}
use Rattle.cmd_check.specs.Owners.{owner_object}
use Rattle.out_json_csv.proofs.Arrays.{ArrayBegun}
use Rattle.cmd_check.proofs.owner.put_owner_list.Given as goal

abbrev pub invariant-loop-owner : goal.invariant-loop-owner
invariant-loop-owner l = ArrayBegun (owner_object l.survey) l.initial.writer l.writer l.owners (drop l.owner-index l.owners)
