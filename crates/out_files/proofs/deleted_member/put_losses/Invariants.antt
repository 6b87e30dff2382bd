use Rattle.std.proofs.Common.{drop}
use Rattle.out_json_csv.proofs.Arrays.{ArrayBegun}
use Rattle.out_files.specs.DeletedObject.{loss_value}
use Rattle.out_files.proofs.deleted_member.put_losses.Given as goal

abbrev pub invariant-loop-loss : goal.invariant-loop-loss
invariant-loop-loss l = ArrayBegun loss_value l.initial.writer l.writer l.losses (drop l.loss-index l.losses)
