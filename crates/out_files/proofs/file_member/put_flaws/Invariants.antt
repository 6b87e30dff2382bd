use Rattle.std.proofs.Common.{drop}
use Rattle.out_json_csv.proofs.Arrays.{ArrayBegun}
use Rattle.out_files.specs.FileObject.{flaw_value}
use Rattle.out_files.proofs.file_member.put_flaws.Given as goal

abbrev pub invariant-loop-flaw : goal.invariant-loop-flaw
invariant-loop-flaw l = ArrayBegun flaw_value l.initial.writer l.writer l.flaws (drop l.flaw-index l.flaws)
