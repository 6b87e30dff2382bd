use Rattle.std.proofs.Common.{drop}
use Rattle.out_json_csv.proofs.Arrays.{ArrayBegun}
use Rattle.out_json_csv.specs.Values.{numeral}
use Rattle.out_files.proofs.file_member.put_numbers.Given as goal

abbrev pub invariant-loop-number : goal.invariant-loop-number
invariant-loop-number l = ArrayBegun numeral l.initial.writer l.writer l.numbers (drop l.number-index l.numbers)
