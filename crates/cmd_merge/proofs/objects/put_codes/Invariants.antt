use Rattle.std.proofs.Common.{drop}
use Rattle.d64_merge.specs.Copies.{known_code}
use Rattle.out_json_csv.specs.Values.{numeral_or_null}
use Rattle.out_json_csv.proofs.Arrays.{ArrayBegun}
use Rattle.cmd_merge.proofs.objects.put_codes.Given as goal

abbrev pub invariant-loop-dump : goal.invariant-loop-dump
invariant-loop-dump l = ArrayBegun (λ dump. numeral_or_null (known_code l.block dump)) l.initial.writer l.writer l.dumps (drop l.dump-index l.dumps)
