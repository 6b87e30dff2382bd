use Rattle.std.proofs.Common.{drop}
use Rattle.json.specs.Json.{string}
use Rattle.cmd_merge.specs.Objects.{entry_text}
use Rattle.out_json_csv.proofs.Arrays.{ArrayBegun}
use Rattle.cmd_merge.proofs.objects.put_entries.Given as goal

abbrev pub invariant-loop-entry : goal.invariant-loop-entry
invariant-loop-entry l = ArrayBegun (λ entry. string (entry_text entry)) l.initial.writer l.writer l.left (drop l.entry-index l.left)
