use Rattle.std.proofs.Common.{true, false, Option, Some, None, length, ap, ◌∙◌}
use Rattle.std.specs.Prelude.{if◌then◌else◌, is_some}
use Rattle.d64_survey.specs.Dump.{DumpView}
use Rattle.d64_g64.specs.File.{is_g64}
use Rattle.d64_g64.specs.Dump.{g64_dump}
use Rattle.d64_g64.specs.DumpOf.{dump_of_g64}
use Rattle.d64_g64.proofs.Dumps.{by_g64}
use Rattle.d64_g64.proofs.Refilled.{same_fault, same_filling}
use Rattle.d64_g64.proofs.refilling.refill_from_g64.Goals as goal

pub returns-then-begins_as_g64-clause-refused : goal.returns-then-begins_as_g64-clause-refused
returns-then-begins_as_g64-clause-refused c =
    let file = c.args.file.now in
    c.refill_from_bits.ensures.refused ∙ same_fault (is_g64 file) (g64_dump file) (dump_of_g64 file) (length file) (by_g64 file true c.if-begins_as_g64.ensures)

pub returns-then-begins_as_g64-clause-filled : goal.returns-then-begins_as_g64-clause-filled
returns-then-begins_as_g64-clause-filled c =
    let file = c.args.file.now in
    same_filling c.refill_from_bits.result (is_g64 file) c.refill_from_bits.new.dump (g64_dump file) (dump_of_g64 file) (length file) c.refill_from_bits.ensures.refused c.refill_from_bits.ensures.filled
    (by_g64 file true c.if-begins_as_g64.ensures)

pub returns-else-begins_as_g64-clause-refused : goal.returns-else-begins_as_g64-clause-refused
returns-else-begins_as_g64-clause-refused c =
    let file = c.args.file.now in
    ap (λ (o : Option DumpView). if is_some o then None else Some (length file)) (by_g64 file false c.if-begins_as_g64.ensures)
