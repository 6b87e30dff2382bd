use Rattle.std.proofs.Common.{true, false, refl, sym, ◌∙◌}
use Rattle.d64_g64.specs.File.{is_g64}
use Rattle.d64_g64.proofs.Dumps.{d64_is_one, g64_is_one}
use Rattle.d64_g64.proofs.refilling.is_dump.Goals as goal

pub returns-then-is_d64_length : goal.returns-then-is_d64_length
returns-then-is_d64_length c = d64_is_one c.args.file.now (sym c.is_d64_length.ensures ∙ c.if-is_d64_length.true)

pub returns-then-begins_as_g64 : goal.returns-then-begins_as_g64
returns-then-begins_as_g64 c = g64_is_one c.args.file.now true c.is_g64.result (sym c.is_d64_length.ensures ∙ c.if-is_d64_length.false) c.if-begins_as_g64.ensures c.is_g64.ensures

pub returns-else-begins_as_g64 : goal.returns-else-begins_as_g64
returns-else-begins_as_g64 c =
    c.if-begins_as_g64.false
    ∙ g64_is_one c.args.file.now false (is_g64 c.args.file.now) (sym c.is_d64_length.ensures ∙ c.if-is_d64_length.false) c.if-begins_as_g64.ensures refl
