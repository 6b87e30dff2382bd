use Rattle.std.proofs.Common.{sym, ◌∙◌}
use Rattle.d64_history.specs.SessionFile.{magic}
use Rattle.d64_history.proofs.Reading.{magic_right, magic_wrong, magic_ends}
use Rattle.d64_history.proofs.file_parts.skip_magic.Goals as goal

pub returns-in-None : goal.returns-in-None
returns-in-None c = sym c.loop-byte.invariant ∙ magic_ends magic c.loop-byte.rest.now c.loop-byte.byte-index c.loop-byte-test.true c.in-None.ensures.cases

-- another byte than that of the beginning
pub returns-then-first-byte : goal.returns-then-first-byte
returns-then-first-byte c =
    sym c.loop-byte.invariant
    ∙ magic_wrong magic c.loop-byte.byte-index c.in-Some.first.now c.loop-byte.rest.now c.in-Some.after.now c.loop-byte-test.true
    c.in-Some.ensures.cases.0 c.if-first-byte.true

-- one byte more is that of the beginning
pub loop-byte-preserved : goal.loop-byte-preserved
loop-byte-preserved c =
    sym (magic_right magic c.loop-byte.byte-index c.in-Some.first.now c.loop-byte.rest.now c.in-Some.after.now c.loop-byte-test.true
    c.in-Some.ensures.cases.0 c.if-first-byte.false)
    ∙ c.loop-byte.invariant
