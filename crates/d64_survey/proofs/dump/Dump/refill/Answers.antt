use Rattle.std.proofs.Common.{length}
use Rattle.d64_survey.specs.Dump.{HasCodes, codes_in}
use Rattle.d64_survey.proofs.DumpBytes.{dump_fits}
use Rattle.d64_survey.proofs.dump.Dump.refill.Goals as goal

fit : (c : goal.After-overwrite) → HasCodes c.refill.new.self (codes_in c.overwrite.new.list.items)
fit c =
    dump_fits c.refill.new.self _ _ c.overwrite.new.list.items c.in-Some.count (length c.args.bytes.now) c.in-Some.ensures.image c.in-Ok.ensures.image
    c.in-Ok.ensures.filled c.split_at.ensures.front_len c.split_at.ensures.back_len c.overwrite.ensures

pub invariant_of-self-in-Ok : goal.invariant_of-self-in-Ok
invariant_of-self-in-Ok c = fit c

pub returns-in-Ok-clause-dump : goal.returns-in-Ok-clause-dump
returns-in-Ok-clause-dump c = (c.in-Ok.ensures.image, fit c)
