use Rattle.std.proofs.Common.{length}
use Rattle.d64_image.specs.Image.{bytes_of}
use Rattle.d64_survey.specs.Dump.{HasCodes, codes_in}
use Rattle.d64_survey.proofs.DumpBytes.{dump_fits, dump_kept}
use Rattle.d64_survey.proofs.dump.Dump.from_bytes.Goals as goal

pub returns-in-Ok-clause-kept : goal.returns-in-Ok-clause-kept
returns-in-Ok-clause-kept c =
    dump_kept (bytes_of c.in_ok-image.image) c.args.bytes.now _ _ c.in-Ok.codes.items _ c.in_ok-image.ensures.kept c.split_at.ensures.front c.split_at.ensures.back c.in-Ok.ensures.items

fit : (c : goal.In-Ok) → HasCodes c.in_ok-image.image (codes_in c.in-Ok.codes.items)
fit c =
    dump_fits c.in_ok-image.image _ _ c.in-Ok.codes.items c.in-Some.count (length c.args.bytes.now) c.in-Some.ensures.image c.in_ok-image.ensures.image
    c.in_ok-image.ensures.kept c.split_at.ensures.front_len c.split_at.ensures.back_len c.in-Ok.ensures.items

pub invariant_of-result : goal.invariant_of-result
invariant_of-result c = fit c

pub returns-in-Ok-clause-dump : goal.returns-in-Ok-clause-dump
returns-in-Ok-clause-dump c = (c.in_ok-image.ensures.image, fit c)
