use Rattle.std.proofs.Common.{◌∙◌, sym}
use Rattle.host_names.proofs.Digests.{digest-nil, digest_more}
use Rattle.host_names.proofs.taken_names.digest.Goals as goal

pub loop-byte-init : goal.loop-byte-init
loop-byte-init c = sym digest-nil

pub loop-byte-preserved : goal.loop-byte-preserved
loop-byte-preserved c =
    digest_more c.args.name.now c.loop-byte.byte-index c.loop-byte.digest c.from.result c.loop-byte-test.true c.loop-byte.invariant
    (c.from.ensures ∙ c.to_ascii_lowercase.ensures.value)
