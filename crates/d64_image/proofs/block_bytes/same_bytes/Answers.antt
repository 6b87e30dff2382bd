use Rattle.std.proofs.Common.{◌≡◌, ◌+◌, ◌*◌, sym, ◌∙◌, arith}
use Rattle.std.specs.Cmp.Lexicographic.{bytes_decides}
use Rattle.std.proofs.lemmas.List.{take_all}
use Rattle.d64_image.proofs.SameBytes.{same_more, differ_there}
use Rattle.d64_image.proofs.block_bytes.same_bytes.Goals as goal

-- some bytes differ
pub returns-then-not-same_lanes : goal.returns-then-not-same_lanes
returns-then-not-same_lanes c =
    sym (differ_there c.args.block.now c.args.other.now (c.loop-group.group * 32) (sym c.same_lanes.ensures ∙ c.if-not-same_lanes.true))

-- as many bytes more are the same
pub loop-group-preserved : goal.loop-group-preserved
loop-group-preserved c =
    same_more c.args.block.now c.args.other.now (c.loop-group.group * 32) ((c.loop-group.group + 1) * 32) (omega arith) c.loop-group.invariant
    (sym c.same_lanes.ensures ∙ c.if-not-same_lanes.false)

-- all bytes are the same
pub returns : goal.returns
returns c =
    let all : c.loop-group.group ≡ 8 = omega arith in
    let same : c.args.block.now ≡ c.args.other.now =
    sym (take_all (c.loop-group.group * 32) c.args.block.now (omega arith)) ∙ c.loop-group.invariant ∙ take_all (c.loop-group.group * 32) c.args.other.now (omega arith) in
    sym ((bytes_decides c.args.block.now c.args.other.now).1 same)
