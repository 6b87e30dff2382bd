use Rattle.std.proofs.Common.{ℕ, ◌-◌, ap, arith}
use Rattle.out_markup.proofs.Escapes.{one_more, no_more, all_there}
use Rattle.out_markup.proofs.markup.push_escaped_within.Goals as goal

pub loop-byte-preserved : goal.loop-byte-preserved
loop-byte-preserved c =
    one_more c.loop-byte.out.items c.push_escaped_byte.new.out.items _ c.args.text.now c.loop-byte.left (c.loop-byte.left - c.escaped_len-left.result) c.loop-byte.byte-index 0
    c.loop-byte-test.true (omega (arith, c.escaped_len.ensures, c.if-escaped_len-left.false))
    (ap (λ (n : ℕ). c.loop-byte.left - n) c.escaped_len-left.ensures) c.in_ok-push_escaped_byte.ensures c.loop-byte.invariant

pub returns-then-escaped_len-left : goal.returns-then-escaped_len-left
returns-then-escaped_len-left c =
    no_more c.loop-byte.out.items c.extend_from_slice.new.self.items _ c.args.text.now c.loop-byte.left c.loop-byte.byte-index 0
    c.loop-byte-test.true (omega (arith, c.escaped_len.ensures, c.if-escaped_len-left.true)) c.in_ok-extend_from_slice.ensures.items c.loop-byte.invariant

pub returns : goal.returns
returns c = all_there c.loop-byte.out.items _ c.args.text.now c.loop-byte.left c.loop-byte.byte-index c.loop-byte-test.false c.loop-byte.invariant
