use Rattle.std.proofs.Common.{List, ℕ, subst, sym}
use Rattle.petscii.specs.TextForm.{BeginsWith}
use Rattle.petscii.proofs.Readings.{read_nothing, read_more, first_and_others}
use Rattle.petscii.proofs.text.from_text.Goals as goal

pub loop-left-init : goal.loop-left-init
loop-left-init c = rw c.new-bytes.ensures.items (read_nothing c.args.text.now)

pub loop-left-preserved : goal.loop-left-preserved
loop-left-preserved c =
    let left = c.loop-left.left.now in
    let byte = c.in_ok-byte.byte in
    let rest = c.in_ok-byte.rest.now in
    let begins : BeginsWith left byte rest = subst (λ (w : List ℕ). BeginsWith w byte rest) (sym (first_and_others left c.in-len1-up.len_at_least)) c.in_ok-byte.ensures.read in
    rw c.in_ok-push.ensures.items (read_more c.args.text.now c.loop-left.bytes.items left byte rest c.loop-left.invariant begins)
