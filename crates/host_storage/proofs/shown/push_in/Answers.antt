use Rattle.std.proofs.Common.{◌++◌, List, ℕ, ap, sym, ◌∙◌, append-nil, arith}
use Rattle.host_storage.proofs.ShownNames.{shown_in-nil, shown_more}
use Rattle.host_storage.proofs.shown.push_in.Goals as goal

pub loop-left-preserved : goal.loop-left-preserved
loop-left-preserved c =
    shown_more c.args.medium c.loop-left.out.items c.push_first.new.out.items _ c.loop-left.left.now c.in_ok-left.left.now c.in-len1-up.len_at_least
    c.in_ok-left.ensures.shown c.in_ok-left.ensures.left c.loop-left.invariant

pub returns : goal.returns
returns c =
    sym (append-nil c.loop-left.out.items) ∙ ap (λ (text : List ℕ). c.loop-left.out.items ++ text) (sym (shown_in-nil c.args.medium c.loop-left.left.now (omega arith)))
    ∙ c.loop-left.invariant
