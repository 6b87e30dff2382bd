use Rattle.std.proofs.Common.{◌≡◌, ◌∙◌, ℕ, ap, map, filter, arith}
use Rattle.std.specs.List.{range_with_len}
use Rattle.d64_merge.specs.Left.{is_entry_left, left}
use Rattle.d64_merge.proofs.Kept.{kept_more}
use Rattle.d64_merge.proofs.left.list_left.Goals as goal

pub loop-entry-preserved : goal.loop-entry-preserved
loop-entry-preserved c =
    kept_more (is_entry_left c.args.tracks c.args.list.now (map (λ file. file.items) c.args.files.now)) c.loop-entry.entry _ _ _
    c.in_ok-push_if.ensures c.in_ok-is_one.ensures c.loop-entry.invariant

pub returns : goal.returns
unfolding left
returns c =
    let all : c.loop-entry.entry ≡ 255 = omega (arith, c.loop-entry-test.false, c.loop-entry.auto.entry-end) in
    c.loop-entry.invariant ∙ ap (λ (n : ℕ). filter (is_entry_left c.args.tracks c.args.list.now (map (λ file. file.items) c.args.files.now)) (range_with_len 0 n)) all
