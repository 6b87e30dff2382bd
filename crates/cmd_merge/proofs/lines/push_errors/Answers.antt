use Rattle.std.proofs.Common.{◌≡◌, ◌∙◌, ◌++◌, ℕ, length, ap, map, arith}
use Rattle.std.specs.List.{flat_map, range_with_len}
use Rattle.std.specs.Prelude.{string_bytes}
use Rattle.cmd_merge.specs.Lines.{error_at, error_texts}
use Rattle.cmd_merge.proofs.Ranges.{text_more}
use Rattle.cmd_merge.proofs.lines.push_errors.Goals as goal

pub loop-place-preserved : goal.loop-place-preserved
loop-place-preserved c =
    text_more (error_at c.args.block (map string_bytes c.args.names.now) c.args.dumps.now) c.loop-place.place _ _ _ c.in_ok-push_error_at.ensures c.loop-place.invariant

pub returns : goal.returns
unfolding error_texts
returns c =
    let dumps = c.args.dumps.now in
    let all : c.loop-place.place ≡ length dumps = omega (arith, c.loop-place-test.false, c.loop-place.auto.place-end) in
    c.loop-place.invariant
    ∙ ap (λ (n : ℕ). c.args.out.now.items ++ flat_map (error_at c.args.block (map string_bytes c.args.names.now) dumps) (range_with_len 0 n)) all
