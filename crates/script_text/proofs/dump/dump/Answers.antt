use Rattle.std.proofs.Common.{◌≡◌, ℕ, ◌+◌, ◌*◌, ◌++◌, arith, ap, sym, ◌∙◌}
use Rattle.std.specs.List.{flat_map, slice_range, range_with_len}
use Rattle.script_text.specs.Dump.{dump, dump_line}
use Rattle.script_text.proofs.Rows.{flat_map-range_more}
use Rattle.script_text.proofs.dump.dump.Goals as goal

pub loop-row-preserved : goal.loop-row-preserved
loop-row-preserved c =
    let line = λ (row : ℕ). dump_line (16 * row) (slice_range c.args.block.now (16 * row) (16 * row + 16)) in
    let more = flat_map-range_more line c.loop-row.row in
    record { shown = c.push_line.ensures.line ∙ ap (λ xs. xs ++ line c.loop-row.row) c.loop-row.invariant.shown ∙ sym more; len = omega arith }

pub returns : goal.returns
unfolding dump
returns c =
    let all : c.loop-row.row ≡ 16 = omega arith in
    c.loop-row.invariant.shown ∙ ap (λ n. flat_map (λ row. dump_line (16 * row) (slice_range c.args.block.now (16 * row) (16 * row + 16))) (range_with_len 0 n)) all
