use Rattle.std.proofs.Common.{◌≡◌, ℕ, ◌<◌, ◌&&◌, length, map, take, fold, bit_xor, sym, ap, ap₂, ◌∙◌, arith}
use Rattle.std.specs.Prelude.{is_some}
use Rattle.std.specs.List.{range_with_len, list_all}
use Rattle.std.proofs.Math.Seq.{take-length}
use Rattle.std.proofs.lemmas.List.{length-set}
use Rattle.d64_g64.specs.Codes.{value_at, value_or_zero, is_value}
use Rattle.d64_g64.specs.Blocks.{data_bytes, is_whole_block}
use Rattle.d64_g64.proofs.DataBlocks.{bytes_more, sum_more, all_more}
use Rattle.d64_g64.proofs.block.read_data.Goals as goal

pub loop-k-preserved : goal.loop-k-preserved
loop-k-preserved c =
    let track = c.args.start.now.track in
    let start = c.args.start.now.place in
    let k = c.loop-k.k in
    let i = c.loop-k.invariant in
    let found = c.value_at-found.ensures in
    let value = c.value_or_zero-value.ensures ∙ ap value_or_zero found in
    let within : k < length c.loop-k.block = omega (arith, c.loop-k-test.true, i.long) in
    record {
      long = length-set c.loop-k.block k _ ∙ i.long;
      bytes = bytes_more (λ k. value_or_zero (value_at track start k)) c.loop-k.block k _ within value i.bytes;
      whole = all_more (λ k. is_some (value_at track start k)) k c.loop-k.whole _ (c.is_some-whole.ensures ∙ ap is_some found) i.whole;
      sum = sum_more (λ k. value_or_zero (value_at track start k)) k c.loop-k.sum _ value i.sum;
    }

pub returns : goal.returns
unfolding data_bytes is_whole_block
returns c =
    let track = c.args.start.now.track in
    let start = c.args.start.now.place in
    let i = c.loop-k.invariant in
    let all : c.loop-k.k ≡ 256 = omega (arith, c.loop-k-test.false, c.loop-k.auto.k-end) in
    let f : ℕ → ℕ = λ k. value_or_zero (value_at track start k) in
    record {
      bytes = sym (take-length c.loop-k.block) ∙ ap (λ (x : ℕ). take x c.loop-k.block) (i.long ∙ sym all) ∙ i.bytes ∙ ap (λ (x : ℕ). map f (range_with_len 1 x)) all;
      whole = ap₂ ◌&&◌ (i.whole ∙ ap (λ (x : ℕ). list_all (λ k. is_some (value_at track start k)) (range_with_len 1 x)) all)
          (c.is_value.ensures ∙ ap₂ is_value c.value_at.ensures (i.sum ∙ ap (λ (x : ℕ). fold bit_xor 0 (map f (range_with_len 1 x))) all));
    }
