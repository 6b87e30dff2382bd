use Rattle.std.proofs.Common.{◌≡◌, length, map, take, fold, bit_xor}
use Rattle.std.specs.Prelude.{is_some}
use Rattle.std.specs.List.{range_with_len, list_all}
use Rattle.d64_g64.specs.Codes.{value_at, value_or_zero}
use Rattle.d64_g64.proofs.block.read_data.Given as goal

abbrev pub invariant-loop-k : goal.invariant-loop-k
invariant-loop-k l = record {
  long : length l.block ≡ 256;
  bytes : take l.k l.block ≡ map (λ k. value_or_zero (value_at l.start.track l.start.place k)) (range_with_len 1 l.k);
  whole : l.whole ≡ list_all (λ k. is_some (value_at l.start.track l.start.place k)) (range_with_len 1 l.k);
  sum : l.sum ≡ fold bit_xor 0 (map (λ k. value_or_zero (value_at l.start.track l.start.place k)) (range_with_len 1 l.k));
}
