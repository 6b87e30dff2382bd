use Rattle.std.proofs.Common.{◌≡◌, ◌≤◌, take}
use Rattle.std.specs.Prelude.{count_by, ◌==◌}
use Rattle.d64_g64.proofs.dump.count_good.Given as goal

abbrev pub invariant-loop-code : goal.invariant-loop-code
invariant-loop-code l = record {
  count : l.count ≡ count_by (λ code. code == 1) (take l.code-index l.codes);
  few : l.count ≤ l.code-index;
}
