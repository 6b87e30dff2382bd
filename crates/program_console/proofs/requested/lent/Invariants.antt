use Rattle.std.proofs.Common.{◌≡◌, map, string_bytes, take}
use Rattle.program_console.proofs.requested.lent.Given as goal

abbrev pub invariant-loop-argument : goal.invariant-loop-argument
invariant-loop-argument l = record {
  same : map (λ argument. argument.now) l.all.items ≡ map string_bytes (take l.argument-index l.arguments);
}
