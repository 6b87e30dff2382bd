use Rattle.std.proofs.Common.{◌≡◌, map, string_bytes, take}
use Rattle.host_storage.specs.Shown.{shown_name}
use Rattle.program_console.proofs.requested.shown_texts.Given as goal

abbrev pub invariant-loop-argument : goal.invariant-loop-argument
invariant-loop-argument l = record {
  shown : map string_bytes l.all.items ≡ map shown_name (map (λ argument. argument.now) (take l.argument-index l.arguments));
}
