use Rattle.std.proofs.Common.{◌≡◌, ◌++◌, ◌-◌, ◌≤◌, string_bytes}
use Rattle.std.specs.Str.{IsUtf8, chars}
use Rattle.program_tips.specs.Tip.{cut_to}
use Rattle.program_tips.proofs.tip.push_cut.Given as goal

abbrev pub invariant-loop-count : goal.invariant-loop-count
invariant-loop-count l =
    IsUtf8 l.count-iterator.iter.rest.now × (l.count-iterator.count ≤ 64)
    × (string_bytes l.text ++ cut_to (64 - l.count-iterator.count) (chars l.count-iterator.iter.rest.now)
    ≡ string_bytes l.initial.text ++ cut_to 64 (chars l.argument))
