use Rattle.std.proofs.Common.{◌≡◌, drop, map}
use Rattle.std.specs.Prelude.{find}
use Rattle.std.specs.Str.{str_eq_ignore_ascii_case}
use Rattle.script_advice.specs.Hint.{hints}
use Rattle.script_advice.proofs.hint.hint_for.Given as goal

-- none of the names before is this one
abbrev pub invariant-loop-other : goal.invariant-loop-other
invariant-loop-other l =
    find (λ row. str_eq_ignore_ascii_case l.name row.0) (map (λ row. (row.0.now, row.1.now)) (drop l.other-index l.other-items)) ≡ find (λ row. str_eq_ignore_ascii_case l.name row.0) hints
