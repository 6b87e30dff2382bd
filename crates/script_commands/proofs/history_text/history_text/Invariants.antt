use Rattle.std.proofs.Common.{◌≡◌}
use Rattle.std.specs.List.{flat_map, range_with_len}
use Rattle.script_lines.specs.HistoryText.{record_line}
use Rattle.script_commands.proofs.history_text.history_text.Given as goal

-- the lines of the records so far
abbrev pub invariant-loop-number : goal.invariant-loop-number
invariant-loop-number l = l.text.items ≡ flat_map (record_line l.session) (range_with_len 0 l.number)
