use Rattle.std.proofs.Common.{◌≡◌, drop}
use Rattle.script_advice.specs.Remark.{odd_text}
use Rattle.script_advice.proofs.remarks.odd_text.Given as goal

-- nothing is known of the bytes before
abbrev pub invariant-loop-byte : goal.invariant-loop-byte
invariant-loop-byte l = odd_text (drop l.byte-index l.text) ≡ odd_text l.text
