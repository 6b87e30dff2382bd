use Rattle.std.proofs.Common.{◌≡◌, ◌+◌, ◌*◌, ◌++◌, take, codes}
use Rattle.std.specs.List.{flat_map}
use Rattle.arrayvec.specs.ArrayVec.{array_vec_len}
use Rattle.script_text.specs.Dump.{hex_digits}
use Rattle.script_text.proofs.dump.push_line.Given as goal

abbrev pub invariant-loop-byte : goal.invariant-loop-byte
invariant-loop-byte l = record {
  shown : l.lines.items ≡ l.initial.lines.items ++ flat_map (λ b. codes " " ++ hex_digits b) (take l.byte-index l.bytes);
  len : array_vec_len l.lines ≡ array_vec_len l.initial.lines + 3 * l.byte-index;
}
