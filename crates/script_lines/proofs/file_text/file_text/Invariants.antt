use Rattle.std.proofs.Common.{◌≡◌, ◌++◌, drop}
use Rattle.script_lines.specs.FileText.{typed_text}
use Rattle.script_lines.proofs.FileTexts.{text_after}
use Rattle.script_lines.proofs.file_text.file_text.Given as goal

abbrev pub invariant-loop-byte : goal.invariant-loop-byte
invariant-loop-byte l = l.text.items ++ text_after l.is_open (drop l.byte-index l.content) ≡ typed_text l.content
