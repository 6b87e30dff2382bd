use Rattle.std.proofs.Common.{◌≡◌, ◌++◌, drop}
use Rattle.cbm_text.specs.Modes.{expanded_bytes, expanded_from}
use Rattle.cbm_text.proofs.codes.expand.Given as goal

-- what is left to expand follows
abbrev pub invariant-loop-code : goal.invariant-loop-code
invariant-loop-code l = expanded_bytes l.codes ≡ l.bytes.items ++ expanded_from l.mode (drop l.code-index l.codes)
