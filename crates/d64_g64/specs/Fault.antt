-- Why bytes make no dump.
use Rattle.std.specs.Prelude.{Bool, true, false, Result, Ok, Err}
use Rattle.d64_g64.specs.declared.fault.G64Fault.{G64Fault}
use Rattle.d64_g64.specs.declared.fault.G64Fault.TheVariants.{Bad, Memory}

-- whether bytes were refused as a bad G64; false if they made a dump, or memory was out
abbrev pub was_bad : {A : Type 0} → Result A G64Fault → Bool
was_bad (Ok dump) = false
was_bad (Err Bad) = true
was_bad (Err (Memory fault)) = false
