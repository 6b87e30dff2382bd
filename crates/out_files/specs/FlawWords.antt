-- The names of the reasons why a file is not whole, as JSON and CSV have them.
use Rattle.std.specs.Prelude.{ℕ, List, codes}
use Rattle.d64_survey.specs.declared.flaw.Flaw.{Flaw}
use Rattle.d64_survey.specs.declared.flaw.Flaw.TheVariants.{Unclosed, Kindless, Broken, Shared, Unreadable, Missized, Geos}

-- the name of a reason
abbrev pub flaw_word : Flaw → List ℕ
flaw_word Unclosed = codes "open"
flaw_word Kindless = codes "kind"
flaw_word Broken = codes "chain"
flaw_word Shared = codes "shared"
flaw_word Unreadable = codes "error"
flaw_word Missized = codes "size"
flaw_word Geos = codes "geos"
