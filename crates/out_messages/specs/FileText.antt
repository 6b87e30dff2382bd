-- The files that are not whole, in words.
use Rattle.std.specs.Prelude.{ℕ, suc, ◌==◌, Bool, if◌then◌else◌, List, [], ◌∷◌, ◌++◌, codes, decimal}
use Rattle.d64_image.specs.Disk.{Bytes}
use Rattle.d64_files.specs.Slot.{has_kind, kind_of}
use Rattle.d64_files.specs.declared.kind.Kind.{Kind}
use Rattle.d64_files.specs.declared.kind.Kind.TheVariants.{Del, Seq, Prg, Usr, Rel}
use Rattle.d64_survey.specs.declared.flaw.Flaw.{Flaw}
use Rattle.d64_survey.specs.declared.flaw.Flaw.TheVariants.{Unclosed, Kindless, Broken, Shared, Unreadable, Missized, Geos}
use Rattle.out_messages.specs.Words.{counted_text}

-- the three letters of a kind
abbrev pub kind_letters : Kind → List ℕ
kind_letters Del = codes "del"
kind_letters Seq = codes "seq"
kind_letters Prg = codes "prg"
kind_letters Usr = codes "usr"
kind_letters Rel = codes "rel"

-- that a file is locked
abbrev pub locked_text : Bool → List ℕ
locked_text locked = if locked then codes ", locked" else []

-- the letters of a slot's file
abbrev pub letters_of : Bytes → List ℕ
letters_of cell = if has_kind cell then kind_letters (kind_of cell) else codes "???"

-- the size that the directory gives, and how many blocks there are
unfoldable pub size_text : ℕ → ℕ → List ℕ
size_text shown there = codes "the directory says " ++ (counted_text shown (codes "block") ++ (codes ", " ++ (decimal there ++ (if there == 1 then codes " is there" else codes " are there"))))

-- a reason why a file is not whole; the directory has this size, and this many blocks are there
unfoldable pub flaw_text : ℕ → ℕ → Flaw → List ℕ
flaw_text shown there Unclosed = codes "never closed"
flaw_text shown there Kindless = codes "of no kind"
flaw_text shown there Broken = codes "its chain is broken"
flaw_text shown there Shared = codes "shares a block with another owner"
flaw_text shown there Unreadable = codes "has a read error"
flaw_text shown there Missized = size_text shown there
flaw_text shown there Geos = codes "a GEOS file, whose records are not checked"

-- what comes before the reason at a place
abbrev pub comma : ℕ → List ℕ
comma place = if place == 0 then [] else codes ", "

-- the reasons from a place on
unfoldable pub flaws_from : ℕ → ℕ → ℕ → List Flaw → List ℕ
flaws_from shown there place [] = []
flaws_from shown there place (flaw ∷ flaws) = comma place ++ (flaw_text shown there flaw ++ flaws_from shown there (suc place) flaws)

-- all reasons
abbrev pub flaws_text : ℕ → ℕ → List Flaw → List ℕ
flaws_text shown there flaws = flaws_from shown there 0 flaws
