-- The hints for the commands of `c1541`, and for other names that people try.
use Rattle.std.specs.Prelude.{List, [], ◌∷◌, Option, option_map, find, unwrap_or, codes}
use Rattle.std.specs.Str.{str_eq_ignore_ascii_case}
use Rattle.d64_image.specs.Disk.{Bytes}

-- the names that are no commands, each with its hint
abbrev pub hints : List (Bytes × Bytes)
hints =
    (codes "@", codes "; delete, rename, format and validate do what it did")
    ∷ (codes "attach", codes "; name the image at the start: d64sh shell IMAGE")
    ∷ (codes "unit", codes "; name the image at the start: d64sh shell IMAGE")
    ∷ (codes "bam", codes "; block 18 0 shows the map, and d64sh map draws it")
    ∷ (codes "bcopy", codes "; bread and bwrite copy a block")
    ∷ (codes "bfill", codes "; bwrite fills a block from a file of 256 bytes")
    ∷ (codes "bpeek", codes "; block shows a block")
    ∷ (codes "bpoke", codes "; bread and bwrite change a block")
    ∷ (codes "chain", codes "; d64sh map draws the blocks of each file")
    ∷ (codes "entry", codes "; block 18 1 shows the first entries")
    ∷ (codes "info", codes "; d64sh check inspects a disk")
    ∷ (codes "verify", codes "; d64sh check inspects a disk")
    ∷ (codes "cd", codes "; names count from the folder in which d64sh was started")
    ∷ (codes "pwd", codes "; names count from the folder in which d64sh was started")
    ∷ (codes "copy", codes "; read and then write copy a file")
    ∷ (codes "dir", codes "; list shows the directory")
    ∷ (codes "ls", codes "; list shows the directory")
    ∷ (codes "$", codes "; list shows the directory")
    ∷ (codes "extract", codes "; read takes a file off the disk")
    ∷ (codes "scratch", codes "; delete deletes files")
    ∷ (codes "rm", codes "; delete deletes files")
    ∷ (codes "show", codes "; a text on the disk is shown by type")
    ∷ (codes "cat", codes "; a text on the disk is shown by type")
    ∷ (codes "more", codes "; a text on the disk is shown by type")
    ∷ (codes "unscratch", codes "; undelete brings a deleted file back")
    ∷ (codes "unerase", codes "; undelete brings a deleted file back")
    ∷ (codes "recover", codes "; undelete brings a deleted file back")
    ∷ (codes "exit", codes "; quit ends the session")
    ∷ (codes "x", codes "; quit ends the session")
    ∷ (codes "help", codes "; at a prompt help lists the commands, and elsewhere d64sh help shell")
    ∷ (codes "?", codes "; at a prompt help lists the commands, and elsewhere d64sh help shell")
    ∷ (codes "version", codes "; d64sh --version prints it")
    ∷ (codes "geosextract", codes "; d64sh has no command for this")
    ∷ (codes "geosread", codes "; d64sh has no command for this")
    ∷ (codes "geoswrite", codes "; d64sh has no command for this")
    ∷ (codes "p00save", codes "; d64sh has no command for this")
    ∷ (codes "lock", codes "; d64sh has no command for this")
    ∷ (codes "parse", codes "; d64sh has no command for this")
    ∷ (codes "silent", codes "; d64sh has no command for this")
    ∷ (codes "tape", codes "; d64sh has no command for this")
    ∷ (codes "unlock", codes "; d64sh has no command for this")
    ∷ (codes "unlynx", codes "; d64sh has no command for this")
    ∷ (codes "unzip", codes "; d64sh has no command for this")
    ∷ (codes "verbose", codes "; d64sh has no command for this")
    ∷ (codes "zcreate", codes "; d64sh has no command for this")
    ∷ []

-- the hint for a name that is no command, if there is one: capitals and small letters count as the
-- same
abbrev pub hint_for : Bytes → Option Bytes
hint_for name = option_map (λ row. row.1) (find (λ row. str_eq_ignore_ascii_case name row.0) hints)

-- what is said of a name that is no command: its hint, or where the commands are listed
abbrev pub hint_text : Bytes → Bytes
hint_text name = unwrap_or (hint_for name) (codes "; at a prompt help lists the commands, and elsewhere d64sh help shell")
