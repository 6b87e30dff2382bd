-- What a reader gives: a session, or why there is no session.
use Rattle.std.specs.Prelude.{◌≡◌, ℕ, ◌<◌, ◌≤◌, Option, Result, MatchResult, length, true, IfSome}
use Rattle.std.specs.Io.KnownBytes.{Consumes}
use Rattle.d64_image.specs.Disk.{Bytes, AreBytes}
use Rattle.d64_history.specs.History.{History}
use Rattle.d64_history.specs.SessionFile.{file_of, IsSession}
use Rattle.d64_history.specs.ResumeFault.{first_resume_fault, reported_by}
use Rattle.d64_history.specs.declared.from_reader.SessionReadFault.{SessionReadFault}
use Rattle.d64_history.specs.declared.from_reader.SessionReadFault.TheVariants.{Device, TooLong, Resume}
use Rattle.d64_history.specs.declared.read_note.ReadNote.{ReadNote}

-- the session of the bytes that the reader has, if they are known, which are at most n
abbrev pub IsReadOf : Option Bytes → ℕ → History → Type 0
IsReadOf known limit history = IsSession history × AreBytes (file_of history) × (length (file_of history) ≤ limit) × IfSome known (λ bytes. bytes ≡ file_of history)

-- a fault: of a read, of one byte too many, or the first one of the bytes, unless memory was out
abbrev pub IsReadFault : Option Bytes → ℕ → SessionReadFault → Type 0
IsReadFault known limit Device = Unit {0}
IsReadFault known limit TooLong = IfSome known (λ bytes. limit < length bytes)
IsReadFault known limit (Resume fault) =
    (bytes : Bytes) × AreBytes bytes × IfSome known (λ all. all ≡ bytes) × (length bytes ≤ limit) × (reported_by fault (first_resume_fault bytes) ≡ first_resume_fault bytes)

-- a fault of reading what is left: of a read, or of one byte too many, but not of the bytes
abbrev pub IsRestFault : Option Bytes → ℕ → SessionReadFault → Type 0
IsRestFault known limit Device = Unit {0}
IsRestFault known limit TooLong = IfSome known (λ bytes. limit < length bytes)
IsRestFault known limit (Resume fault) = ⊥

-- a reader gave at most n bytes
abbrev pub GivesAtMost : ℕ → Option Bytes → Option Bytes → Type 0
GivesAtMost limit before after = (part : Bytes) × Consumes before after part × (length part ≤ limit)

-- what a note says after a fault: that a read failed, if it is the fault of a read, and else what it said before
abbrev pub NotesFault : ReadNote → ReadNote → SessionReadFault → Type 0
NotesFault before after Device = after.has_failed ≡ true
NotesFault before after TooLong = after.has_failed ≡ before.has_failed
NotesFault before after (Resume fault) = after.has_failed ≡ before.has_failed

-- the same after a result
abbrev pub NotesReads : {A : Type 0} → ReadNote → ReadNote → Result A SessionReadFault → Type 0
NotesReads before after result = MatchResult result (λ _. after.has_failed ≡ before.has_failed) (λ fault. NotesFault before after fault)
