-- Histories of sound disks.
use Rattle.std.specs.Prelude.{All, Result, Ok, Err}
use Rattle.d64_dos.specs.Change.{Change}
use Rattle.d64_dos.specs.Command.{IsFileCommand}
use Rattle.d64_dos.specs.Step.{IsMade}
use Rattle.d64_dos.specs.declared.command.Reply.{Reply}
use Rattle.d64_dos.specs.declared.refusal.Refusal.{Refusal}
use Rattle.d64_effects.specs.View.{IsSound}
use Rattle.d64_image.specs.Image.{IsImage}
use Rattle.d64_history.specs.History.{History, IsHistory}
use Rattle.d64_undo.specs.Request.{Asked, Apply, Undo, Redo}

-- all images of a history are sound
unfoldable pub IsSoundHistory : History → Type 0
IsSoundHistory history = All IsSound history.images

-- a command keeps sound disks sound: it is a file command, or it was refused
abbrev pub KeepsSound : Change → Result Reply Refusal → Type 0
KeepsSound change (Ok reply) = IsFileCommand change
KeepsSound change (Err refusal) = Unit {0}

-- a history of sound disks: its images are those of disks, and sound, and the cursor is at one
pub record HoldsSoundDisks (history : History) : Type 0 where
  pub is_history : IsHistory history
  pub are_images : All IsImage history.images
  pub sound : IsSoundHistory history

-- a request keeps sound disks sound: it is a file command as any caller can make it, or a step
-- along the history
abbrev pub KeepsDisksSound : Asked → Type 0
KeepsDisksSound (Apply change) = IsFileCommand change × IsMade change
KeepsDisksSound Undo = Unit {0}
KeepsDisksSound Redo = Unit {0}
