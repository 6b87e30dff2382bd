-- What a script begins with, where it comes from, and how it is run.
use Rattle.std.specs.Prelude.{ℕ, ◌==◌, if◌then◌else◌, List, [], ◌∷◌, ◌++◌, Option, Some, None, Bool, flat_map, replicate}
use Rattle.d64_image.specs.declared.image.TheConstants.{BLOCK_BYTES}
use Rattle.script_commands.specs.declared.observer.Refusals.{Refusals}
use Rattle.script_commands.specs.declared.observer.Refusals.TheVariants.{GoOn, Stop}
use Rattle.cmd_shell.specs.declared.blank_disk.BlankDisk.{BlankDisk}
use Rattle.cmd_shell.specs.declared.blank_disk.BlankDisk.TheVariants.{Tracks35, Tracks40}

-- the blank disk of this many tracks, which are 35 or 40
abbrev pub blank_disk_of : ℕ → BlankDisk
blank_disk_of tracks = if tracks == 40 then Tracks40 else Tracks35

-- its image
unfoldable pub blank_image : BlankDisk → List (List ℕ)
blank_image Tracks35 = replicate 683 (replicate BLOCK_BYTES 0)
blank_image Tracks40 = replicate 768 (replicate BLOCK_BYTES 0)

-- what a script begins with: a blank disk, the image of a host file, or the session of one
pub data Beginning : Type 0 where
  Blank : BlankDisk → Beginning
  ImageFile : List ℕ → Beginning
  SessionFile : List ℕ → Beginning

-- what the arguments ask the shell to begin with: if they name an image and a session file, the
-- session
abbrev pub beginning_of : Option (List ℕ) → BlankDisk → Option (List ℕ) → Beginning
beginning_of image disk (Some file) = SessionFile file
beginning_of (Some name) disk None = ImageFile name
beginning_of None disk None = Blank disk

-- where a script comes from: the input, or the text that the arguments give
pub data Source : Type 0 where
  Input : Source
  Given : List ℕ → Source

-- the text of lines, each with a line feed after it
abbrev pub text_of_lines : List (List ℕ) → List ℕ
text_of_lines lines = flat_map (λ line. line ++ 10 ∷ []) lines

-- the script of these lines, or that of the input if there are no lines
abbrev pub source_of : List (List ℕ) → Source
source_of [] = Input
source_of (line ∷ lines) = Given (text_of_lines (line ∷ lines))

-- the script of this text, or that of the input if there is no text
abbrev pub source_by : Option (List ℕ) → Source
source_by None = Input
source_by (Some text) = Given text

-- what happens to a script when a line of it is refused
abbrev pub refusals_of : Bool → Refusals
refusals_of stops = if stops then Stop else GoOn
