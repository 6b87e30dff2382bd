-- A file that is replaced by a new one beside it, step by step.
use Rattle.std.specs.Prelude.{◌≡◌, Bool, true, false, ℕ, List, Option, Some, None, option_map, unwrap_or, IsSome}

-- a file that is being replaced, as the system has it: the bytes under its name, those of the new
-- file beside it, if there is one, and whether the new file's bytes are on the disk
pub record ReplacedFile : Type 0 where
  pub content : List ℕ
  pub beside : Option (List ℕ)
  pub is_synced : Bool

-- a file of these bytes, with nothing beside it
abbrev pub file_alone : List ℕ → ReplacedFile
file_alone content = record { content = content; beside = None; is_synced = false }

-- the new file has these bytes
abbrev pub filled_place : List ℕ → ReplacedFile → ReplacedFile
filled_place bytes place = record place { beside = Some bytes; is_synced = false }

-- the content of the new file is on the disk
abbrev pub synced_place : ReplacedFile → ReplacedFile
synced_place place = record place { is_synced = true }

-- the name has the new file's bytes
abbrev pub published_place : ReplacedFile → ReplacedFile
published_place place = file_alone (unwrap_or place.beside place.content)

-- the new file is gone
abbrev pub discarded_place : ReplacedFile → ReplacedFile
discarded_place place = file_alone place.content

-- the bytes under the name, if they are exposed
abbrev pub exposed_content : Option ReplacedFile → Option (List ℕ)
exposed_content place = option_map (λ known. known.content) place

-- there is a new file, and all of it is on the disk
abbrev pub IsReady : ReplacedFile → Type 0
IsReady place = IsSome place.beside × (place.is_synced ≡ true)
