-- A history as it is held: a present image, and records that lead away from it.
use Rattle.std.specs.Prelude.{ℕ, ◌≤◌, List, length}
use Rattle.d64_image.specs.Disk.{Disk}
use Rattle.d64_image.specs.Patch.{Kept}
use Rattle.d64_history.specs.History.{History}
use Rattle.d64_history.specs.Records.{images_of, AreRecords}
use Rattle.d64_history.specs.declared.held.HeldHistory.{HeldHistory}

-- the history of records, of which n are done, and of a present image
abbrev pub history_of : List Kept → Disk → ℕ → History
history_of records image done = record { images = images_of records image done; cursor = done }

-- the history that is held
abbrev pub held_history : HeldHistory → History
held_history held = history_of held.records held.image held.done

-- at most all records are done, and each is exactly the difference between two images of the
-- history
abbrev pub IsHeld : HeldHistory → Type 0
IsHeld held = (held.done ≤ length held.records) × AreRecords held.records held.image held.done
