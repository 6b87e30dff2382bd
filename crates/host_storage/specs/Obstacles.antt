-- What prevents the reading or writing of the file at a path.
use Rattle.std.specs.Prelude.{◌≡◌, ℕ, if◌then◌else◌, List, Option, Some, None, IfSome}
use Rattle.std.specs.FinMap.{contains_key}
use Rattle.host_storage.specs.Files.{Files}
use Rattle.host_storage.specs.Folders.{folder_name}
use Rattle.host_storage.specs.declared.host.Obstacle.{Obstacle}
use Rattle.host_storage.specs.declared.host.Obstacle.TheVariants as obstacles
use Rattle.host_storage.specs.declared.host.WriteObstacle.{WriteObstacle}
use Rattle.host_storage.specs.declared.host.WriteObstacle.TheVariants as write_obstacles

-- among these files: nothing if a file is there, and otherwise that a folder is at the path, or
-- nothing
abbrev pub obstacle_at : Files → List ℕ → Option Obstacle
obstacle_at files path =
    if contains_key files path then None
    else if contains_key files (folder_name path) then Some obstacles.Folder
    else Some obstacles.Nothing

-- what a host can say of a path
abbrev pub LooksFor : Option Files → List ℕ → Option Obstacle → Type 0
LooksFor files path obstacle = IfSome files (λ all. obstacle ≡ obstacle_at all path)

-- among these files: that a folder is at the path, if one is
abbrev pub write_obstacle_at : Files → List ℕ → Option WriteObstacle
write_obstacle_at files path = if contains_key files (folder_name path) then Some write_obstacles.Folder else None

-- what a host can say about the writing of a path
abbrev pub LooksToWrite : Option Files → List ℕ → Option WriteObstacle → Type 0
LooksToWrite files path obstacle = IfSome files (λ all. obstacle ≡ write_obstacle_at all path)
