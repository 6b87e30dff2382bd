use Rattle.std.proofs.Common.{◌≡◌, drop, map, string_bytes, Bor, ℕ, List}
use Rattle.host_names.specs.Paths.{place_below}
use Rattle.host_names.proofs.paths.go_below.Given as goal

abbrev pub invariant-loop-folder : goal.invariant-loop-folder
invariant-loop-folder l =
    place_below (string_bytes l.place) (map (λ (folder : Bor (List ℕ)). folder.now) (drop l.folder-index l.folders)) ≡ place_below (string_bytes l.fn.place) (map (λ (folder : Bor (List ℕ)). folder.now) l.folders)
