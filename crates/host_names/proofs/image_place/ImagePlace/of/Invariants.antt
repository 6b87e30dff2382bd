use denote.Shadow.{shadow}
use denote.Text.{Utf8}
use Rattle.std.proofs.Common.{◌≡◌, ◌++◌, length, map}
use Rattle.host_names.specs.ImagePlace.{folders_of, last_part}
use Rattle.host_names.proofs.image_place.ImagePlace.of.Given as goal

abbrev pub invariant-loop-part : goal.invariant-loop-part
invariant-loop-part l = record {
  text : shadow (Utf8 l.left);
  folders : map (λ folder. folder.now) l.folders.items ++ folders_of l.left ≡ folders_of l.path;
  last : last_part l.left ≡ last_part l.path;
}

abbrev pub decreases-loop-part : goal.decreases-loop-part
decreases-loop-part l = length l.left
