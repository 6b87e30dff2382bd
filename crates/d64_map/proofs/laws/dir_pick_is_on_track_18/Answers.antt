use Rattle.std.proofs.Common.{refl}
use Rattle.std.specs.List.{find}
use Rattle.std.specs.FinSet as set
use Rattle.d64_map.specs.Search.{dir_order}
use Rattle.d64_map.proofs.Plans.{dir_pick}
use Rattle.d64_map.proofs.laws.dir_pick_is_on_track_18.Goals as goal

pub returns : goal.returns
returns c = λ free last. dir_pick free last (find (set.contains free) (dir_order last)) refl
