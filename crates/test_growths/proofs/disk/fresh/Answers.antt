use Rattle.std.proofs.Common.{◌≡◌, List, [], ℕ, sym, subst}
use Rattle.d64_image.specs.Patch.{Kept, IsPatchOf, RisesBetween}
use Rattle.test_growths.proofs.disk.fresh.Goals as goal

-- an empty patch keeps blocks of each image
of_each : (image : List (List ℕ)) (patch : Kept) → patch ≡ [] → IsPatchOf image patch
unfolding RisesBetween
of_each image patch empty = subst (IsPatchOf image) (sym empty) tt

pub returns-clause-patch : goal.returns-clause-patch
returns-clause-patch c = of_each c.args._image.now c.new.result c.new.ensures
