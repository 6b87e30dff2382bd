-- The first line of a text.
use Rattle.std.proofs.Common.{◌≡◌, ℕ, List, [], ◌∷◌, Option, Some, None, Bor}
use Rattle.std.specs.Prelude.{unwrap_or}
use Rattle.std.specs.Iterator.{AlwaysYields}
use Rattle.program_tips.specs.Message.{first_or_empty}

pub first_item : {S : Type 0} (steps : S → Option (Bor (List ℕ)) → S → Type 0) (s t : S) (lines : List (List ℕ)) (found : Option (Bor (List ℕ))) (other : Bor (List ℕ))
    → AlwaysYields steps (λ line. line.now) s lines → steps s found t → other.now ≡ [] → (unwrap_or found other).now ≡ first_or_empty lines
first_item steps s t [] None other yields step empty = empty
first_item steps s t [] (Some line) other yields step empty = absurd (yields line t step)
first_item steps s t (line ∷ more) None other yields step empty = absurd (yields.0 t step)
first_item steps s t (line ∷ more) (Some found) other yields step empty = (yields.1 found t step).0
