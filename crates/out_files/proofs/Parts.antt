-- Lists that are added one after the other.
use Rattle.std.proofs.Common.{◌≡◌, ℕ, List, ◌++◌, ap, ◌∙◌, append_assoc, Result, Ok, Err}
use Rattle.std.specs.Prelude.{if◌then◌else◌, is_ok, OnOk}

-- two
pub both_added : {X : Type 0} (old first last more rest : List X) → first ≡ old ++ more → last ≡ first ++ rest → last ≡ old ++ (more ++ rest)
both_added {X = X} old first last more rest begun done = done ∙ ap (λ (xs : List X). xs ++ rest) begun ∙ append_assoc old more rest

-- one that is added if there is memory
pub added_where_ok : {A E : Type 0} (result : Result A E) (old new more : List ℕ) → new ≡ (if is_ok result then old ++ more else old) → OnOk result (new ≡ old ++ more)
added_where_ok (Ok done) old new more is = is
added_where_ok (Err fault) old new more is = tt
