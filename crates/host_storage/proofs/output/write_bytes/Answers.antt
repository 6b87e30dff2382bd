-- What a write took moves from the rest to what was written.
use Rattle.std.proofs.Common.{◌≡◌, ℕ, ◌-◌, List, ◌++◌, length, take, drop, ap, ◌∙◌, append_assoc, take-append-drop}
use Rattle.std.proofs.lemmas.List.{take_rest}
use Rattle.std.proofs.KnownBytes.{Appends-trans}
use Rattle.host_storage.proofs.output.write_bytes.Goals as goal

-- the bytes are still what was written and the rest
moves_front : (all done rest : List ℕ) (n : ℕ) → done ++ rest ≡ all → (done ++ take n rest) ++ take (length rest - n) (drop n rest) ≡ all
moves_front all done rest n e =
    ap (λ l. (done ++ take n rest) ++ l) (take_rest rest n) ∙ append_assoc done (take n rest) (drop n rest) ∙ ap (λ l. done ++ l) (take-append-drop n rest) ∙ e

pub loop-rest-preserved : goal.loop-rest-preserved
loop-rest-preserved g c =
    let (done, all, gained) = c.loop-rest.invariant in
    let rest = c.loop-rest.rest.now in
    let n = c.in-Ok.count in
    (done ++ take n rest, moves_front _ done rest n all, Appends-trans _ _ _ _ _ gained c.in-Ok.ensures.bytes)
