use Rattle.std.proofs.Common.{◌≡◌, ◌+◌, List, ◌∷◌, ℕ, take, drop, Some, refl, subst, sym, rules}
use Rattle.std.proofs.lemmas.List.{take_rest}
use Rattle.std.specs.Prelude.{◌==◌, position}
use Rattle.petscii.specs.TextForm.{open_brace, close_brace, BeginsWith}
use Rattle.petscii.proofs.Units.{closes_at, never_closes, begins_name, begins_unknown}
use Rattle.petscii.proofs.unit.read_name.Goals as goal

pub returns-in-Some-byte_of_name-clause-read : goal.returns-in-Some-byte_of_name-clause-read
returns-in-Some-byte_of_name-clause-read c =
    let after = c.args.after.now in
    let length = c.in-Some.length in
    let found : position (λ b. b == close_brace) after ≡ Some length = search rules in
    subst (λ (w : List ℕ). BeginsWith (open_brace ∷ after) c.in-Some-byte_of_name.byte w) (sym (take_rest after (length + 1)))
    (begins_name after (take length after) (drop (length + 1) after) c.in-Some-byte_of_name.byte (closes_at after length found) c.in-Some-byte_of_name.ensures)

pub returns-in-None-clause-fault : goal.returns-in-None-clause-fault
returns-in-None-clause-fault c =
    let after = c.args.after.now in
    let length = c.in-Some.length in
    let found : position (λ b. b == close_brace) after ≡ Some length = search rules in
    (refl, begins_unknown after (take length after) (drop (length + 1) after) (closes_at after length found) c.in-None.ensures)

pub returns-in_default-clause-fault : goal.returns-in_default-clause-fault
returns-in_default-clause-fault c = (refl, record { rest = c.args.after.now; joined = refl; not_closed = never_closes c.args.after.now (sym c.in_default.ensures) })
