use Rattle.std.proofs.Common.{◌≡◌, ℕ, List, [], ◌∷◌, get_or, refl, sym, subst, arith}
use Rattle.std.proofs.lemmas.Slice.Eq.{text_from_reads}
use Rattle.std.specs.Prelude.{MatchOption}
use Rattle.std.specs.Str.{str_to_ascii_lowercase}
use Rattle.petscii.specs.Spelling.{dollar}
use Rattle.petscii.specs.TextForm.{Names}
use Rattle.petscii.proofs.unit.byte_of_name.Goals as goal

pub returns-in-36 : goal.returns-in-36
returns-in-36 c =
    let name = c.args.name.now in
    let value : List ℕ = dollar ∷ get_or name 1 0 ∷ get_or name 2 0 ∷ [] in
    let first : get_or name 0 0 ≡ dollar = omega arith in
    let is : name ≡ value = text_from_reads name value (omega arith) (first, (refl, (refl, tt))) in
    subst (λ (w : List ℕ). MatchOption c.byte_of_digits.result ((byte : ℕ) → ¬ (Names (str_to_ascii_lowercase w) byte)) (Names (str_to_ascii_lowercase w))) (sym is) c.byte_of_digits.ensures
