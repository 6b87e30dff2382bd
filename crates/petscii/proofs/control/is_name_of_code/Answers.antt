use Rattle.std.proofs.Common.{◌≡◌, List, ℕ, Some, sym, ap, ◌∙◌, arith}
use Rattle.std.specs.Str.{str_to_ascii_lowercase}
use Rattle.petscii.specs.ControlNames.{control_name}
use Rattle.petscii.proofs.Tables.{control_small}
use Rattle.petscii.proofs.control.is_name_of_code.Goals as goal

pub returns-in-Some : goal.returns-in-Some
returns-in-Some c =
    let known : control_name c.args.code ≡ Some c.in-Some.known.now = sym c.in-Some.ensures in
    let small : str_to_ascii_lowercase c.in-Some.known.now ≡ c.in-Some.known.now = control_small c.args.code (omega (arith, c.ranges.code)) c.in-Some.known.now known in
    let test = c.eq_ignore_ascii_case.ensures.test in (
      λ same. known ∙ ap (λ (name : List ℕ). Some name) (sym (test.0 same ∙ small)),
      λ is. let name : c.in-Some.known.now ≡ str_to_ascii_lowercase c.args.name.now = cc in test.1 (sym name ∙ sym small),
    )
