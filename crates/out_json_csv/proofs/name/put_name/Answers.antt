use Rattle.std.proofs.Common.{◌≡◌, ◌∙◌, ℕ, ◌<◌, List, All, sym, subst, arith}
use Rattle.std.proofs.lemmas.Str.{IsUtf8-from_ascii}
use Rattle.std.proofs.lemmas.Str.Ascii.{IsAscii-from_all}
use Rattle.petscii.specs.Spelling.{spelling}
use Rattle.out_json_csv.proofs.name.put_name.Goals as goal

pub unwrap-requires : goal.unwrap-requires
unwrap-requires c =
    let same : spelling c.args.name.now ≡ c.as_slice.result.now = sym (c.as_slice.ensures.value ∙ c.in_ok-spell.ensures) in
    let ascii = subst (λ (text : List ℕ). All (λ byte. byte < 128) text) same c.spelling_is_ascii.ensures in
    let text = IsUtf8-from_ascii c.as_slice.result.now (IsAscii-from_all c.as_slice.result.now ascii) in
    grind arith
