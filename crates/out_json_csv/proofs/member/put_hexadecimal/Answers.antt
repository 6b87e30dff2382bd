use Rattle.std.proofs.Common.{◌≡◌, ◌∙◌, ℕ, List, sym, subst, arith}
use Rattle.std.proofs.lemmas.Str.{IsUtf8-from_ascii}
use Rattle.std.specs.Str.{IsAscii}
use Rattle.hex.specs.Hex.{encode_lower}
use Rattle.out_json_csv.proofs.member.put_hexadecimal.Goals as goal

pub unwrap-requires : goal.unwrap-requires
unwrap-requires c =
    let same : encode_lower c.args.bytes.now ≡ c.as_slice.result.now = sym (c.as_slice.ensures.value ∙ c.in_ok-spell_hexadecimal.ensures) in
    let text = IsUtf8-from_ascii c.as_slice.result.now (subst (λ (text : List ℕ). IsAscii text) same c.digits_are_ascii.ensures) in
    grind arith
