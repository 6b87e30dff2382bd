use Rattle.std.proofs.Common.{◌≡◌, ◌<◌, true, length, rules, arith}
use Rattle.std.specs.List.{list_all}
use Rattle.std.specs.Char.{is_ascii_digit}
use Rattle.std.proofs.lemmas.Str.{IsUtf8-from_ascii}
use Rattle.cbm_text.proofs.TextLines.{digits_ascii, number_from_parse}
use Rattle.cbm_text.proofs.text_line.value_of.Goals as goal

pub unwrap-requires : goal.unwrap-requires
unwrap-requires c =
    let text = IsUtf8-from_ascii c.args.digits.now (digits_ascii c.args.digits.now c.requires.digits) in
    grind arith

pub returns : goal.returns
returns c =
    let all : list_all is_ascii_digit c.args.digits.now ≡ true = c.requires.digits in
    let some : 0 < length c.args.digits.now = c.requires.some in
    search (rules, number_from_parse)
