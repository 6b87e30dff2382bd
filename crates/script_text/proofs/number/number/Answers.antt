use Rattle.std.proofs.Common.{◌≡◌, ◌<◌, ◌≤◌, true, length, rules, arith}
use Rattle.std.specs.List.{list_all}
use Rattle.std.specs.Char.{is_ascii_digit}
use Rattle.std.proofs.lemmas.Str.{IsUtf8-from_ascii}
use Rattle.script_text.proofs.DigitsOfWords.{digits_ascii, number_from_parse}
use Rattle.script_text.proofs.number.number.Goals as goal

pub unwrap-requires : goal.unwrap-requires
unwrap-requires c =
    let digits : list_all is_ascii_digit c.args.word.now ≡ true = search rules in
    let text = IsUtf8-from_ascii c.args.word.now (digits_ascii c.args.word.now digits) in
    grind arith

pub returns : goal.returns
returns c =
    let digits : list_all is_ascii_digit c.args.word.now ≡ true = search rules in
    let few : length c.args.word.now ≤ 3 = omega arith in
    let some : 0 < length c.args.word.now = search rules in
    search (rules, number_from_parse)
