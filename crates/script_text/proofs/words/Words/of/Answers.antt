use Rattle.std.proofs.Common.{◌≡◌, true, Some, option_map, length, rules}
use Rattle.std.specs.List.{list_all}
use Rattle.script_text.specs.Words.{is_printable, split_words, words_left}
use Rattle.script_text.proofs.Splitting.{line_words, line_words-printable}
use Rattle.script_text.proofs.words.Words.of.Goals as goal

pub returns-in-Some-clause-printable : goal.returns-in-Some-clause-printable
returns-in-Some-clause-printable c =
    let printable : list_all is_printable c.args.line.now ≡ true = search rules in
    let counted : option_map length (split_words c.args.line.now) ≡ Some c.in-Some.left = cc in
    line_words-printable c.args.line.now (words_left c.args.line.now) (line_words c.args.line.now c.in-Some.left printable counted)
