use Rattle.std.proofs.Common.{◌<◌, arith}
use Rattle.std.proofs.lemmas.List.Elements.{All-weaker}
use Rattle.std.proofs.lemmas.Str.{IsUtf8-from_ascii}
use Rattle.std.proofs.lemmas.Str.Ascii.{IsAscii-from_all}
use Rattle.script_text.specs.Words.{IsPrintable}
use Rattle.script_text.proofs.words.as_text.Goals as goal

pub unwrap-requires : goal.unwrap-requires
unwrap-requires c =
    let word = c.args.word.now in
    let text = IsUtf8-from_ascii word (IsAscii-from_all word (All-weaker IsPrintable (λ b. b < 128) (λ b printable. omega (arith, printable.1)) word c.requires)) in
    grind arith
