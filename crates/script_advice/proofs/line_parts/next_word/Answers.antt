use Rattle.std.proofs.Common.{rules, ◌≡◌, ◌∷◌, All}
use Rattle.std.proofs.lemmas.List.Elements.{All-head, All-tail}
use Rattle.script_text.specs.Words.{IsPrintable}
use Rattle.script_advice.proofs.line_parts.next_word.Goals as goal

-- the argument is one of the line
pub as_text-requires : goal.as_text-requires
as_text-requires c =
    let steps : c.args.words.now ≡ c.in-Some.word.now ∷ c.next.new.self = search rules in
    All-head (All IsPrintable) c.in-Some.word.now c.next.new.self (rw steps at c.requires)

-- and so are those that follow
pub returns-in-Some-clause-printable : goal.returns-in-Some-clause-printable
returns-in-Some-clause-printable c =
    let steps : c.args.words.now ≡ c.in-Some.word.now ∷ c.next.new.self = search rules in
    All-tail (All IsPrintable) c.in-Some.word.now c.next.new.self (rw steps at c.requires)
