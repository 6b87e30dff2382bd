use Rattle.std.proofs.Common.{◌==◌, ◌∙◌, ap, [], List, Option, length, map, option_map, sym}
use Rattle.std.specs.Prelude.{unwrap_or}
use Rattle.std.specs.Borrow.{Bor}
use Rattle.std.proofs.lemmas.List.{length-map}
use Rattle.clap.specs.Words.{Text, found_of}
use Rattle.clap.proofs.WalkLemmas.{raw_values-rows}
use Rattle.program_arguments.proofs.values.lacks_values.Goals as goal

abbrev texts_in : Option (Bor (List (Bor Text))) → Option (List Text)
texts_in = option_map (λ texts. map (λ text. text.now) texts.now)

abbrev or_none : Option (List Text) → List Text
or_none texts = unwrap_or texts []

pub returns-in-Some : goal.returns-in-Some
returns-in-Some c =
    let read = sym (ap texts_in c.in-Some.is) ∙ c.get_strs.ensures ∙ raw_values-rows (found_of c.args.arguments.now) c.args.id.now in
    c.is_empty.ensures ∙ ap (λ n. n == 0) (sym (length-map c.in-Some.texts.now _)) ∙ ap (λ texts. length texts == 0) (ap or_none read)

pub returns-in-None : goal.returns-in-None
returns-in-None c =
    let read = sym (ap texts_in c.in-None.is) ∙ c.get_strs.ensures ∙ raw_values-rows (found_of c.args.arguments.now) c.args.id.now in
    ap (λ texts. length texts == 0) (ap or_none read)
