use Rattle.std.proofs.Common.{◌≡◌, ◌∙◌, ◌∷◌, ◌<◌, ℕ, List, Option, Some, None, Bor, ap, sym, drop, map, length, drop-cons, slice_index_or}
use Rattle.std.proofs.lemmas.List.{drop-map}
use Rattle.std.specs.Prelude.{IfSome, MatchOption}
use Rattle.clap.specs.Words.{Text}
use Rattle.program_arguments.specs.Requested.{GoesOnWith}
use Rattle.program_arguments.specs.Subcommands.{name_for}
use Rattle.program_arguments.specs.declared.subcommand.Subcommand.{Subcommand}
use Rattle.program_arguments.proofs.reading.named_by.Goals as goal

abbrev text : Bor (List ℕ) → Text
text argument = argument.now

begins : (arguments : List (Bor (List ℕ))) (name : Bor (List ℕ)) (none : Type 0) (found : Option Subcommand) → 1 < length arguments → name ≡ slice_index_or arguments 1 name
    → MatchOption found none (λ subcommand. name_for subcommand ≡ name.now) → IfSome found (GoesOnWith (map text arguments))
begins arguments name none None has is met = tt
begins arguments name none (Some subcommand) has is met = (
  map text (drop 2 arguments),
  drop-map text 1 arguments ∙ ap (map text) (drop-cons arguments 1 name has) ∙ ap (λ (n : Bor (List ℕ)). n.now ∷ map text (drop 2 arguments)) (sym is)
      ∙ ap (λ n. n ∷ map text (drop 2 arguments)) (sym met),
)

pub returns-in-Some : goal.returns-in-Some
returns-in-Some c =
    let lookup = c.in-Some.ensures.lookup in
    begins c.args.arguments.now c.in-Some.name.now _ c.named.result lookup.3.0 lookup.1 c.named.ensures
