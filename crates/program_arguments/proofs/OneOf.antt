-- A name among several.
use Rattle.std.proofs.Common.{◌≡◌, ◌∙◌, ◌∷◌, ◌++◌, ◌+◌, ◌<◌, ℕ, List, [], ap, sym, subst, inl, inr, false, length, map, slice_index_or, take, true≢false}
use Rattle.std.specs.Str.{bytes_eq}
use Rattle.std.proofs.lemmas.List.{map-append, take_more}
use Rattle.std.proofs.lemmas.Slice.Eq.{bytes_eq-Decides}
use Rattle.clap.specs.Words.{Text}
use Rattle.program_arguments.specs.Requested.{IsOneOf}
use Rattle.program_arguments.specs.Subcommands.{name_for}
use Rattle.program_arguments.specs.declared.subcommand.Subcommand.{Subcommand}
use Rattle.program_arguments.specs.declared.subcommand.Subcommand.TheVariants.{Shell}

pub other_than_last : (names : List Text) (last name : Text) → IsOneOf (names ++ last ∷ []) name → bytes_eq name last ≡ false → IsOneOf names name
other_than_last [] last name (inl same) other = absurd (true≢false (sym ((bytes_eq-Decides name last).1 same) ∙ other))
other_than_last [] last name (inr none) other = none
other_than_last (first ∷ names) last name (inl same) other = inl same
other_than_last (first ∷ names) last name (inr later) other = inr (other_than_last names last name later other)

-- it is none of the first subcommands, and not the next one
pub none_so_far : (subcommands : List Subcommand) (i : ℕ) (name : Text) → i < length subcommands → ¬ IsOneOf (map name_for (take i subcommands)) name
    → bytes_eq name (name_for (slice_index_or subcommands i Shell)) ≡ false → ¬ IsOneOf (map name_for (take (i + 1) subcommands)) name
none_so_far subcommands i name within none other is =
    let next = slice_index_or subcommands i Shell in
    let names = ap (map name_for) (take_more subcommands i Shell within) ∙ map-append name_for (take i subcommands) (next ∷ []) in
    none (other_than_last (map name_for (take i subcommands)) (name_for next) name (subst (λ all. IsOneOf all name) names is) other)
