-- A subcommand that reads the arguments from its name on alone makes of them what the program makes
-- of all arguments.
use Rattle.std.proofs.Common.{◌≡◌, ◌∙◌, ◌++◌, cond, true, false, refl, sym, ap, ap₂, List, [], ◌∷◌, Option, Some, None, append-nil, append_assoc, codes, drop, is_some}
use Rattle.std.specs.Prelude.{option_map}
use Rattle.std.specs.List.{find, fold}
use Rattle.std.specs.Str.{bytes_eq}
use Rattle.clap.specs.Kinds.{Kinds, or_else}
use Rattle.clap.specs.Faults.{built_fault, check_fault, defaults_fault, entered_fault, fault_of, is_simple_and_free, level_fault, walk_fault}
use Rattle.clap.specs.Simple.{App, Shape, argument_words, built, entered, is_simple, label_of, matches_of, names_of, rows_at, subcommand_of}
use Rattle.clap.specs.Walk.{Names, Rule, Text, Walk, answers_to, finished, idle, nothing_held, rows_after, walk, walk_from, walked}
use Rattle.clap.proofs.OnLiterals.{clap_on_literals}
use Rattle.clap.proofs.WalkLemmas.{both, find-map}
use Rattle.program_arguments.specs.Commands.{d64sh}
use Rattle.program_arguments.specs.Subcommands.{app_for, name_for}
use Rattle.program_arguments.specs.declared.subcommand.Subcommand.{Subcommand}
use Rattle.program_arguments.specs.declared.subcommand.Subcommand.TheVariants.{Shell, Petcat, Crunch, Check, Files, Extract, Map, Diff, Merge, Catalogue}

-- the walk that stopped at a subcommand, with these arguments after it
abbrev at_subcommand : Text → List Text → Walk
at_subcommand name words = record { held = nothing_held; waiting = idle; position = 1; is_trailing = false; stopped = Some (name, words) }

-- ---- a walk that stopped goes no further

goes_on : (c : List Rule) (names : Names) (name : Text) (before words : List Text)
    → fold (walked c names) (at_subcommand name before) words ≡ at_subcommand name (before ++ words)
unfolding walked
goes_on c names name before [] = ap (at_subcommand name) (sym (append-nil before))
goes_on c names name before (word ∷ rest) =
    goes_on c names name (before ++ word ∷ []) rest ∙ ap (at_subcommand name) (append_assoc before (word ∷ []) rest)

fails_no_more : (s : Shape) (names : Names) (name : Text) (before words : List Text) → walk_fault s names (at_subcommand name before) words ≡ []
unfolding walk_fault walked
fails_no_more s names name before [] = refl
fails_no_more s names name before (word ∷ rest) = fails_no_more s names name (before ++ word ∷ []) rest

-- -- the arguments from the name of a subcommand on, in a program that has it

module _ (program : App) (s : Shape) (rest : List Text)
    (found : find (λ t. answers_to s.name (label_of t)) program.subs ≡ Some s) (no_help : bytes_eq s.name (codes "help") ≡ false) where
  abbrev names : Names
  names = names_of program

  met : find (answers_to s.name) names ≡ Some (label_of s)
  met = sym (find-map (answers_to s.name) label_of program.subs) ∙ ap (option_map label_of) found

  stops : walk program.top.rules names nothing_held (s.name ∷ rest) ≡ at_subcommand s.name rest
  unfolding walked
  stops = rw met (goes_on program.top.rules names s.name [] rest)

  walks : walk_fault program.top names (walk_from nothing_held) (s.name ∷ rest) ≡ []
  unfolding walk_fault walked
  walks = rw (met, no_help) (fails_no_more program.top names s.name [] rest)

  enters : entered program (walk program.top.rules names nothing_held (s.name ∷ rest)).stopped ≡ Some (rows_at s rest)
  enters = rw (stops, found) refl

  fails : defaults_fault [] program.top.rules ≡ [] → check_fault program.top (finished program.top.rules nothing_held) true ≡ []
      → built_fault program nothing_held (s.name ∷ rest) ≡ level_fault s [] nothing_held rest false []
  fails defaults checks = rw (walks, stops, found, defaults, checks) (ends (level_fault s [] nothing_held rest false []))
    where
      ends : (kinds : Kinds) → or_else kinds [] ≡ kinds
      ends [] = refl
      ends (kind ∷ kinds) = refl

-- -- the same arguments, in a command without subcommands

leaf_fails : (s : Shape) (words : List Text) → built_fault (record { top = s; subs = [] }) nothing_held words ≡ level_fault s [] nothing_held words false []
leaf_fails s words = go (walk s.rules [] nothing_held words).stopped refl
  where
    go : (stop : Option (Text × List Text)) → (walk s.rules [] nothing_held words).stopped ≡ stop
        → level_fault s [] nothing_held words (is_some (entered (record { top = s; subs = [] }) stop)) (entered_fault (record { top = s; subs = [] }) stop)
        ≡ level_fault s [] nothing_held words false []
    go None is = refl
    go (Some p) is = refl

-- ---- each subcommand of the program

-- what is known of one that is written out
abbrev IsPart : App → Type 0
IsPart leaf = (is_simple_and_free leaf ≡ true) × (leaf.top.no_binary_name ≡ false) × (built leaf ≡ record { top = (built leaf).top; subs = [] })
    × ((built leaf).top.name ≡ leaf.top.name) × (bytes_eq leaf.top.name (codes "help") ≡ false)
    × (find (λ t. answers_to leaf.top.name (label_of t)) (built d64sh).subs ≡ Some (built leaf).top)

is_part : (subcommand : Subcommand) → IsPart (app_for subcommand)
unfolding clap_on_literals d64sh
is_part Shell = (refl, refl, refl, refl, refl, refl)
is_part Petcat = (refl, refl, refl, refl, refl, refl)
is_part Crunch = (refl, refl, refl, refl, refl, refl)
is_part Check = (refl, refl, refl, refl, refl, refl)
is_part Files = (refl, refl, refl, refl, refl, refl)
is_part Extract = (refl, refl, refl, refl, refl, refl)
is_part Map = (refl, refl, refl, refl, refl, refl)
is_part Diff = (refl, refl, refl, refl, refl, refl)
is_part Merge = (refl, refl, refl, refl, refl, refl)
is_part Catalogue = (refl, refl, refl, refl, refl, refl)

no_default_fails : defaults_fault [] (built d64sh).top.rules ≡ []
unfolding clap_on_literals d64sh
no_default_fails = refl

nothing_lacks : check_fault (built d64sh).top (finished (built d64sh).top.rules nothing_held) true ≡ []
unfolding clap_on_literals d64sh
nothing_lacks = refl

has_binary_name : d64sh.top.no_binary_name ≡ false
unfolding d64sh
has_binary_name = refl

pub free : (subcommand : Subcommand) → is_simple_and_free (app_for subcommand) ≡ true
free subcommand = (is_part subcommand).0

pub simple : (subcommand : Subcommand) → is_simple (app_for subcommand) ≡ true
simple subcommand = (both (is_simple (app_for subcommand)) _ (free subcommand)).0

-- the arguments of the program, which go on with the name of a subcommand
module _ (words : List Text) (rest : List Text) (subcommand : Subcommand) (begins : drop 1 words ≡ name_for subcommand ∷ rest) where
  abbrev leaf : App
  leaf = app_for subcommand

  abbrev name : Text
  name = name_for subcommand

  part : IsPart leaf
  part = is_part subcommand

  same_name : (built leaf).top.name ≡ name
  same_name = part.3

  begins_so : argument_words d64sh words ≡ (built leaf).top.name ∷ rest
  begins_so = rw has_binary_name (begins ∙ ap (λ n. n ∷ rest) (sym same_name))

  pub same_fault : fault_of d64sh words ≡ fault_of leaf (name ∷ rest)
  same_fault =
      let s = (built leaf).top in
      let no_help = ap (λ n. bytes_eq n (codes "help")) part.3 ∙ part.4 in
      let found = ap (λ n. find (λ t. answers_to n (label_of t)) (built d64sh).subs) part.3 ∙ part.5 in
      let all = ap (built_fault (built d64sh) nothing_held) begins_so ∙ fails (built d64sh) s rest found no_help no_default_fails nothing_lacks in
      let alone = ap (λ l. built_fault l nothing_held rest) part.2 ∙ leaf_fails s rest in
      all ∙ sym (ap (λ b. built_fault (built leaf) nothing_held (cond b (name ∷ rest) rest)) part.1 ∙ alone)

  pub same_met : subcommand_of d64sh words ≡ Some (name, matches_of leaf (name ∷ rest))
  same_met =
      let s = (built leaf).top in
      let found = ap (λ n. find (λ t. answers_to n (label_of t)) (built d64sh).subs) part.3 ∙ part.5 in
      let no_help = ap (λ n. bytes_eq n (codes "help")) part.3 ∙ part.4 in
      let all = ap (λ after. entered (built d64sh) (walk (built d64sh).top.rules (names_of (built d64sh)) nothing_held after).stopped) begins_so
      ∙ enters (built d64sh) s rest found no_help in
      let alone = ap (λ b. rows_after (built leaf).top.rules (names_of (built leaf)) (cond b (name ∷ rest) rest)) part.1
      ∙ ap (λ l. rows_after l.top.rules (names_of l) rest) part.2 in
      all ∙ ap Some (ap₂ (λ n rows. (n, rows)) same_name (sym alone))
