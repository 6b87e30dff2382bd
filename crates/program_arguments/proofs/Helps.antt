-- Arguments without a fault name no subcommand `help`: clap prints the help for that one by itself.
use Rattle.std.proofs.Common.{◌≡◌, ◌∙◌, ◌&&◌, ◌||◌, ◌++◌, ℕ, Bool, cond, true, false, not, refl, sym, ap, List, [], ◌∷◌, Option, Some, None, codes, is_some, true≢false}
use Rattle.std.specs.Prelude.{option_and_then, option_map, ⊤}
use Rattle.std.specs.List.{find, fold, list_all}
use Rattle.std.specs.Str.{bytes_eq}
use Rattle.std.proofs.lemmas.Slice.Eq.{bytes_eq-Decides}
use Rattle.clap.specs.Kinds.{Kinds, or_else}
use Rattle.clap.specs.declared.error.kind.ErrorKind.TheVariants.{DisplayHelp, InvalidSubcommand}
use Rattle.clap.specs.Faults.{fault_of, other_fault, step_fault, turn_fault, walk_fault, word_fault}
use Rattle.clap.specs.Simple.{Shape, argument_words, built, label_of, names_of, rows_at, subcommand_of}
use Rattle.clap.specs.Walk.{Held, Names, Outcome, Rule, Step, Text, Waiting, Walk, after_flag, after_step, answers_to, arg_by_index, bundle, done, idle, long_met, long_or_other, next, nothing_held, arg_by_long, option, stop_after, plain, plain_word, positional, refused, short_or_plain, subcommand, subcommand_met, subcommand_or_other, to_positional, trailing, value, waits, walk_from, walked, walked_from, word_met}
use Rattle.clap.specs.Lexer.{long_of, short_of}
use Rattle.clap.proofs.OnLiterals.{clap_on_literals}
use Rattle.program_arguments.specs.Requested.{IsOneOf, Met, subcommands}
use Rattle.program_arguments.specs.Commands.{d64sh}
use Rattle.program_arguments.proofs.Filled.{found_all, found_passes}
use Rattle.program_arguments.proofs.OneOf.{other_than_last}
use Rattle.program_arguments.proofs.Parses.{met_among, none≢some, same_Some}

pub first_none : (a b : Kinds) → or_else a b ≡ [] → a ≡ []
first_none [] b e = refl
first_none (k ∷ ks) b e = cc

pub last_none : (a b : Kinds) → or_else a b ≡ [] → b ≡ []
last_none [] b e = e
last_none (k ∷ ks) b e = cc

abbrev help : Text
help = codes "help"

-- the walk has not stopped there
abbrev IsElsewhere : Option (Text × List Text) → Type 0
IsElsewhere None = ⊤
IsElsewhere (Some p) = bytes_eq p.0 help ≡ false

-- nor does the step
abbrev GoesElsewhere : Step → Type 0
GoesElsewhere (next waiting) = ⊤
GoesElsewhere (trailing position) = ⊤
GoesElsewhere (subcommand name) = bytes_eq name help ≡ false
GoesElsewhere value = ⊤

module _ (c : List Rule) where
  plain_goes : (waiting : Waiting) (word : Text) (h : Held) → GoesElsewhere (plain_word c waiting word h).1
  plain_goes idle word h = tt
  plain_goes (option id) word h = tt
  plain_goes positional word h = tt

  flag_goes : (waiting : Waiting) (word : Text) (h : Held) (o : Outcome) → GoesElsewhere (after_flag c waiting word h o).1
  flag_goes waiting word h done = tt
  flag_goes waiting word h (waits id) = tt
  flag_goes waiting word h plain = plain_goes waiting word h
  flag_goes waiting word h refused = plain_goes waiting word h

  short_goes : (waiting : Waiting) (word : Text) (flags : Option Text) (h : Held) → GoesElsewhere (short_or_plain c waiting word flags h).1
  short_goes waiting word None h = plain_goes waiting word h
  short_goes waiting word (Some flags) h = flag_goes waiting word (bundle c flags h).0 (bundle c flags h).1

  long_goes : (waiting : Waiting) (word : Text) (found : Option (Text × Option Text)) (h : Held) → GoesElsewhere (long_or_other c waiting word found h).1
  long_goes waiting word None h = short_goes waiting word (short_of word) h
  long_goes waiting word (Some p) h = flag_goes waiting word (long_met c (arg_by_long c p.0) p.1 h).0 (long_met c (arg_by_long c p.0) p.1 h).1

  other_goes : (waiting : Waiting) (position : ℕ) (word : Text) (h : Held) (is_end : Bool)
      → GoesElsewhere (cond {A = Held × Step} is_end (h, trailing position) (long_or_other c waiting word (long_of word) h)).1
  other_goes waiting position word h true = tt
  other_goes waiting position word h false = long_goes waiting word (long_of word) h

  positional_goes : (found : Option Rule) (word : Text) (w : Walk) (h : Held) → IsElsewhere w.stopped → IsElsewhere (to_positional c found word w h).stopped
  positional_goes None word w h is = is
  positional_goes (Some a) word w h is = tt

  after_goes : (word : Text) (w : Walk) (h : Held) (s : Step) → IsElsewhere w.stopped → GoesElsewhere s → IsElsewhere (after_step c word w h s).stopped
  after_goes word w h (next waiting) is goes = is
  after_goes word w h (trailing position) is goes = is
  after_goes word w h (subcommand name) is goes = goes
  after_goes word w h value is goes = positional_goes (arg_by_index c w.position) word w h is

module _ (s : Shape) (helps : s.disable_help_subcommand ≡ false) (names : Names) where
  not_help : (name : Text) (word : Text) (h : Held) → other_fault s (Some name) word h ≡ [] → bytes_eq name help ≡ false
  not_help name word h none = go (bytes_eq name help) (s.disable_help_subcommand) helps none
    where
      go : (is off : Bool) → off ≡ false → cond (is && not off) (DisplayHelp ∷ InvalidSubcommand ∷ []) [] ≡ [] → is ≡ false
      go false off helps none = refl
      go true true helps none = absurd (true≢false helps)
      go true false helps none = cc

  met_goes : (waiting : Waiting) (position : ℕ) (word : Text) (h : Held) (found : Option Text) → other_fault s found word h ≡ []
      → GoesElsewhere (subcommand_or_other s.rules found waiting position word h).1
  met_goes waiting position word h None none = other_goes s.rules waiting position word h (bytes_eq word (45 ∷ 45 ∷ []))
  met_goes waiting position word h (Some name) none = not_help name word h none

  word_goes : (is_trailing : Bool) (waiting : Waiting) (position : ℕ) (word : Text) (h : Held) → word_fault s names is_trailing waiting word h ≡ []
      → GoesElsewhere (word_met s.rules names is_trailing waiting position word h).1
  word_goes true waiting position word h none = tt
  word_goes false waiting position word h none = met_goes waiting position word h (subcommand_met names waiting word) none

  turn_goes : (w : Walk) (word : Text) → turn_fault s names w word ≡ [] → IsElsewhere w.stopped → IsElsewhere (walked s.rules names w word).stopped
  unfolding walked
  turn_goes w word none is = go w.stopped is none
    where
      met : Held × Step
      met = word_met s.rules names w.is_trailing w.waiting w.position word w.held

      go : (stopped : Option (Text × List Text)) → IsElsewhere stopped
          → cond (is_some stopped) [] (or_else (word_fault s names w.is_trailing w.waiting word w.held) (step_fault s w.position met.0 met.1)) ≡ []
          → IsElsewhere (walked_from s.rules names stopped w word).stopped
      go (Some p) not none = not
      go None not none =
          after_goes s.rules word w met.0 met.1 is (word_goes w.is_trailing w.waiting w.position word w.held (first_none _ _ none))

  walk_goes : (words : List Text) (w : Walk) → walk_fault s names w words ≡ [] → IsElsewhere w.stopped
      → IsElsewhere (fold (walked s.rules names) w words).stopped
  unfolding walk_fault
  walk_goes [] w none is = is
  walk_goes (word ∷ rest) w none is =
      walk_goes rest (walked s.rules names w word) (last_none (turn_fault s names w word) _ none) (turn_goes w word (first_none _ _ none) is)

abbrev are_none : List Text → Bool
are_none [] = true
are_none (alias ∷ aliases) = false

-- each subcommand has its name alone
abbrev is_plainly_named : Shape → Bool
is_plainly_named s = are_none s.aliases

named_alone : (aliases : List Text) (name word : Text) → are_none aliases ≡ true → answers_to word (name, aliases) ≡ true → bytes_eq name word ≡ true
named_alone [] name word alone met_by = go (bytes_eq name word) met_by
  where
    go : (t : Bool) → (t || false) ≡ true → t ≡ true
    go true e = refl
    go false e = e
named_alone (alias ∷ aliases) name word alone met_by = absurd (true≢false (sym alone))

-- the subcommand that is entered is not the one for help, if the walk stopped at another
entered_elsewhere : (subs : List Shape) → list_all is_plainly_named subs ≡ true → (stop : Option (Text × List Text)) → IsElsewhere stop → (met : Met)
    → option_and_then (λ p. option_map (λ s. rows_at s p.1) (find (λ s. answers_to p.0 (label_of s)) subs)) stop ≡ Some met → bytes_eq met.0 help ≡ false
entered_elsewhere subs plainly None is met e = absurd (none≢some met e)
entered_elsewhere subs plainly (Some p) is met e = go (find (λ s. answers_to p.0 (label_of s)) subs) refl e
  where
    go : (found : Option Shape) → find (λ s. answers_to p.0 (label_of s)) subs ≡ found → option_map (λ s. rows_at s p.1) found ≡ Some met
        → bytes_eq met.0 help ≡ false
    go None at e = absurd (none≢some met e)
    go (Some s) at e =
        let alone = found_all (λ v. answers_to p.0 (label_of v)) is_plainly_named subs s plainly at in
        let met_by = found_passes (λ v. answers_to p.0 (label_of v)) subs s at in
        let same : s.name ≡ p.0 = (bytes_eq-Decides s.name p.0).0 (named_alone s.aliases s.name p.0 alone met_by) in
        ap (λ name. bytes_eq name help) (ap (λ (m : Met). m.0) (sym (same_Some (rows_at s p.1) met e)) ∙ same) ∙ is

plainly_named : list_all is_plainly_named (built d64sh).subs ≡ true
unfolding clap_on_literals d64sh
plainly_named = refl

prints_help : (built d64sh).top.disable_help_subcommand ≡ false
unfolding clap_on_literals d64sh
prints_help = refl

subcommands_and_help : (words : List Text) (met : Met) → subcommand_of d64sh words ≡ Some met → IsOneOf (subcommands ++ help ∷ []) met.0
unfolding d64sh
subcommands_and_help words met e = met_among d64sh _ refl words met e

-- arguments without a fault name one of the program's subcommands
pub met_is_subcommand : (words : List Text) (met : Met) → fault_of d64sh words ≡ [] → subcommand_of d64sh words ≡ Some met → IsOneOf subcommands met.0
met_is_subcommand words met none is =
    let after = argument_words d64sh words in
    let top = (built d64sh).top in
    let names = names_of (built d64sh) in
    let elsewhere = walk_goes top prints_help names after (walk_from nothing_held) (first_none _ _ none) tt in
    other_than_last subcommands help met.0 (subcommands_and_help words met is)
    (entered_elsewhere (built d64sh).subs plainly_named (stop_after top.rules names after) elsewhere met is)
