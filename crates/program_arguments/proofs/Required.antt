-- If arguments have no fault, an argument that their subcommand requires has a value.
use Rattle.std.proofs.Common.{◌≡◌, ◌∙◌, ◌&&◌, ◌||◌, Bool, true, false, not, refl, sym, ap, subst, List, [], ◌∷◌, Option, Some, None, true≢false}
use Rattle.std.specs.Prelude.{IsSome, option_map}
use Rattle.std.specs.List.{find, list_all, list_any}
use Rattle.std.specs.Option.{option_map_or}
use Rattle.std.specs.Str.{bytes_eq}
use Rattle.std.proofs.lemmas.Bool.{not-false, or_parts}
use Rattle.std.proofs.lemmas.Slice.Eq.{bytes_eq-Decides}
use Rattle.clap.specs.Kinds.{check_kinds, or_else}
use Rattle.clap.specs.Faults.{built_fault, check_fault, defaults_fault, entered_fault, fault_of, level_fault, settle_fault, walk_fault}
use Rattle.clap.specs.Takes.{is_given}
use Rattle.clap.specs.Simple.{App, Shape, argument_words, built, entered, label_of, names_of, rows_at, subcommand_of}
use Rattle.clap.specs.Walk.{Row, Rule, Text, answers_to, first_of, nothing_held, rows_after, settled, stop_after, walk, walk_from}
use Rattle.clap.proofs.WalkLemmas.{both}
use Rattle.clap.proofs.OnLiterals.{clap_on_literals}
use Rattle.program_arguments.specs.Commands.{d64sh}
use Rattle.program_arguments.specs.Requested.{HasValues, IsWhole, Met, requirements}
use Rattle.program_arguments.proofs.Filled.{found_all, has_value, is_place, rows_full}
use Rattle.program_arguments.proofs.Helps.{first_none, last_none, met_is_subcommand}
use Rattle.program_arguments.proofs.Parses.{none≢some, same_Some}

-- the subcommand of this name has a value for this argument
abbrev HasValue : Text → Text → Met → Type 0
HasValue name id met = met.0 ≡ name → IsSome (first_of id met.1)

-- if no required argument is missing, it is given
abbrev is_required : Text → Rule → Bool
is_required id rule = rule.required && bytes_eq rule.id id

given_where_required : (id : Text) (rows : List Row) (rules : List Rule) → list_any (is_required id) rules ≡ true
    → list_any (λ rule. rule.required && not (is_given rule.id rows)) rules ≡ false → is_given id rows ≡ true
given_where_required id rows [] some none = absurd (true≢false (sym some))
given_where_required id rows (rule ∷ rules) some none =
    go (λ more. given_where_required id rows rules more (or_parts (rule.required && not (is_given rule.id rows)) _ none).1) (is_required id rule) refl
  where
    go : (list_any (is_required id) rules ≡ true → is_given id rows ≡ true) → (t : Bool) → is_required id rule ≡ t → is_given id rows ≡ true
    go later false t = later (ap (λ s. s || list_any (is_required id) rules) (sym t) ∙ some)
    go later true t =
        let parts = both rule.required (bytes_eq rule.id id) t in
        let same : rule.id ≡ id = (bytes_eq-Decides rule.id id).0 parts.1 in
        let given : not (is_given rule.id rows) ≡ false = ap (λ s. s && not (is_given rule.id rows)) (sym parts.0) ∙ (or_parts _ _ none).0 in
        ap (λ name. is_given name rows) (sym same) ∙ not-false _ given

-- -- if there is no fault, all required arguments are given

wants_none : (help sub missing : Bool) → check_kinds help sub missing ≡ [] → missing ≡ false
wants_none true sub missing e = cc
wants_none false true missing e = cc
wants_none false false true e = cc
wants_none false false false e = refl

lifts_none : (negates missing : Bool) → (not (negates && false) && missing) ≡ false → missing ≡ false
lifts_none true missing e = e
lifts_none false missing e = e

-- the argument is a place, and required
abbrev is_wanted : Text → Shape → Bool
is_wanted id s = list_all (is_place id) s.rules && list_any (λ rule. rule.required && bytes_eq rule.id id) s.rules

required_has_value : (id : Text) (s : Shape) (words : List Text) → is_wanted id s ≡ true → level_fault s [] nothing_held words false [] ≡ []
    → IsSome (first_of id (rows_after s.rules [] words))
required_has_value id s words wanted none =
    let rows = rows_after s.rules [] words in
    let end = (walk s.rules [] nothing_held words).held in
    let parts = both (list_all (is_place id) s.rules) _ wanted in
    let walked : or_else [] (or_else (settle_fault s.rules s.args_override_self end) (or_else (defaults_fault (settled s.rules end).rows s.rules) (check_fault s rows false))) ≡ [] =
    last_none (walk_fault s [] (walk_from nothing_held) words) _ none in
    let settled_none : or_else (defaults_fault (settled s.rules end).rows s.rules) (check_fault s rows false) ≡ [] =
    last_none (settle_fault s.rules s.args_override_self end) _ walked in
    let checked = last_none (defaults_fault (settled s.rules end).rows s.rules) (check_fault s rows false) settled_none in
    let missing = lifts_none s.subcommand_negates_reqs _ (wants_none _ _ _ checked) in
    has_value id rows (rows_full id s.rules parts.0 words) (given_where_required id rows s.rules parts.1 missing)

-- the subcommand with this name requires the argument
abbrev is_wanted_by : Text → Text → Shape → Bool
is_wanted_by name id s = not (bytes_eq s.name name) || is_wanted id s

when : (test wanted : Bool) → test ≡ true → (not test || wanted) ≡ true → wanted ≡ true
when true wanted is e = e
when false wanted is e = absurd (true≢false (sym is))

entered_has_value : (name id : Text) (subs : List Shape) → list_all (is_wanted_by name id) subs ≡ true → (named : Shape → Bool) (words : List Text) (met : Met)
    → option_map (λ s. rows_at s words) (find named subs) ≡ Some met
    → option_map_or (λ s. level_fault s [] nothing_held words false []) (find named subs) [] ≡ [] → HasValue name id met
entered_has_value name id subs all named words met = go (find named subs) refl
  where
    go : (found : Option Shape) → find named subs ≡ found → option_map (λ s. rows_at s words) found ≡ Some met
        → option_map_or (λ s. level_fault s [] nothing_held words false []) found [] ≡ [] → HasValue name id met
    go None at e none = absurd (none≢some met e)
    go (Some s) at e none =
        let wanted = found_all named (is_wanted_by name id) subs s all at in
        subst (HasValue name id) (same_Some (rows_at s words) met e)
        (λ is. required_has_value id s words (when (bytes_eq s.name name) (is_wanted id s) ((bytes_eq-Decides s.name name).1 is) wanted) none)

module _ (app : App) (words : List Text) where
  below_none : built_fault app nothing_held words ≡ [] → entered_fault app (stop_after app.top.rules (names_of app) words) ≡ []
  below_none none = first_none _ _ (last_none (walk_fault app.top (names_of app) (walk_from nothing_held) words) _ none)

  value_met : (name id : Text) → list_all (is_wanted_by name id) app.subs ≡ true → (met : Met) → built_fault app nothing_held words ≡ []
      → entered app (stop_after app.top.rules (names_of app) words) ≡ Some met → HasValue name id met
  value_met name id all met none e = go (stop_after app.top.rules (names_of app) words) (below_none none) e
    where
      go : (stop : Option (Text × List Text)) → entered_fault app stop ≡ [] → entered app stop ≡ Some met → HasValue name id met
      go None none e = absurd (none≢some met e)
      go (Some p) none e = entered_has_value name id app.subs all (λ s. answers_to p.0 (label_of s)) p.1 met e none

  -- each of these arguments is wanted by its subcommand
  abbrev are_wanted : List (Text × Text) → Bool
  are_wanted pairs = list_all (λ pair. list_all (is_wanted_by pair.0 pair.1) app.subs) pairs

  values_met : (pairs : List (Text × Text)) → are_wanted pairs ≡ true → (met : Met) → built_fault app nothing_held words ≡ []
      → entered app (stop_after app.top.rules (names_of app) words) ≡ Some met → HasValues pairs met
  values_met [] all met none e = tt
  values_met (pair ∷ pairs) all met none e =
      let parts = both (list_all (is_wanted_by pair.0 pair.1) app.subs) (are_wanted pairs) all in
      (value_met pair.0 pair.1 parts.0 met none e, values_met pairs parts.1 met none e)

all_wanted : are_wanted (built d64sh) [] requirements ≡ true
unfolding clap_on_literals d64sh
all_wanted = refl

-- arguments without a fault give a value to each argument that their subcommand requires
pub met_is_whole : (words : List Text) (met : Met) → fault_of d64sh words ≡ [] → subcommand_of d64sh words ≡ Some met → IsWhole met
met_is_whole words met none is =
    (met_is_subcommand words met none is, values_met (built d64sh) (argument_words d64sh words) requirements all_wanted met none is)
