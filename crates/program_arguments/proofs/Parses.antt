-- What the parse of the program's arguments implies.
use Rattle.std.proofs.Common.{◌≡◌, ◌≢◌, ◌∙◌, inl, inr, Bool, true, false, cond, map, refl, sym, ap, subst, List, [], ◌∷◌, Option, Some, None, Result, Ok, Err, IfErr, true≢false}
use Rattle.std.specs.Option.{IsSomeAnd, is_some, option_map, unwrap_or}
use Rattle.std.specs.Prelude.{IsErrAnd, find, option_and_then}
use Rattle.clap.specs.Words.{App, HasKind, HasMatchesOf, IsAmong, Shape, Text, app_of, built, fault_of, is_simple, is_simple_and_free, kind_of, subcommand_of, subcommand_rows_of}
use Rattle.clap.specs.Simple.{argument_words, label_of, names_of, rows_at, subcommand_rows}
use Rattle.clap.specs.Walk.{Row, answers_to, stop_after}
use Rattle.clap.specs.Matches.{subcommand_name_of}
use Rattle.clap.specs.declared.parser.matches.ArgMatches.TheViews.{out-ArgMatches}
use Rattle.clap.specs.declared.builder.command.Command.{Command}
use Rattle.clap.specs.declared.error.Error.{Error}
use Rattle.clap.specs.declared.error.kind.ErrorKind.TheVariants.{OutOfMemory}
use Rattle.clap.specs.declared.parser.matches.ArgMatches.{ArgMatches}
use Rattle.clap.proofs.OnLiterals.{clap_on_literals}
use Rattle.program_arguments.specs.Commands.{d64sh}
use Rattle.program_arguments.specs.Requested.{IsFault, IsFaultOf, IsFaultOfKind, IsJob, IsJobOf, IsOneOf, Met}
use Rattle.program_arguments.specs.declared.jobs.Job.{Job}
use Rattle.program_arguments.specs.declared.jobs.JobFault.{JobFault}
use Rattle.program_arguments.specs.declared.jobs.JobFault.TheVariants.{Arguments, Start, Memory, Tracks, Both, Format, Names, Null, Picture, Difference, Folder, Title, Links, Output, Dumps}

pub simple_and_free : is_simple_and_free d64sh ≡ true
unfolding clap_on_literals d64sh
simple_and_free = refl

pub simple : is_simple d64sh ≡ true
unfolding clap_on_literals d64sh
simple = refl

pub wants_subcommand : d64sh.top.subcommand_required ≡ true
unfolding d64sh
wants_subcommand = refl

pub same_Some : {X : Type 0} (x y : X) → Some x ≡ Some y → x ≡ y
same_Some x y e = ap (λ o. unwrap_or o x) e

pub none≢some : {X : Type 0} (x : X) → None ≡ Some x → ⊥
none≢some x e = true≢false (sym (ap (λ o. is_some o) e))

-- the two parts of what a subcommand has
pub both_parts : {B X Y : Type 0} (f : B → X) (g : B → Y) (o : Option B) (x : X) (y : Y) → Some x ≡ option_map f o
    → Some y ≡ option_map (λ (p : X × Y). p.1) (option_map {U = X × Y} (λ b. (f b, g b)) o) → option_map {U = X × Y} (λ b. (f b, g b)) o ≡ Some (x, y)
both_parts f g None x y name rows = absurd (none≢some x (sym name))
both_parts f g (Some b) x y name rows = rw (same_Some x (f b) name, same_Some y (g b) rows) refl

-- ---- a command of subcommands meets one of them

one_of : (named : Shape → Bool) (make : Shape → Met) (met : Met) (subs : List Shape) → ((s : Shape) → (make s).0 ≡ s.name)
    → option_map make (find named subs) ≡ Some met → IsOneOf (map (λ (s : Shape). s.name) subs) met.0
one_of named make met [] names e = absurd (none≢some met e)
one_of named make met (s ∷ rest) names e = go (one_of named make met rest names) (named s) e
  where
    go : (option_map make (find named rest) ≡ Some met → IsOneOf (map (λ (t : Shape). t.name) rest) met.0) → (is : Bool)
        → option_map make (cond is (Some s) (find named rest)) ≡ Some met → IsOneOf (map (λ (t : Shape). t.name) (s ∷ rest)) met.0
    go later true e = inl (sym (ap (λ (m : Met). m.0) (same_Some (make s) met e)) ∙ names s)
    go later false e = inr (later e)

abbrev entered_by : List Shape → Option (Text × List Text) → Option Met
entered_by subs = option_and_then (λ p. option_map (λ s. rows_at s p.1) (find (λ s. answers_to p.0 (label_of s)) subs))

named_by : (subs : List Shape) (stop : Option (Text × List Text)) (met : Met) → entered_by subs stop ≡ Some met
    → IsOneOf (map (λ (s : Shape). s.name) subs) met.0
named_by subs None met e = absurd (none≢some met e)
named_by subs (Some p) met e = one_of (λ v. answers_to p.0 (label_of v)) (λ v. rows_at v p.1) met subs (λ s. refl) e

pub met_among : (a : App) (names : List Text) → map (λ (s : Shape). s.name) (built a).subs ≡ names → (words : List Text) (met : Met)
    → subcommand_of a words ≡ Some met → IsOneOf names met.0
met_among a names are words met e =
    let stop = stop_after (built a).top.rules (names_of (built a)) (argument_words a words) in
    subst (λ all. IsOneOf all met.0) are (named_by (built a).subs stop met e)

-- -- what the clauses of the parse say of the program's arguments

module _ (command : Command) (words : List Text) (is : app_of command ≡ d64sh) where
  pub command_is_free : is_simple_and_free (app_of command) ≡ true
  command_is_free = ap is_simple_and_free is ∙ simple_and_free

  pub subcommand_is : (m : ArgMatches) → HasMatchesOf (app_of command) words m → subcommand_rows_of m ≡ subcommand_of d64sh words
  subcommand_is m has = (has (ap is_simple is ∙ simple)).1 ∙ ap (λ a. subcommand_of a words) is

  pub met_is : (m : ArgMatches) → HasMatchesOf (app_of command) words m → (name : Text) (rows : List Row) → Some name ≡ subcommand_name_of m
      → Some rows ≡ option_map (λ (p : Text × List Row). p.1) (subcommand_rows (out-ArgMatches m).subcommand) → subcommand_of d64sh words ≡ Some (name, rows)
  met_is m has name rows is_name is_rows = sym (subcommand_is m has) ∙ both_parts _ _ (out-ArgMatches m).subcommand name rows is_name is_rows

  pub no_fault : fault_of (app_of command) words ≡ [] → fault_of d64sh words ≡ []
  no_fault none = sym (ap (λ a. fault_of a words) is) ∙ none

-- the name of what is met, by another that is equal
pub met_as : (words : List Text) {name other : Text} {rows : List Row} → subcommand_of d64sh words ≡ Some (name, rows) → other ≡ name
    → subcommand_of d64sh words ≡ Some (other, rows)
met_as words {rows = rows} is same = is ∙ ap (λ name. Some (name, rows)) (sym same)

-- clap's error is reported
pub reported : (words : List Text) (error : Error) (fault : JobFault) → HasKind (fault_of d64sh words) error → IsFaultOfKind (kind_of error) fault → IsFault words fault
reported words error (Arguments carried) kind is =
    elim kind [ inl memory ↦ absurd (is.1 memory) | inr among ↦ subst (λ k. IsAmong k (fault_of d64sh words) × (k ≢ OutOfMemory)) (sym is.0) (among, is.1) ]
reported words error Start kind is = absurd is
reported words error Memory kind is = tt
reported words error Tracks kind is = absurd is
reported words error Both kind is = absurd is
reported words error Format kind is = absurd is
reported words error Names kind is = absurd is
reported words error Null kind is = absurd is
reported words error Picture kind is = absurd is
reported words error Difference kind is = absurd is
reported words error Folder kind is = absurd is
reported words error Title kind is = absurd is
reported words error Links kind is = absurd is
reported words error Output kind is = absurd is
reported words error Dumps kind is = absurd is

-- the job of the subcommand is the job of the arguments
module _ (words : List Text) (met : Met) (none : fault_of d64sh words ≡ []) (is : subcommand_of d64sh words ≡ Some met) where
  pub asked : (job : Job) → IsJobOf met job → IsJob words job
  asked job asks = (none, subst (λ o. IsSomeAnd o (λ m. IsJobOf m job)) (sym is) asks)

  pub refused : (fault : JobFault) → IsFaultOf met fault → IsFault words fault
  refused (Arguments error) asks = absurd asks
  refused Start asks = (none, subst (λ o. IsSomeAnd o (λ m. IsFaultOf m Start)) (sym is) asks)
  refused Memory asks = tt
  refused Tracks asks = (none, subst (λ o. IsSomeAnd o (λ m. IsFaultOf m Tracks)) (sym is) asks)
  refused Both asks = (none, subst (λ o. IsSomeAnd o (λ m. IsFaultOf m Both)) (sym is) asks)
  refused Format asks = (none, subst (λ o. IsSomeAnd o (λ m. IsFaultOf m Format)) (sym is) asks)
  refused Names asks = (none, subst (λ o. IsSomeAnd o (λ m. IsFaultOf m Names)) (sym is) asks)
  refused Null asks = (none, subst (λ o. IsSomeAnd o (λ m. IsFaultOf m Null)) (sym is) asks)
  refused Picture asks = (none, subst (λ o. IsSomeAnd o (λ m. IsFaultOf m Picture)) (sym is) asks)
  refused Difference asks = (none, subst (λ o. IsSomeAnd o (λ m. IsFaultOf m Difference)) (sym is) asks)
  refused Folder asks = (none, subst (λ o. IsSomeAnd o (λ m. IsFaultOf m Folder)) (sym is) asks)
  refused Title asks = (none, subst (λ o. IsSomeAnd o (λ m. IsFaultOf m Title)) (sym is) asks)
  refused Links asks = (none, subst (λ o. IsSomeAnd o (λ m. IsFaultOf m Links)) (sym is) asks)
  refused Output asks = (none, subst (λ o. IsSomeAnd o (λ m. IsFaultOf m Output)) (sym is) asks)
  refused Dumps asks = (none, subst (λ o. IsSomeAnd o (λ m. IsFaultOf m Dumps)) (sym is) asks)

pub error_reported : {T : Type 0} (r : Result T JobFault) (P Q : JobFault → Type 0) → ((fault : JobFault) → P fault → Q fault) → IsErrAnd r P → IfErr r Q
error_reported (Ok job) P Q f is = tt
error_reported (Err fault) P Q f is = f fault is
