-- A positional argument has a value in each row of it that a walk over the arguments makes.
use Rattle.std.proofs.Common.{◌≡◌, ◌∙◌, ◌&&◌, ◌||◌, ◌++◌, ◌+◌, ℕ, min, Bool, cond, true, false, not, zero, suc, refl, sym, ap, List, [], ◌∷◌, length, Option, Some, None, is_some, true≢false}
use Rattle.std.specs.Prelude.{IsSome, option_and_then, slice_get, ⊤}
use Rattle.std.specs.List.{find, fold, list_all}
use Rattle.std.specs.Option.{option_map_or}
use Rattle.std.specs.Str.{bytes_eq, chars}
use Rattle.std.proofs.lemmas.Bool.{not-true}
use Rattle.std.proofs.lemmas.Slice.Eq.{bytes_eq-Decides}
use Rattle.clap.specs.Facts.{explicit_source}
use Rattle.clap.specs.Matches.{count_text}
use Rattle.clap.specs.Takes.{is_given}
use Rattle.clap.specs.Walk.{Held, Names, Outcome, Row, Rule, Step, Text, Waiting, Walk, action_of, after_flag, after_step, arg_by_id, arg_by_index, arg_by_long, arg_by_short, at_row, attached_value, bundle_met, bundle_step, count_of, counted, default_rows, done, first_of, flag_met, has_long, has_row, has_short, idle, is_pending, long_met, long_or_other, more_values, new_count, next, nothing_held, option, option_met, option_word, plain, plain_word, positional, pushed, reacted, reading_by, refused, rows_after, settled, settled_rows, short_met, short_or_plain, started, subcommand, subcommand_met, subcommand_or_other, takes_several, takes_values, to_positional, trailing, used, used_as, used_by_id, value, values_or_missing, waits, walk, walk_from, walked, walked_from, with_count, with_default, with_values, word_met}
use Rattle.clap.specs.Lexer.{long_of, short_of}
use Rattle.clap.specs.declared.builder.action.ArgAction.{ArgAction}
use Rattle.clap.specs.declared.builder.action.ArgAction.TheVariants as action
use Rattle.clap.specs.declared.builder.value_parser.Reading.{Reading}
use Rattle.clap.specs.declared.parser.matches.ValueSource.{ValueSource}
use Rattle.clap.specs.declared.parser.matches.ValueSource.TheVariants.{CommandLine, DefaultValue}
use Rattle.clap.proofs.WalkLemmas.{both}
use Rattle.program_arguments.proofs.Parses.{none≢some, same_Some}

-- there is a value
abbrev pub IsFilled : List Text → Type 0
IsFilled [] = ⊥
IsFilled (v ∷ vs) = ⊤

filled_before : (xs ys : List Text) → IsFilled xs → IsFilled (xs ++ ys)
filled_before [] ys is = absurd is
filled_before (x ∷ xs) ys is = tt

filled_after : (xs : List Text) (y : Text) → IsFilled (xs ++ y ∷ [])
filled_after [] y = tt
filled_after (x ∷ xs) y = tt

-- what is found passes the test
pub found_passes : {X : Type 0} (p : X → Bool) (xs : List X) (x : X) → find p xs ≡ Some x → p x ≡ true
found_passes p [] x e = absurd (none≢some x e)
found_passes p (y ∷ ys) x e = go (found_passes p ys x) (p y) refl e
  where
    go : (find p ys ≡ Some x → p x ≡ true) → (t : Bool) → p y ≡ t → cond t (Some y) (find p ys) ≡ Some x → p x ≡ true
    go later true t e = ap p (sym (same_Some y x e)) ∙ t
    go later false t e = later e

pub found_all : {X : Type 0} (p q : X → Bool) (xs : List X) (x : X) → list_all q xs ≡ true → find p xs ≡ Some x → q x ≡ true
found_all p q [] x all e = absurd (none≢some x e)
found_all p q (y ∷ ys) x all e =
    let parts = both (q y) (list_all q ys) all in
    go parts.0 (found_all p q ys x parts.1) (p y) e
  where
    go : q y ≡ true → (find p ys ≡ Some x → q x ≡ true) → (t : Bool) → cond t (Some y) (find p ys) ≡ Some x → q x ≡ true
    go here later true e = ap q (sym (same_Some y x e)) ∙ here
    go here later false e = later e

-- the argument of this id is a place
abbrev pub is_place : Text → Rule → Bool
is_place id rule = is_some rule.index || not (bytes_eq rule.id id)

module _ (id : Text) where
  -- values of the argument are some
  abbrev pub Fills : Text → List Text → Type 0
  Fills name values = bytes_eq name id ≡ true → IsFilled values

  -- so are those of each of its rows
  abbrev pub Full : List Row → Type 0
  Full [] = ⊤
  Full (row ∷ rows) = Fills row.id row.values × Full rows

  abbrev Waits : Option (Text × List Text) → Type 0
  Waits None = ⊤
  Waits (Some p) = Fills p.0 p.1

  abbrev IsFull : Held → Type 0
  IsFull held = Full held.rows × Waits held.pending

  append_full : (xs ys : List Row) → Full xs → Full ys → Full (xs ++ ys)
  append_full [] ys xs-full ys-full = ys-full
  append_full (x ∷ xs) ys xs-full ys-full = (xs-full.0, append_full xs ys xs-full.1 ys-full)

  at_row_full : (name : Text) (change : Row → List Row) (missing : List Row)
      → ((row : Row) → Fills row.id row.values → Full (change row)) → Full missing
      → (rows : List Row) → Full rows → Full (at_row name change missing rows)
  at_row_full name change missing changed none [] full = none
  at_row_full name change missing changed none (row ∷ rows) full =
      go (append_full (change row) rows (changed row full.0) full.1) (full.0, at_row_full name change missing changed none rows full.1) (bytes_eq row.id name)
    where
      go : Full (change row ++ rows) → Full (row ∷ at_row name change missing rows) → (t : Bool)
          → Full (cond t (change row ++ rows) (row ∷ at_row name change missing rows))
      go here later true = here
      go here later false = later

  without_full : (name : Text) (rows : List Row) → Full rows → Full (at_row name (λ _. []) [] rows)
  without_full name rows full = at_row_full name (λ _. []) [] (λ row filled. tt) tt rows full

  values_full : (name : Text) (how : Reading) (source : ValueSource) (values : List Text) (rows : List Row)
      → Fills name values → Full rows → Full (with_values name how source values rows)
  values_full name how source values rows filled full =
      at_row_full name (more_values source values) _ (λ row has. ((λ is. filled_before row.values values (has is)), tt)) (filled, tt) rows full

  count_full : (name : Text) (how : Reading) (source : ValueSource) (n : ℕ) (rows : List Row)
      → Full rows → Full (with_count name how source n rows)
  count_full name how source n rows full =
      at_row_full name (new_count source n) _ (λ row has. ((λ is. filled_after row.values (count_text n)), tt)) ((λ is. tt), tt) rows full

  counted_full : (name : Text) (how : Reading) (values : List Text) (rows : List Row) → Full rows → Full (counted name how values rows)
  counted_full name how [] rows full = count_full name how CommandLine (min (count_of name rows + 1) 255) _ (without_full name rows full)
  counted_full name how (v ∷ vs) rows full = values_full name how CommandLine (v ∷ vs) _ (λ is. tt) (without_full name rows full)

  used_as_full : (act : ArgAction) (name : Text) (how : Reading) (values : List Text) (rows : List Row)
      → Fills name values → Full rows → Full (used_as act name how values rows)
  used_as_full action.Set name how values rows filled full = values_full name how CommandLine values _ filled (without_full name rows full)
  used_as_full action.SetTrue name how values rows filled full = values_full name how CommandLine values _ filled (without_full name rows full)
  used_as_full action.SetFalse name how values rows filled full = values_full name how CommandLine values _ filled (without_full name rows full)
  used_as_full action.Append name how values rows filled full = values_full name how CommandLine values rows filled full
  used_as_full action.Count name how values rows filled full = counted_full name how values rows full
  used_as_full action.Help name how values rows filled full = full
  used_as_full action.HelpShort name how values rows filled full = full
  used_as_full action.HelpLong name how values rows filled full = full
  used_as_full action.Version name how values rows filled full = full

  or_missing : (a : Rule) (values : List Text) → Fills a.id values → Fills a.id (values_or_missing a values)
  or_missing a [] filled = λ is. absurd (filled is)
  or_missing a (v ∷ vs) filled = λ is. tt

  used_full : (a : Rule) (values : List Text) (rows : List Row) → Fills a.id values → Full rows → Full (used a values rows)
  used_full a values rows filled full = used_as_full (action_of a) a.id _ (values_or_missing a values) rows (or_missing a values filled) full

  module _ (c : List Rule) (places : list_all (is_place id) c ≡ true) where
    settled_full : (h : Held) → IsFull h → Full (settled c h).rows
    settled_full h full = go h.pending full.1
      where
        by_id : (name : Text) (values : List Text) → Fills name values → (found : Option Rule) → arg_by_id c name ≡ found → Full (used_by_id found values h.rows)
        by_id name values filled None at = full.0
        by_id name values filled (Some a) at =
            let same : a.id ≡ name = (bytes_eq-Decides a.id name).0 (found_passes _ c a at) in
            used_full a values h.rows (λ is. filled (ap (λ t. bytes_eq t id) (sym same) ∙ is)) full.0

        go : (pending : Option (Text × List Text)) → Waits pending → Full (settled_rows c pending h.rows)
        go None filled = full.0
        go (Some p) filled = by_id p.0 p.1 filled (arg_by_id c p.0) refl

    reacted_full : (a : Rule) (values : List Text) (h : Held) → Fills a.id values → IsFull h → IsFull (reacted c a values h)
    reacted_full a values h filled full = (used_full a values _ filled (settled_full h full), tt)

    pushed_full : (name word : Text) (h : Held) → Full h.rows → IsFull (pushed name word h)
    pushed_full name word h full = (full, λ is. filled_after (started name h.pending).1 word)

    -- an option isn't the argument
    is_other : (a : Rule) → not (is_some a.index) ≡ true → is_place id a ≡ true → (values : List Text) → Fills a.id values
    is_other a no_index place values is = absurd (true≢false (sym place ∙ rw (not-true (is_some a.index) no_index, is) refl))

    option_full : (a : Rule) (v : Option Text) (h : Held) → ((values : List Text) → Fills a.id values) → IsFull h → IsFull (option_met c a v h).0
    option_full a (Some v) h other full = reacted_full a (v ∷ []) h (λ is. tt) full
    option_full a None h other full = (settled_full h full, other [])

    flag_full : (a : Rule) (v : Option Text) (h : Held) → ((values : List Text) → Fills a.id values) → IsFull h → IsFull (flag_met c a v h).0
    flag_full a (Some v) h other full = full
    flag_full a None h other full = reacted_full a [] h (other []) full

    other_by : (p : Rule → Bool) (a : Rule) → find (λ rule. not (is_some rule.index) && p rule) c ≡ Some a → (values : List Text) → Fills a.id values
    other_by p a at = is_other a (both (not (is_some a.index)) (p a) (found_passes _ c a at)).0 (found_all _ (is_place id) c a places at)

    long_full : (found : Option Rule) (v : Option Text) (h : Held) → ((a : Rule) → found ≡ Some a → (values : List Text) → Fills a.id values)
        → IsFull h → IsFull (long_met c found v h).0
    long_full None v h other full = full
    long_full (Some a) v h other full = go (takes_values a)
      where
        go : (t : Bool) → IsFull (cond t (option_met c a v h) (flag_met c a v h)).0
        go true = option_full a v h (other a refl) full
        go false = flag_full a v h (other a refl) full

    short_full : (found : Option Rule) (rest : Text) (h : Held) (after : Held → Held × Outcome) → ((a : Rule) → found ≡ Some a → (values : List Text) → Fills a.id values)
        → ((k : Held) → IsFull k → IsFull (after k).0) → IsFull h → IsFull (short_met c found rest h after).0
    short_full None rest h after other keeps full = full
    short_full (Some a) rest h after other keeps full = go (takes_values a)
      where
        go : (t : Bool) → IsFull (cond t (option_met c a (attached_value rest) h) (after (reacted c a [] h))).0
        go true = option_full a (attached_value rest) h (other a refl) full
        go false = keeps (reacted c a [] h) (reacted_full a [] h (other a refl []) full)

    bundle_met_full : (k : ℕ) (flags : Text) (skip : ℕ) (so_far : Outcome) (h : Held) → IsFull h → IsFull (bundle_met c k flags skip so_far h).0
    unfolding bundle_met
    bundle_met_full zero flags skip so_far h full = full
    bundle_met_full (suc k) flags skip so_far h full = go (bundle_met_full k) (slice_get (chars flags) 0) skip
      where
        go : ((rest : Text) (skip : ℕ) (so_far : Outcome) (held : Held) → IsFull held → IsFull (bundle_met c k rest skip so_far held).0)
            → (first : Option ℕ) (skip : ℕ) → IsFull (bundle_step c first flags skip so_far h (bundle_met c k)).0
        go later None skip = full
        go later (Some x) (suc skip) = later _ skip so_far h full
        go later (Some x) zero =
            short_full (arg_by_short c x) _ h _ (λ a at. other_by (λ rule. has_short rule x) a at) (λ held held-full. later _ 0 done held held-full) full

    plain_full : (waiting : Waiting) (word : Text) (h : Held) → IsFull h → IsFull (plain_word c waiting word h).0
    plain_full idle word h full = full
    plain_full positional word h full = full
    plain_full (option name) word h full = go (arg_by_id c name)
      where
        go : (found : Option Rule) → IsFull (option_word found name word h).0
        go None = full
        go (Some a) = pushed_full name word h full.0

    after_flag_full : (waiting : Waiting) (word : Text) (h : Held) (came : Outcome) → IsFull h → IsFull (after_flag c waiting word h came).0
    after_flag_full waiting word h done full = full
    after_flag_full waiting word h (waits name) full = full
    after_flag_full waiting word h plain full = plain_full waiting word h full
    after_flag_full waiting word h refused full = plain_full waiting word h full

    word_full : (names : Names) (is_trailing : Bool) (waiting : Waiting) (position : ℕ) (word : Text) (h : Held) → IsFull h
        → IsFull (word_met c names is_trailing waiting position word h).0
    word_full names true waiting position word h full = full
    word_full names false waiting position word h full = named (subcommand_met names waiting word)
      where
        short : (flags : Option Text) → IsFull (short_or_plain c waiting word flags h).0
        short (Some flags) = after_flag_full waiting word _ _ (bundle_met_full (length flags) flags h.skip plain _ full)
        short None = plain_full waiting word h full

        long : (parts : Option (Text × Option Text)) → IsFull (long_or_other c waiting word parts h).0
        long (Some p) = after_flag_full waiting word _ _ (long_full (arg_by_long c p.0) p.1 h (λ a at. other_by (λ rule. has_long rule p.0) a at) full)
        long None = short (short_of word)

        dashes : (t : Bool) → IsFull (cond t (h, trailing position) (long_or_other c waiting word (long_of word) h)).0
        dashes true = full
        dashes false = long (long_of word)

        named : (met : Option Text) → IsFull (subcommand_or_other c met waiting position word h).0
        named (Some name) = full
        named None = dashes (bytes_eq word (45 ∷ 45 ∷ []))

    placed_full : (found : Option Rule) (word : Text) (w : Walk) (h : Held) → IsFull h → IsFull (to_positional c found word w h).held
    placed_full None word w h full = full
    placed_full (Some a) word w h full = go (is_pending a h.pending && takes_several a)
      where
        go : (t : Bool) → IsFull (pushed a.id word (cond t h (settled c h)))
        go true = pushed_full a.id word h full.0
        go false = pushed_full a.id word (settled c h) (settled_full h full)

    step_full : (word : Text) (w : Walk) (h : Held) (step : Step) → IsFull h → IsFull (after_step c word w h step).held
    step_full word w h (next waiting) full = full
    step_full word w h (trailing position) full = full
    step_full word w h (subcommand name) full = full
    step_full word w h value full = placed_full (arg_by_index c w.position) word w h full

    walked_full : (names : Names) (w : Walk) (word : Text) → IsFull w.held → IsFull (walked c names w word).held
    unfolding walked
    walked_full names w word full = go w.stopped
      where
        go : (stopped : Option (Text × List Text)) → IsFull (walked_from c names stopped w word).held
        go (Some p) = full
        go None = step_full word w _ _ (word_full names w.is_trailing w.waiting w.position word w.held full)

    walk_full : (names : Names) (w : Walk) (words : List Text) → IsFull w.held → IsFull (fold (walked c names) w words).held
    walk_full names w [] full = full
    walk_full names w (word ∷ words) full = walk_full names (walked c names w word) words (walked_full names w word full)

    defaults_full : (rules : List Rule) (rows : List Row) → Full rows → Full (fold with_default rows rules)
    defaults_full [] rows full = full
    defaults_full (a ∷ rules) rows full = defaults_full rules (with_default rows a) (go (has_row a.id rows))
      where
        given : (values : List Text) → Full (default_rows a.id (reading_by a) values rows)
        given [] = full
        given (v ∷ vs) = values_full a.id _ DefaultValue (v ∷ vs) rows (λ is. tt) full

        go : (t : Bool) → Full (cond t rows (default_rows a.id (reading_by a) a.defaults rows))
        go true = full
        go false = given a.defaults

    pub rows_full : (words : List Text) → Full (rows_after c [] words)
    rows_full words = defaults_full c _ (settled_full (walk c [] nothing_held words).held (walk_full [] (walk_from nothing_held) words (tt, tt)))

  -- an argument that is given has a value
  pub has_value : (rows : List Row) → Full rows → is_given id rows ≡ true → IsSome (first_of id rows)
  has_value [] full given = absurd (true≢false (sym given))
  has_value (row ∷ rows) full given = go (has_value rows full.1) (bytes_eq row.id id) refl given
    where
      value_of : (values : List Text) → IsFilled values → IsSome (slice_get values 0)
      value_of [] filled = absurd filled
      value_of (v ∷ vs) filled = refl

      go : (is_given id rows ≡ true → IsSome (first_of id rows)) → (t : Bool) → bytes_eq row.id id ≡ t
          → option_map_or (λ (r : Row). explicit_source r.source) (cond t (Some row) (find (λ r. bytes_eq r.id id) rows)) false ≡ true
          → IsSome (option_and_then (λ (r : Row). slice_get r.values 0) (cond t (Some row) (find (λ r. bytes_eq r.id id) rows)))
      go later true same given = value_of row.values (full.0 same)
      go later false other given = later given
