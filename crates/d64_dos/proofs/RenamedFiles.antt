-- when a renaming is refused, from the slot that was found
use Rattle.std.proofs.Common.{◌≡◌, ℕ, ◌+◌, ◌||◌, Bool, true, false, cond, List, [], ◌∷◌, Option, Some, None, refl, sym, ap, ap₂, ◌∙◌}
use Rattle.std.specs.Prelude.{is_some, position, option_map}
use Rattle.std.specs.List.{list_any, position_from}
use Rattle.std.specs.Option.{option_or}
use Rattle.std.proofs.lemmas.Iterator.Adapters.{position_from-zero}
use Rattle.d64_files.specs.Directory.{slots, has_name, is_name_taken}
use Rattle.d64_files.specs.FirstFault.{first_fault, sound_conditions}
use Rattle.d64_effects.specs.Rename.{first_of_name}
use Rattle.d64_files.specs.declared.dir_fault.DirFault.{DirFault}
use Rattle.d64_dos.specs.FileRefusals.{rename_refusal}
use Rattle.d64_dos.specs.declared.refusal.Refusal.TheVariants.{NotFound, Exists, Directory}

-- a slot passes if there is a first one that does
any_from : (test : List ℕ → Bool) (n : ℕ) (cells : List (List ℕ)) → list_any test cells ≡ is_some (position_from test n cells)
any_from test n [] = refl
any_from test n (cell ∷ cells) = by_test (test cell) (any_from test (n + 1) cells)
  where
    by_test : (b : Bool) → list_any test cells ≡ is_some (position_from test (n + 1) cells)
        → (b || list_any test cells) ≡ is_some (cond b (Some n) (position_from test (n + 1) cells))
    by_test true later = refl
    by_test false later = later

-- a name is taken if a slot with that name was found
taken_where_found : (name : List ℕ) (cells : List (List ℕ)) (found : Option ℕ) → found ≡ first_of_name name cells
    → is_name_taken name cells ≡ is_some found
taken_where_found name cells found e =
    any_from (has_name name) 0 cells ∙ ap is_some (position_from-zero-is cells ∙ sym e)
  where
    position_from-zero-is : (rows : List (List ℕ)) → position_from (has_name name) 0 rows ≡ position (has_name name) rows
    position_from-zero-is rows = sym (position_from-zero (has_name name) rows)

-- only the names decide on a sound disk
pub refused_by_names : (image : List (List ℕ)) (old new : List ℕ) (found : Option ℕ) (taken : Bool) → None ≡ first_fault image sound_conditions
    → found ≡ first_of_name old (slots image) → taken ≡ is_name_taken new (slots image)
    → cond (is_some found) (cond taken (Some Exists) None) (Some NotFound) ≡ rename_refusal image old new
unfolding rename_refusal
refused_by_names image old new found taken sound first second =
    ap₂ (λ (there here : Bool). cond there (cond here (Some Exists) None) (Some NotFound)) (sym (taken_where_found old (slots image) found first)) second
    ∙ ap (λ (fault : Option DirFault).
    option_or (option_map Directory fault)
    (cond (is_name_taken old (slots image)) (cond (is_name_taken new (slots image)) (Some Exists) None) (Some NotFound))) sound
