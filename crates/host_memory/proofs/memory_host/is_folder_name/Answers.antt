use Rattle.std.proofs.Common.{◌≡◌, ◌≢◌, ℕ, List, ◌++◌, ◌∷◌, [], ap, sym, subst, ◌∙◌, arith}
use Rattle.std.specs.Prelude.{MatchOption}
use Rattle.std.proofs.lemmas.List.{append_cancel_right}
use Rattle.std.proofs.lemmas.Str.Pattern.{strip_suffix_char}
use Rattle.std.proofs.lemmas.Slice.Eq.{bytes_eq-Decides}
use Rattle.host_memory.proofs.memory_host.is_folder_name.Goals as goal

-- the part before the slash is the path, or the name is another one
pub returns-in-Some : goal.returns-in-Some
returns-in-Some c =
    let known = strip_suffix_char 47 c.args.name.now c.strip_suffix.result c.strip_suffix.ensures.cases (omega arith) in
    let whole : c.args.name.now ≡ c.in-Some.folder.now ++ 47 ∷ [] = subst (λ r. MatchOption r ((front : List ℕ) → c.args.name.now ≢ front ++ 47 ∷ []) (λ rest. c.args.name.now ≡ rest.now ++ 47 ∷ [])) c.in-Some.is known in
    let same = bytes_eq-Decides c.in-Some.folder.now c.args.path.now in (
      λ is. whole ∙ ap (λ folder. folder ++ 47 ∷ []) (same.0 (sym c.eq.ensures ∙ is)),
      λ is. c.eq.ensures ∙ same.1 (append_cancel_right _ _ (47 ∷ []) (sym whole ∙ is)),
    )
