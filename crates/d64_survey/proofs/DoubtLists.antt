-- What makes an image doubtful, doubt after doubt.
use Rattle.std.proofs.Common.{◌≡◌, ℕ, ◌||◌, Bool, List, [], ◌++◌, ap, ◌∙◌, append_assoc}
use Rattle.d64_map.specs.Map.{map_block}
use Rattle.d64_files.specs.Directory.{directory_start}
use Rattle.d64_survey.specs.Doubts.{has_other_version, is_blank, has_strays, has_filler, where_doubted, doubts}
use Rattle.d64_survey.specs.declared.doubt.Doubt.{Doubt}
use Rattle.d64_survey.specs.declared.doubt.Doubt.TheVariants.{Version, Blank, Unowned, Filler}

-- the doubts that are there
abbrev listed : Bool → Bool → Bool → Bool → List Doubt
listed a b c d = where_doubted a Version ++ (where_doubted b Blank ++ (where_doubted c Unowned ++ where_doubted d Filler))

-- the map's block is blank, or the directory's first one
abbrev pub are_blank : List (List ℕ) → Bool
are_blank image = is_blank image map_block || is_blank image directory_start

-- a list and what comes after it, before the rest
then_rest : (list longer more rest : List Doubt) → longer ≡ list ++ more → longer ++ rest ≡ list ++ (more ++ rest)
then_rest list longer more rest e = ap (λ (l : List Doubt). l ++ rest) e ∙ append_assoc list more rest

-- doubts, one after another
one_by_one : (none l1 l2 l3 l4 : List Doubt) (a b c d : Bool) → none ≡ [] → l1 ≡ none ++ where_doubted a Version → l2 ≡ l1 ++ where_doubted b Blank
    → l3 ≡ l2 ++ where_doubted c Unowned → l4 ≡ l3 ++ where_doubted d Filler → l4 ≡ listed a b c d
one_by_one none l1 l2 l3 l4 a b c d h h1 h2 h3 h4 =
    let r4 = where_doubted d Filler in
    let r3 = where_doubted c Unowned ++ r4 in
    let r2 = where_doubted b Blank ++ r3 in
    h4 ∙ then_rest l2 l3 (where_doubted c Unowned) r4 h3 ∙ then_rest l1 l2 (where_doubted b Blank) r3 h2 ∙ then_rest none l1 (where_doubted a Version) r2 h1
    ∙ ap (λ (l : List Doubt). l ++ (where_doubted a Version ++ r2)) h

-- what is found in an image
pub record Found (image : List (List ℕ)) (a b c d : Bool) : Type 0 where
  pub version : a ≡ has_other_version image
  pub blank : b ≡ are_blank image
  pub strays : c ≡ has_strays image
  pub filler : d ≡ has_filler image

found_are : (image : List (List ℕ)) (a b c d : Bool) → Found image a b c d → listed a b c d ≡ doubts image
unfolding doubts
found_are image a b c d found =
    ap (λ (t : Bool). listed t b c d) found.version
    ∙ ap (λ (t : Bool). listed (has_other_version image) t c d) found.blank
    ∙ ap (λ (t : Bool). listed (has_other_version image) (are_blank image) t d) found.strays
    ∙ ap (λ (t : Bool). listed (has_other_version image) (are_blank image) (has_strays image) t) found.filler

-- and so all doubts are listed
pub all_doubts : (image : List (List ℕ)) (none l1 l2 l3 l4 : List Doubt) (a b c d : Bool) → Found image a b c d → none ≡ [] → l1 ≡ none ++ where_doubted a Version
    → l2 ≡ l1 ++ where_doubted b Blank → l3 ≡ l2 ++ where_doubted c Unowned → l4 ≡ l3 ++ where_doubted d Filler → l4 ≡ doubts image
all_doubts image none l1 l2 l3 l4 a b c d found h h1 h2 h3 h4 = one_by_one none l1 l2 l3 l4 a b c d h h1 h2 h3 h4 ∙ found_are image a b c d found
