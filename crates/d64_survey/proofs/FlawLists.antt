-- Why a file is not whole, flaw after flaw.
use Rattle.std.proofs.Common.{◌≡◌, ℕ, ◌&&◌, not, Bool, true, false, cond, List, [], ◌++◌, Option, sym, ap, ◌∙◌, append_assoc}
use Rattle.d64_files.specs.Slot.{is_closed, has_kind}
use Rattle.d64_survey.specs.SlotBlocks.{slot_blocks}
use Rattle.d64_survey.specs.Flaws.{is_del_entry, is_geos, is_broken, any_shared, any_unreadable, is_missized, where_flawed, why}
use Rattle.d64_survey.specs.declared.flaw.Flaw.{Flaw}
use Rattle.d64_survey.specs.declared.flaw.Flaw.TheVariants.{Unclosed, Kindless, Broken, Shared, Unreadable, Missized, Geos}

-- the flaws that are there
abbrev listed : Bool → Bool → Bool → Bool → Bool → Bool → Bool → List Flaw
listed a b c d e f g =
    where_flawed a Unclosed ++ (where_flawed b Kindless ++ (where_flawed c Broken ++ (where_flawed d Shared ++ (where_flawed e Unreadable ++ (where_flawed f Missized
    ++ where_flawed g Geos)))))

-- the flaws of a file that are there
abbrev flaws_of : List (List ℕ) → Option (List ℕ) → List ℕ → List Flaw
flaws_of image codes cell =
    listed (not (is_closed cell)) (not (has_kind cell)) (is_broken image cell) (any_shared image (slot_blocks image cell)) (any_unreadable codes (slot_blocks image cell))
    (not (is_geos image cell) && is_missized image cell) (is_geos image cell)

-- an entry that marks a deleted file has no flaw
pub none_of_deleted : (image : List (List ℕ)) (codes : Option (List ℕ)) (cell : List ℕ) (list : List Flaw) → list ≡ [] → is_del_entry cell ≡ true → list ≡ why image codes cell
unfolding why
none_of_deleted image codes cell list none deleted = none ∙ sym (ap (λ (t : Bool). cond t [] (flaws_of image codes cell)) deleted)

-- another one has those
others_have : (image : List (List ℕ)) (codes : Option (List ℕ)) (cell : List ℕ) → is_del_entry cell ≡ false → flaws_of image codes cell ≡ why image codes cell
unfolding why
others_have image codes cell other = sym (ap (λ (t : Bool). cond t [] (flaws_of image codes cell)) other)

-- a list and what comes after it, before the rest
then_rest : (list longer more rest : List Flaw) → longer ≡ list ++ more → longer ++ rest ≡ list ++ (more ++ rest)
then_rest list longer more rest e = ap (λ (l : List Flaw). l ++ rest) e ∙ append_assoc list more rest

-- flaws, one after another
one_by_one : (none l1 l2 l3 l4 l5 l6 l7 : List Flaw) (a b c d e f g : Bool) → none ≡ [] → l1 ≡ none ++ where_flawed a Unclosed → l2 ≡ l1 ++ where_flawed b Kindless
    → l3 ≡ l2 ++ where_flawed c Broken → l4 ≡ l3 ++ where_flawed d Shared → l5 ≡ l4 ++ where_flawed e Unreadable → l6 ≡ l5 ++ where_flawed f Missized
    → l7 ≡ l6 ++ where_flawed g Geos → l7 ≡ listed a b c d e f g
one_by_one none l1 l2 l3 l4 l5 l6 l7 a b c d e f g h h1 h2 h3 h4 h5 h6 h7 =
    let r7 = where_flawed g Geos in
    let r6 = where_flawed f Missized ++ r7 in
    let r5 = where_flawed e Unreadable ++ r6 in
    let r4 = where_flawed d Shared ++ r5 in
    let r3 = where_flawed c Broken ++ r4 in
    let r2 = where_flawed b Kindless ++ r3 in
    h7 ∙ then_rest l5 l6 (where_flawed f Missized) r7 h6 ∙ then_rest l4 l5 (where_flawed e Unreadable) r6 h5 ∙ then_rest l3 l4 (where_flawed d Shared) r5 h4
    ∙ then_rest l2 l3 (where_flawed c Broken) r4 h3 ∙ then_rest l1 l2 (where_flawed b Kindless) r3 h2 ∙ then_rest none l1 (where_flawed a Unclosed) r2 h1
    ∙ ap (λ (l : List Flaw). l ++ (where_flawed a Unclosed ++ r2)) h

-- what is reported about a file
pub record Shown (image : List (List ℕ)) (codes : Option (List ℕ)) (cell : List ℕ) (a b c d e f g : Bool) : Type 0 where
  pub closed : a ≡ not (is_closed cell)
  pub kind : b ≡ not (has_kind cell)
  pub broken : c ≡ is_broken image cell
  pub shared : d ≡ any_shared image (slot_blocks image cell)
  pub unreadable : e ≡ any_unreadable codes (slot_blocks image cell)
  pub missized : f ≡ (not (is_geos image cell) && is_missized image cell)
  pub geos : g ≡ is_geos image cell

shown_are : (image : List (List ℕ)) (codes : Option (List ℕ)) (cell : List ℕ) (a b c d e f g : Bool) → Shown image codes cell a b c d e f g
    → listed a b c d e f g ≡ flaws_of image codes cell
shown_are image codes cell a b c d e f g t =
    ap (λ (x : Bool). listed x b c d e f g) t.closed
    ∙ ap (λ (x : Bool). listed (not (is_closed cell)) x c d e f g) t.kind
    ∙ ap (λ (x : Bool). listed (not (is_closed cell)) (not (has_kind cell)) x d e f g) t.broken
    ∙ ap (λ (x : Bool). listed (not (is_closed cell)) (not (has_kind cell)) (is_broken image cell) x e f g) t.shared
    ∙ ap (λ (x : Bool). listed (not (is_closed cell)) (not (has_kind cell)) (is_broken image cell) (any_shared image (slot_blocks image cell)) x f g) t.unreadable
    ∙ ap (λ (x : Bool). listed (not (is_closed cell)) (not (has_kind cell)) (is_broken image cell) (any_shared image (slot_blocks image cell))
    (any_unreadable codes (slot_blocks image cell)) x g) t.missized
    ∙ ap (λ (x : Bool). listed (not (is_closed cell)) (not (has_kind cell)) (is_broken image cell) (any_shared image (slot_blocks image cell))
    (any_unreadable codes (slot_blocks image cell)) (not (is_geos image cell) && is_missized image cell) x) t.geos

-- the flaws of a file, one after another
pub all_flaws : (image : List (List ℕ)) (codes : Option (List ℕ)) (cell : List ℕ) (none l1 l2 l3 l4 l5 l6 l7 : List Flaw) (a b c d e f g : Bool)
    → is_del_entry cell ≡ false → Shown image codes cell a b c d e f g → none ≡ [] → l1 ≡ none ++ where_flawed a Unclosed → l2 ≡ l1 ++ where_flawed b Kindless
    → l3 ≡ l2 ++ where_flawed c Broken → l4 ≡ l3 ++ where_flawed d Shared → l5 ≡ l4 ++ where_flawed e Unreadable → l6 ≡ l5 ++ where_flawed f Missized
    → l7 ≡ l6 ++ where_flawed g Geos → l7 ≡ why image codes cell
all_flaws image codes cell none l1 l2 l3 l4 l5 l6 l7 a b c d e f g other shown h h1 h2 h3 h4 h5 h6 h7 =
    one_by_one none l1 l2 l3 l4 l5 l6 l7 a b c d e f g h h1 h2 h3 h4 h5 h6 h7 ∙ shown_are image codes cell a b c d e f g shown ∙ others_have image codes cell other
