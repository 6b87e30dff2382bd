-- What a line crunches to, listed again.
use Rattle.std.proofs.Common.{◌≡◌, ◌≢◌, ℕ, suc, ◌<◌, ◌⊎◌, List, [], ◌∷◌, ◌++◌, Contains, Option, Some, None, refl, sym, ◌∙◌, ap, subst, inl, inr, arith}
use Rattle.std.specs.Option.{option_map_or}
use Rattle.std.specs.List.{flat_map}
use Rattle.cbm_text.specs.declared.mode.Mode.TheVariants.{Free}
use Rattle.cbm_text.specs.Keywords.{keywords, keyword}
use Rattle.cbm_text.specs.Kept.{Opener, QuoteMark, RemWord, DataWord, opening, IsKept}
use Rattle.cbm_text.specs.Pieces.{LinePiece, Kept, Token, Question, Single, written_piece, crunched_piece, ArePieces}
use Rattle.cbm_text.specs.Crunching.{pi, HasNoOpener, TextBegins, AreTextPieces, Crunched}
use Rattle.cbm_text.specs.Listing.{AreCodePieces, Listed}
use Rattle.cbm_text.specs.Laws.{HasNoFreeQuestion, CrunchesOnce, ListsOnce}
use Rattle.cbm_text.specs.Modes.{expanded_bytes}
use Rattle.cbm_text.proofs.Keywords.{token_shown, keyword_below, keyword_past}
use Rattle.cbm_text.proofs.CodesSoFar.{crunched_once}
use Rattle.cbm_text.proofs.LinePieces.{token_no_opener, single_no_opener, modes_of_crunched, listed_by_modes, modes_of_listed}

-- no piece begins a text of no bytes
nothing_begins : (piece : LinePiece) (rest : List ℕ) → ¬ (TextBegins [] piece rest)
unfolding keywords
nothing_begins (Kept QuoteMark run) rest (is, kept) = absurd cc
nothing_begins (Kept RemWord run) rest (is, kept) = absurd cc
nothing_begins (Kept DataWord run) rest (is, kept) = absurd cc
nothing_begins (Token token) rest (none, is) = absurd cc
nothing_begins Question rest is = absurd cc
nothing_begins (Single byte) rest (none, no_token, is, plain, kept) = absurd cc

nothing_cut : (pieces : List LinePiece) (text : List ℕ) → text ≡ [] → AreTextPieces text pieces → pieces ≡ []
unfolding ArePieces
nothing_cut [] text none cut = refl
nothing_cut (piece ∷ pieces) text none (rest, begins, others) = absurd (nothing_begins piece rest (subst (λ (w : List ℕ). TextBegins w piece rest) none begins))

-- what is kept in a text is kept in its crunched bytes
still_kept : (opener : Opener) (run rest : List ℕ) (pieces : List LinePiece) → AreTextPieces rest pieces → IsKept opener run rest → IsKept opener run (flat_map crunched_piece pieces)
still_kept opener run rest pieces cut (inl ends) = inl ends
still_kept opener run rest pieces cut (inr (none, empty)) = inr (none, ap (λ (ps : List LinePiece). flat_map crunched_piece ps) (nothing_cut pieces rest empty cut))

-- a byte that crunches to itself is no token
no_keyword : (byte : ℕ) → (byte ≡ pi) ⊎ (byte < 128) → keyword byte ≡ None
no_keyword byte (inl is) = keyword_past byte (omega arith)
no_keyword byte (inr low) = keyword_below byte low

-- a list has its first element, and what its rest has
first_in : (piece : LinePiece) (pieces : List LinePiece) → Contains (piece ∷ pieces) piece
first_in piece pieces = (0, omega arith, refl)

later_in : (piece other : LinePiece) (pieces : List LinePiece) → Contains pieces other → Contains (piece ∷ pieces) other
later_in piece other pieces (k, within, is) = (suc k, omega arith, is)

-- the pieces of a text without a free `?` are those of its crunched bytes
same_pieces : (pieces : List LinePiece) (text : List ℕ) → AreTextPieces text pieces → ¬ (Contains pieces Question) → AreCodePieces (flat_map crunched_piece pieces) pieces × (text ≡ flat_map written_piece pieces)
unfolding ArePieces
same_pieces [] text none plain = (refl, none)
same_pieces (Kept opener run ∷ pieces) text (rest, (text_is, kept), others) plain =
    let (cut, is) = same_pieces pieces rest others (λ within. plain (later_in (Kept opener run) Question pieces within)) in
    ((flat_map crunched_piece pieces, (refl, still_kept opener run rest pieces others kept), cut), text_is ∙ ap (λ (w : List ℕ). opening opener ++ run ++ w) is)
same_pieces (Token token ∷ pieces) text (rest, (none, found_is), others) plain =
    let (cut, is) = same_pieces pieces rest others (λ within. plain (later_in (Token token) Question pieces within)) in
    let (word, at, joined) = token_shown text token rest found_is in (
      (flat_map crunched_piece pieces, (token_no_opener text token rest none found_is, some word at, refl), cut),
      joined ∙ ap (λ (w : List ℕ). word ++ w) is ∙ ap (λ (o : Option (List ℕ)). option_map_or (λ w. w) o [] ++ flat_map written_piece pieces) (sym at),
    )
  where
    some : (word : List ℕ) → keyword token ≡ Some word → keyword token ≢ None
    some word at none = let never : Some word ≡ None = sym at ∙ none in absurd cc
same_pieces (Question ∷ pieces) text (rest, text_is, others) plain = absurd (plain (first_in Question pieces))
same_pieces (Single byte ∷ pieces) text (rest, (none, no_token, text_is, question, kept), others) plain =
    let (cut, is) = same_pieces pieces rest others (λ within. plain (later_in (Single byte) Question pieces within)) in
    ((flat_map crunched_piece pieces, (single_no_opener byte rest (subst (λ (w : List ℕ). HasNoOpener w) text_is none) kept, no_keyword byte kept, refl), cut), text_is ∙ ap (λ (w : List ℕ). byte ∷ w) is)

pub comes_back : (text codes : List ℕ) → HasNoFreeQuestion text → Crunched text codes → Listed codes text
unfolding Crunched Listed
comes_back text codes plain (pieces, cut, is) =
    let (same, text_is) = same_pieces pieces text cut (plain pieces cut) in
    (pieces, subst (λ (w : List ℕ). AreCodePieces w pieces) (sym is) same, text_is)

-- ---- one way to crunch, and one to list

pub crunches_once : (text : List ℕ) → CrunchesOnce text
crunches_once text codes other crunched again = crunched_once Free text codes other (modes_of_crunched text codes crunched) (modes_of_crunched text other again)

pub lists_once : (codes : List ℕ) → ListsOnce codes
lists_once codes = record { some = (expanded_bytes codes, listed_by_modes codes); once = λ bytes other listed again. modes_of_listed codes bytes listed ∙ sym (modes_of_listed codes other again) }
