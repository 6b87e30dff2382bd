-- The pieces of a line, and how the code goes over it byte after byte.
use Rattle.std.proofs.Common.{◌≡◌, ◌≢◌, ℕ, suc, ◌<◌, ◌≤◌, ◌⊎◌, ◌||◌, Bool, true, false, cond, List, [], ◌∷◌, ◌++◌, length, drop, Option, Some, None, refl, sym, ◌∙◌, ap, subst, inl, inr, append_assoc, length-append, arith}
use Rattle.std.specs.Prelude.{zero, ◌==◌, nat_eq, nat_lt, slice_get}
use Rattle.std.specs.Option.{option_map_or}
use Rattle.std.specs.List.{starts_with, flat_map}
use Rattle.std.proofs.lemmas.Bool.{eqb-true, eqb-false, ltb-true, ltb-false}
use Rattle.std.proofs.lemmas.Bool.Decides.{Decides-eqb}
use Rattle.std.proofs.lemmas.Slice.Eq.{starts_is}
use Rattle.cbm_text.specs.declared.mode.Mode.{Mode}
use Rattle.cbm_text.specs.declared.mode.Mode.TheVariants.{Free, Quoted, Remark, Data}
use Rattle.cbm_text.specs.Keywords.{keywords, keyword, token_from}
use Rattle.cbm_text.specs.Kept.{rem_token, data_token, Opener, QuoteMark, RemWord, DataWord, opening, opener_byte, IsKept}
use Rattle.script_text.specs.Words.{quote}
use Rattle.cbm_text.specs.Pieces.{LinePiece, Kept, Token, Question, Single, print_token, written_piece, crunched_piece, ArePieces}
use Rattle.cbm_text.specs.Crunching.{question, pi, HasNoOpener, TextBegins, AreTextPieces, Crunched}
use Rattle.cbm_text.specs.Listing.{IsNoOpener, CodesBegin, AreCodePieces, Listed}
use Rattle.cbm_text.specs.Modes.{next_mode, single_code, free_code, first_code, CrunchedFrom, text_of_code, expanded_from, expanded_bytes}
use Rattle.cbm_text.proofs.Keywords.{found, code_in, rest_in, BeginsWithRow, row_of}
use Rattle.cbm_text.proofs.CodesSoFar.{token_first, single_first}
use Rattle.cbm_text.proofs.KeptRuns.{mode_in, mode_behind, RunsOn, no_end_nothing, kept_by_modes, modes_of_kept, crunched_along, expanded_along, cut_bytes, cut_text}

-- ---- openers

-- a text begins with an opener or with none
begins_with_opener : (text : List ℕ) → ((opener : Opener) × (starts_with nat_eq text (opening opener) ≡ true)) ⊎ HasNoOpener text
begins_with_opener text = of_tests (starts_with nat_eq text (opening QuoteMark)) refl (starts_with nat_eq text (opening RemWord)) refl (starts_with nat_eq text (opening DataWord)) refl
  where
    none : starts_with nat_eq text (opening QuoteMark) ≡ false → starts_with nat_eq text (opening RemWord) ≡ false → starts_with nat_eq text (opening DataWord) ≡ false → HasNoOpener text
    none no_quote no_rem no_data QuoteMark = no_quote
    none no_quote no_rem no_data RemWord = no_rem
    none no_quote no_rem no_data DataWord = no_data

    of_tests : (a : Bool) → starts_with nat_eq text (opening QuoteMark) ≡ a → (b : Bool) → starts_with nat_eq text (opening RemWord) ≡ b → (c : Bool) → starts_with nat_eq text (opening DataWord) ≡ c
        → ((opener : Opener) × (starts_with nat_eq text (opening opener) ≡ true)) ⊎ HasNoOpener text
    of_tests true quote_at b rem_at c data_at = inl (QuoteMark, quote_at)
    of_tests false quote_at true rem_at c data_at = inl (RemWord, rem_at)
    of_tests false quote_at false rem_at true data_at = inl (DataWord, data_at)
    of_tests false quote_at false rem_at false data_at = inr (none quote_at rem_at data_at)

-- a crunched byte opens a run or none
opens_or_not : (code : ℕ) → ((opener : Opener) × (code ≡ opener_byte opener)) ⊎ IsNoOpener code
opens_or_not code = of_tests (code == quote) refl (code == rem_token) refl (code == data_token) refl
  where
    none : (code == quote) ≡ false → (code == rem_token) ≡ false → (code == data_token) ≡ false → IsNoOpener code
    none no_quote no_rem no_data QuoteMark = eqb-false _ _ no_quote
    none no_quote no_rem no_data RemWord = eqb-false _ _ no_rem
    none no_quote no_rem no_data DataWord = eqb-false _ _ no_data

    of_tests : (a : Bool) → (code == quote) ≡ a → (b : Bool) → (code == rem_token) ≡ b → (c : Bool) → (code == data_token) ≡ c → ((opener : Opener) × (code ≡ opener_byte opener)) ⊎ IsNoOpener code
    of_tests true quote_at b rem_at c data_at = inl (QuoteMark, eqb-true _ _ quote_at)
    of_tests false quote_at true rem_at c data_at = inl (RemWord, eqb-true _ _ rem_at)
    of_tests false quote_at false rem_at true data_at = inl (DataWord, eqb-true _ _ data_at)
    of_tests false quote_at false rem_at false data_at = inr (none quote_at rem_at data_at)

-- behind other crunched bytes a place is free
stays_free : (code : ℕ) → IsNoOpener code → next_mode Free code ≡ Free
stays_free code none = of_quote (code == quote) refl
  where
    of_data : (b : Bool) → (code == data_token) ≡ b → cond b Data Free ≡ Free
    of_data true at = absurd (none DataWord (eqb-true _ _ at))
    of_data false at = refl

    of_rem : (b : Bool) → (code == rem_token) ≡ b
        → cond b Remark (cond (code == data_token) Data Free) ≡ Free
    of_rem true at = absurd (none RemWord (eqb-true _ _ at))
    of_rem false at = of_data (code == data_token) refl

    of_quote : (b : Bool) → (code == quote) ≡ b
        → cond b Quoted (cond (code == rem_token) Remark (cond (code == data_token) Data Free)) ≡ Free
    of_quote true at = absurd (none QuoteMark (eqb-true _ _ at))
    of_quote false at = of_rem (code == rem_token) refl

-- an opener is crunched to its code, and this stands for it
opener_first : (opener : Opener) (rest : List ℕ) → first_code Free (opening opener ++ rest) ≡ Some (opener_byte opener, rest)
unfolding free_code keywords
opener_first QuoteMark rest = refl
opener_first RemWord rest = refl
opener_first DataWord rest = refl

opener_shown : (opener : Opener) → text_of_code Free (opener_byte opener) ≡ opening opener
unfolding keyword keywords
opener_shown QuoteMark = refl
opener_shown RemWord = refl
opener_shown DataWord = refl

-- the token of a text that begins with no opener opens nothing
pub token_no_opener : (text : List ℕ) (code : ℕ) (rest : List ℕ) → HasNoOpener text → token_from 128 keywords text ≡ Some (code, rest) → IsNoOpener code
unfolding keywords
token_no_opener text code rest none is opener opens = it opener opens
  where
    begins : BeginsWithRow keywords 128 code text rest
    begins = row_of keywords 128 text code rest is

    word_at : (opener : Opener) (row : ℕ) → begins.row ≡ row → slice_get keywords row ≡ Some (opening opener) → ⊥
    word_at opener row at word =
        let same : Some begins.word ≡ Some (opening opener) = sym begins.is ∙ ap (λ (k : ℕ). slice_get keywords k) at ∙ word in
        let is_word : begins.word ≡ opening opener = cc in
        let joined : text ≡ opening opener ++ rest = begins.joined ∙ ap (λ (w : List ℕ). w ++ rest) is_word in
        let found_there : starts_with nat_eq text (opening opener) ≡ true = (starts_is Decides-eqb text (opening opener) (starts_with nat_eq text (opening opener)) refl).1 rest joined in
        let never : true ≡ false = sym found_there ∙ none opener in
        absurd cc

    it : (opener : Opener) → code ≢ opener_byte opener
    it QuoteMark opens = absurd (omega (arith, begins.at, opens))
    it RemWord opens = word_at RemWord 15 (omega (arith, begins.at, opens)) refl
    it DataWord opens = word_at DataWord 3 (omega (arith, begins.at, opens)) refl

-- ---- the first crunched byte of a text

-- a single byte that begins a text without an opener opens nothing
pub single_no_opener : (byte : ℕ) (others : List ℕ) → HasNoOpener (byte ∷ others) → (byte ≡ pi) ⊎ (byte < 128) → IsNoOpener byte
single_no_opener byte others none kept QuoteMark opens =
    let never : true ≡ false = subst (λ (n : ℕ). starts_with nat_eq (n ∷ others) (opening QuoteMark) ≡ false) opens (none QuoteMark) in
    absurd cc
single_no_opener byte others none (inl is) RemWord opens = absurd (omega arith)
single_no_opener byte others none (inr low) RemWord opens = absurd (omega arith)
single_no_opener byte others none (inl is) DataWord opens = absurd (omega arith)
single_no_opener byte others none (inr low) DataWord opens = absurd (omega arith)

print_no_opener : IsNoOpener print_token
print_no_opener QuoteMark opens = absurd (omega arith)
print_no_opener RemWord opens = absurd (omega arith)
print_no_opener DataWord opens = absurd (omega arith)

-- a piece of one crunched byte that opens nothing
record FirstOther (text : List ℕ) (code : ℕ) (rest : List ℕ) : Type 0 where
  pub piece : LinePiece
  pub begins : TextBegins text piece rest
  pub is : crunched_piece piece ≡ code ∷ []
  pub opens : IsNoOpener code

first_single : (byte : ℕ) (others : List ℕ) (code : ℕ) (rest : List ℕ) → HasNoOpener (byte ∷ others) → token_from 128 keywords (byte ∷ others) ≡ None
    → option_map_or (λ c. found c others) (single_code byte) None ≡ Some (code, rest) → FirstOther (byte ∷ others) code rest
first_single byte others code rest none no_token is = by_question (byte == question) refl is
  where
    one : ℕ → List ℕ
    one n = n ∷ []

    kept : (low is_pi : Bool) → nat_lt byte 128 ≡ low → (byte == pi) ≡ is_pi → (low || is_pi) ≡ true → (byte ≡ pi) ⊎ (byte < 128)
    kept true is_pi low_at pi_at test = inr (ltb-true _ _ low_at)
    kept false true low_at pi_at test = inl (eqb-true _ _ pi_at)
    kept false false low_at pi_at test = absurd cc

    by_kept : (b : Bool) → (nat_lt byte 128 || byte == pi) ≡ b → byte ≢ question → option_map_or (λ c. found c others) (cond b (Some byte) None) None ≡ Some (code, rest) → FirstOther (byte ∷ others) code rest
    by_kept true at plain here =
        let same : byte ≡ code = ap code_in here in
        let behind : others ≡ rest = ap rest_in here in
        let low = kept (nat_lt byte 128) (byte == pi) refl refl at in
        record {
          piece = Single byte;
          begins = (none, no_token, ap (λ (w : List ℕ). byte ∷ w) behind, plain, low);
          is = ap one same;
          opens = subst IsNoOpener same (single_no_opener byte others none low);
        }
    by_kept false at plain here = absurd cc

    by_question : (b : Bool) → (byte == question) ≡ b → option_map_or (λ c. found c others) (cond b (Some print_token) (cond (nat_lt byte 128 || byte == pi) (Some byte) None)) None ≡ Some (code, rest) → FirstOther (byte ∷ others) code rest
    by_question true at here =
        let same : print_token ≡ code = ap code_in here in
        let behind : others ≡ rest = ap rest_in here in
        record {
          piece = Question;
          begins = ap (λ (n : ℕ). n ∷ others) (eqb-true _ _ at) ∙ ap (λ (w : List ℕ). question ∷ w) behind;
          is = ap one same;
          opens = subst IsNoOpener same print_no_opener;
        }
    by_question false at here = by_kept (nat_lt byte 128 || byte == pi) refl (eqb-false _ _ at) here

-- the first crunched byte of a text is that of an opener, or of a piece of one crunched byte
first_piece : (text : List ℕ) (code : ℕ) (rest : List ℕ) → first_code Free text ≡ Some (code, rest)
    → ((opener : Opener) × (code ≡ opener_byte opener) × (text ≡ opening opener ++ rest)) ⊎ FirstOther text code rest
unfolding free_code
first_piece [] code rest is = absurd cc
first_piece (byte ∷ others) code rest is = of_opener (begins_with_opener (byte ∷ others))
  where
    by_token : HasNoOpener (byte ∷ others) → (token : Option (ℕ × List ℕ)) → token_from 128 keywords (byte ∷ others) ≡ token
        → option_map_or (λ it. found it.0 it.1) token (option_map_or (λ c. found c others) (single_code byte) None) ≡ Some (code, rest) → FirstOther (byte ∷ others) code rest
    by_token none None no_token here = first_single byte others code rest none no_token here
    by_token none (Some it) at here = record { piece = Token code; begins = (none, at ∙ here); is = refl; opens = token_no_opener (byte ∷ others) code rest none (at ∙ here) }

    of_opener : ((opener : Opener) × (starts_with nat_eq (byte ∷ others) (opening opener) ≡ true)) ⊎ HasNoOpener (byte ∷ others)
        → ((opener : Opener) × (code ≡ opener_byte opener) × (byte ∷ others ≡ opening opener ++ rest)) ⊎ FirstOther (byte ∷ others) code rest
    of_opener (inl (opener, starts)) =
        let tail = drop (length (opening opener)) (byte ∷ others) in
        let joined : byte ∷ others ≡ opening opener ++ tail = (starts_is Decides-eqb (byte ∷ others) (opening opener) (starts_with nat_eq (byte ∷ others) (opening opener)) refl).0 starts in
        let same : found code rest ≡ found (opener_byte opener) tail = sym is ∙ ap (λ (w : List ℕ). first_code Free w) joined ∙ opener_first opener tail in
        inl (opener, ap code_in same, joined ∙ ap (λ (w : List ℕ). opening opener ++ w) (sym (ap rest_in same)))
    of_opener (inr none) = inr (by_token none (token_from 128 keywords (byte ∷ others)) refl is)

-- ---- a text, by pieces and byte after byte

text_by_opener : (opener : Opener) (text run rest codes others : List ℕ) (pieces : List LinePiece) → text ≡ opening opener ++ (run ++ rest) → IsKept opener run rest → AreTextPieces rest pieces
    → others ≡ flat_map crunched_piece pieces → codes ≡ opener_byte opener ∷ (run ++ others) → (pieces : List LinePiece) × AreTextPieces text pieces × (codes ≡ flat_map crunched_piece pieces)
unfolding ArePieces
text_by_opener opener text run rest codes others pieces text_is kept cut is codes_is = (
  Kept opener run ∷ pieces,
  (rest, (text_is ∙ sym (append_assoc (opening opener) run rest), kept), cut),
  codes_is ∙ ap (λ (w : List ℕ). opener_byte opener ∷ (run ++ w)) is,
)

pieces_by_modes : (n : ℕ) (text codes : List ℕ) → length codes ≤ n → CrunchedFrom Free text codes → (pieces : List LinePiece) × AreTextPieces text pieces × (codes ≡ flat_map crunched_piece pieces)
unfolding CrunchedFrom ArePieces
pieces_by_modes zero text [] short none = ([], none, refl)
pieces_by_modes zero text (code ∷ codes) short more = absurd (omega arith)
pieces_by_modes (suc n) text [] short none = ([], none, refl)
pieces_by_modes (suc n) text (code ∷ codes) short (rest, first, others) = of_first (first_piece text code rest first) (λ next left small more. pieces_by_modes n next left small more)
  where
    of_first : ((opener : Opener) × (code ≡ opener_byte opener) × (text ≡ opening opener ++ rest)) ⊎ FirstOther text code rest
        → ((next left : List ℕ) → length left ≤ n → CrunchedFrom Free next left → (pieces : List LinePiece) × AreTextPieces next pieces × (left ≡ flat_map crunched_piece pieces))
        → (pieces : List LinePiece) × AreTextPieces text pieces × (code ∷ codes ≡ flat_map crunched_piece pieces)
    of_first (inl (opener, code_is, text_is)) later =
        let behind : CrunchedFrom (mode_in opener []) rest codes = subst (λ (m : Mode). CrunchedFrom m rest codes) (ap (λ (k : ℕ). next_mode Free k) code_is ∙ mode_behind opener) others in
        let cut = cut_text (mode_in opener []) rest codes behind in
        let kept : IsKept opener cut.run cut.rest = kept_by_modes opener [] cut.run cut.rest (no_end_nothing opener) cut.runs in
        let small : length cut.others ≤ n = omega (arith, ap length cut.codes_is, length-append cut.run cut.others) in
        let more = later cut.rest cut.others small cut.crunched in
        text_by_opener opener text cut.run cut.rest (code ∷ codes) cut.others more.0 (text_is ∙ ap (λ (w : List ℕ). opening opener ++ w) cut.text_is) kept more.1 more.2
        (ap (λ (k : ℕ). k ∷ codes) code_is ∙ ap (λ (w : List ℕ). opener_byte opener ∷ w) cut.codes_is)
    of_first (inr other) later =
        let free : CrunchedFrom Free rest codes = subst (λ (m : Mode). CrunchedFrom m rest codes) (stays_free code other.opens) others in
        let (pieces, is, same) = later rest codes (omega arith) free in (
          other.piece ∷ pieces,
          (rest, other.begins, is),
          ap (λ (w : List ℕ). code ∷ w) same ∙ ap (λ (w : List ℕ). w ++ flat_map crunched_piece pieces) (sym other.is),
        )

pub crunched_by_modes : (text codes : List ℕ) → CrunchedFrom Free text codes → Crunched text codes
unfolding Crunched
crunched_by_modes text codes crunched = pieces_by_modes (length codes) text codes (omega arith) crunched

token_at_free : (text : List ℕ) (code : ℕ) (rest : List ℕ) → token_from 128 keywords text ≡ Some (code, rest) → first_code Free text ≡ Some (code, rest)
unfolding keywords
token_at_free [] code rest is = absurd cc
token_at_free (byte ∷ others) code rest is = token_first Free (byte ∷ others) code rest refl (omega arith) is

question_first : (rest : List ℕ) → first_code Free (question ∷ rest) ≡ Some (print_token, rest)
unfolding free_code keywords
question_first rest = refl

single_is : (byte : ℕ) → byte ≢ question → (byte ≡ pi) ⊎ (byte < 128) → Some byte ≡ single_code byte
single_is byte plain kept = of_question (byte == question) refl
  where
    of_kept : (low is_pi : Bool) → nat_lt byte 128 ≡ low → (byte == pi) ≡ is_pi → (byte ≡ pi) ⊎ (byte < 128) → Some byte ≡ cond (low || is_pi) (Some byte) None
    of_kept true is_pi low_at pi_at kept = refl
    of_kept false true low_at pi_at kept = refl
    of_kept false false low_at pi_at (inl is) = absurd (eqb-false _ _ pi_at is)
    of_kept false false low_at pi_at (inr low) = let high : 128 ≤ byte = ltb-false _ _ low_at in absurd (omega arith)

    of_question : (b : Bool) → (byte == question) ≡ b → Some byte ≡ cond b (Some print_token) (cond (nat_lt byte 128 || byte == pi) (Some byte) None)
    of_question true at = absurd (plain (eqb-true _ _ at))
    of_question false at = of_kept (nat_lt byte 128) (byte == pi) refl refl kept

-- one crunched byte at a free place, and those behind it
one_more : (text : List ℕ) (code : ℕ) (rest others : List ℕ) → first_code Free text ≡ Some (code, rest) → IsNoOpener code → CrunchedFrom Free rest others → CrunchedFrom Free text (code ∷ others)
unfolding CrunchedFrom
one_more text code rest others first opens crunched = (rest, first, subst (λ (m : Mode). CrunchedFrom m rest others) (sym (stays_free code opens)) crunched)

opener_more : (opener : Opener) (text run rest others : List ℕ) → text ≡ opening opener ++ run ++ rest → IsKept opener run rest → CrunchedFrom Free rest others → CrunchedFrom Free text (opener_byte opener ∷ (run ++ others))
unfolding CrunchedFrom
opener_more opener text run rest others text_is kept crunched =
    let runs = modes_of_kept opener [] run rest (no_end_nothing opener) kept in (
      run ++ rest,
      ap (λ (w : List ℕ). first_code Free w) (text_is ∙ append_assoc (opening opener) run rest) ∙ opener_first opener (run ++ rest),
      subst (λ (m : Mode). CrunchedFrom m (run ++ rest) (run ++ others)) (sym (mode_behind opener)) (crunched_along (mode_in opener []) run rest others runs crunched),
    )

modes_of_pieces : (pieces : List LinePiece) (text : List ℕ) → AreTextPieces text pieces → CrunchedFrom Free text (flat_map crunched_piece pieces)
unfolding ArePieces CrunchedFrom
modes_of_pieces [] text none = none
modes_of_pieces (Kept opener run ∷ pieces) text (rest, (text_is, kept), others) = opener_more opener text run rest (flat_map crunched_piece pieces) text_is kept (modes_of_pieces pieces rest others)
modes_of_pieces (Token token ∷ pieces) text (rest, (none, is), others) =
    one_more text token rest (flat_map crunched_piece pieces) (token_at_free text token rest is) (token_no_opener text token rest none is) (modes_of_pieces pieces rest others)
modes_of_pieces (Question ∷ pieces) text (rest, text_is, others) =
    one_more text print_token rest (flat_map crunched_piece pieces) (ap (λ (w : List ℕ). first_code Free w) text_is ∙ question_first rest) print_no_opener (modes_of_pieces pieces rest others)
modes_of_pieces (Single byte ∷ pieces) text (rest, (none, no_token, text_is, plain, kept), others) =
    let begins : HasNoOpener (byte ∷ rest) = subst HasNoOpener text_is none in
    let no_word : token_from 128 keywords (byte ∷ rest) ≡ None = ap (λ (w : List ℕ). token_from 128 keywords w) (sym text_is) ∙ no_token in
    one_more text byte rest (flat_map crunched_piece pieces) (ap (λ (w : List ℕ). first_code Free w) text_is ∙ single_first Free byte rest (Some byte) refl no_word (single_is byte plain kept))
    (single_no_opener byte rest begins kept) (modes_of_pieces pieces rest others)

pub modes_of_crunched : (text codes : List ℕ) → Crunched text codes → CrunchedFrom Free text codes
unfolding Crunched
modes_of_crunched text codes (pieces, cut, is) = subst (λ (w : List ℕ). CrunchedFrom Free text w) (sym is) (modes_of_pieces pieces text cut)

-- ---- crunched bytes, by pieces and byte after byte

-- what a crunched byte that opens nothing stands for
plain_piece : (code : ℕ) (rest : List ℕ) → IsNoOpener code → (piece : LinePiece) × CodesBegin (code ∷ rest) piece rest × (written_piece piece ≡ text_of_code Free code)
plain_piece code rest opens = of_word (keyword code) refl
  where
    of_word : (word : Option (List ℕ)) → keyword code ≡ word → (piece : LinePiece) × CodesBegin (code ∷ rest) piece rest × (written_piece piece ≡ text_of_code Free code)
    of_word None at = (Single code, (opens, at, refl), sym (ap (λ (o : Option (List ℕ)). option_map_or (λ w. w) o (code ∷ [])) at))
    of_word (Some word) at = (
      Token code,
      (opens, some word at, refl),
      ap (λ (o : Option (List ℕ)). option_map_or (λ w. w) o []) at ∙ sym (ap (λ (o : Option (List ℕ)). option_map_or (λ w. w) o (code ∷ [])) at),
    )
      where
        some : (word : List ℕ) → keyword code ≡ Some word → keyword code ≢ None
        some word at none = let never : Some word ≡ None = sym at ∙ none in absurd cc

-- what follows a crunched byte that opens nothing is read as at the start
plain_expanded : (code : ℕ) (rest : List ℕ) → IsNoOpener code → expanded_bytes (code ∷ rest) ≡ text_of_code Free code ++ expanded_bytes rest
unfolding expanded_from
plain_expanded code rest opens = ap (λ (m : Mode). text_of_code Free code ++ expanded_from m rest) (stays_free code opens)

-- an opener stands for its keyword, and what is kept behind it for itself
opener_expanded : (opener : Opener) (run rest : List ℕ) → RunsOn (mode_in opener []) run rest → expanded_bytes (opener_byte opener ∷ (run ++ rest)) ≡ opening opener ++ run ++ expanded_bytes rest
unfolding expanded_from
opener_expanded opener run rest runs =
    ap (λ (m : Mode). text_of_code Free (opener_byte opener) ++ expanded_from m (run ++ rest)) (mode_behind opener)
    ∙ ap (λ (w : List ℕ). text_of_code Free (opener_byte opener) ++ w) (expanded_along (mode_in opener []) run rest runs)
    ∙ ap (λ (w : List ℕ). w ++ (run ++ expanded_bytes rest)) (opener_shown opener) ∙ sym (append_assoc (opening opener) run (expanded_bytes rest))

codes_by_opener : (opener : Opener) (codes run rest : List ℕ) (pieces : List LinePiece) → codes ≡ opener_byte opener ∷ (run ++ rest) → IsKept opener run rest → RunsOn (mode_in opener []) run rest → AreCodePieces rest pieces
    → expanded_bytes rest ≡ flat_map written_piece pieces → (pieces : List LinePiece) × AreCodePieces codes pieces × (expanded_bytes codes ≡ flat_map written_piece pieces)
unfolding ArePieces
codes_by_opener opener codes run rest pieces codes_is kept runs cut is = (
  Kept opener run ∷ pieces,
  (rest, (codes_is, kept), cut),
  ap (λ (w : List ℕ). expanded_bytes w) codes_is ∙ opener_expanded opener run rest runs ∙ ap (λ (w : List ℕ). opening opener ++ run ++ w) is,
)

pieces_of_codes : (n : ℕ) (codes : List ℕ) → length codes ≤ n → (pieces : List LinePiece) × AreCodePieces codes pieces × (expanded_bytes codes ≡ flat_map written_piece pieces)
unfolding ArePieces expanded_from
pieces_of_codes zero [] short = ([], refl, refl)
pieces_of_codes zero (code ∷ codes) short = absurd (omega arith)
pieces_of_codes (suc n) [] short = ([], refl, refl)
pieces_of_codes (suc n) (code ∷ codes) short = of_opener (opens_or_not code) (λ left small. pieces_of_codes n left small)
  where
    of_opener : ((opener : Opener) × (code ≡ opener_byte opener)) ⊎ IsNoOpener code
        → ((left : List ℕ) → length left ≤ n → (pieces : List LinePiece) × AreCodePieces left pieces × (expanded_bytes left ≡ flat_map written_piece pieces))
        → (pieces : List LinePiece) × AreCodePieces (code ∷ codes) pieces × (expanded_bytes (code ∷ codes) ≡ flat_map written_piece pieces)
    of_opener (inl (opener, code_is)) later =
        let cut = cut_bytes (mode_in opener []) codes in
        let kept : IsKept opener cut.run cut.rest = kept_by_modes opener [] cut.run cut.rest (no_end_nothing opener) cut.runs in
        let joined : code ∷ codes ≡ opener_byte opener ∷ (cut.run ++ cut.rest) = ap (λ (k : ℕ). k ∷ codes) code_is ∙ ap (λ (w : List ℕ). opener_byte opener ∷ w) cut.joined in
        let more = later cut.rest (omega (arith, ap length cut.joined, length-append cut.run cut.rest)) in
        codes_by_opener opener (code ∷ codes) cut.run cut.rest more.0 joined kept cut.runs more.1 more.2
    of_opener (inr opens) later =
        let (piece, begins, word) = plain_piece code codes opens in
        let (pieces, is, same) = later codes (omega arith) in
        (piece ∷ pieces, (codes, begins, is), plain_expanded code codes opens ∙ ap (λ (w : List ℕ). w ++ expanded_bytes codes) (sym word) ∙ ap (λ (w : List ℕ). written_piece piece ++ w) same)

pub listed_by_modes : (codes : List ℕ) → Listed codes (expanded_bytes codes)
unfolding Listed
listed_by_modes codes = pieces_of_codes (length codes) codes (omega arith)

modes_of_listed_pieces : (pieces : List LinePiece) (codes : List ℕ) → AreCodePieces codes pieces → flat_map written_piece pieces ≡ expanded_bytes codes
unfolding ArePieces expanded_from
modes_of_listed_pieces [] codes none = sym (ap (λ (w : List ℕ). expanded_bytes w) none)
modes_of_listed_pieces (Kept opener run ∷ pieces) codes (rest, (codes_is, kept), others) =
    let runs = modes_of_kept opener [] run rest (no_end_nothing opener) kept in
    ap (λ (w : List ℕ). opening opener ++ run ++ w) (modes_of_listed_pieces pieces rest others) ∙ sym (opener_expanded opener run rest runs) ∙ ap (λ (w : List ℕ). expanded_bytes w) (sym codes_is)
modes_of_listed_pieces (Token token ∷ pieces) codes (rest, (opens, some, codes_is), others) =
    ap (λ (w : List ℕ). written_piece (Token token) ++ w) (modes_of_listed_pieces pieces rest others) ∙ ap (λ (w : List ℕ). w ++ expanded_bytes rest) (of_word (keyword token) some)
    ∙ sym (plain_expanded token rest opens) ∙ ap (λ (w : List ℕ). expanded_bytes w) (sym codes_is)
  where
    of_word : (word : Option (List ℕ)) → word ≢ None → option_map_or (λ w. w) word [] ≡ option_map_or (λ w. w) word (token ∷ [])
    of_word None some = absurd (some refl)
    of_word (Some word) some = refl
modes_of_listed_pieces (Question ∷ pieces) codes (rest, never, others) = absurd never
modes_of_listed_pieces (Single byte ∷ pieces) codes (rest, (opens, none, codes_is), others) =
    ap (λ (w : List ℕ). byte ∷ w) (modes_of_listed_pieces pieces rest others)
    ∙ ap (λ (w : List ℕ). w ++ expanded_bytes rest) (sym (ap (λ (o : Option (List ℕ)). option_map_or (λ w. w) o (byte ∷ [])) none)) ∙ sym (plain_expanded byte rest opens)
    ∙ ap (λ (w : List ℕ). expanded_bytes w) (sym codes_is)

pub modes_of_listed : (codes bytes : List ℕ) → Listed codes bytes → bytes ≡ expanded_bytes codes
unfolding Listed
modes_of_listed codes bytes (pieces, cut, is) = is ∙ modes_of_listed_pieces pieces codes cut
