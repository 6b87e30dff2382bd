-- The file of a text is made of bytes.
use Rattle.std.proofs.Common.{◌≡◌, ℕ, ◌%◌, ◌/◌, ◌^◌, ◌<◌, ◌≤◌, Bool, true, false, List, [], ◌∷◌, ◌++◌, All, Some, None, refl, sym, ◌∙◌, subst, inl, inr, arith}
use Rattle.std.specs.Prelude.{nat_lt}
use Rattle.std.proofs.lemmas.Bool.Decides.{nat_tests}
use Rattle.std.specs.List.{flat_map}
use Rattle.std.proofs.lemmas.List.Elements.{All-nil, All-cons, All-head, All-tail, All-append}
use Rattle.script_text.specs.RawLines.{lines_of, text_of}
use Rattle.cbm_text.specs.Kept.{Opener, QuoteMark, RemWord, DataWord, opening, opener_byte}
use Rattle.cbm_text.specs.Pieces.{LinePiece, Kept, Token, Question, Single, print_token, crunched_piece, ArePieces}
use Rattle.cbm_text.specs.Keywords.{keywords, token_from}
use Rattle.cbm_text.specs.Crunching.{question, AreTextPieces, Crunched}
use Rattle.cbm_text.specs.Program.{ProgramLine, Program, word, address_behind, line_layout, lines_layout}
use Rattle.cbm_text.specs.BasicText.{IsLine, AreLines, IsFileOf}
use Rattle.cbm_text.proofs.Keywords.{keyword_past, token_shown}
use Rattle.cbm_text.proofs.NormalLines.{small_bytes}

-- numbers below 256
abbrev AreBytes : List ℕ → Type 0
AreBytes bytes = All (λ b. b < 256) bytes

joined : (a b : List ℕ) → AreBytes a → AreBytes b → AreBytes (a ++ b)
joined a b = All-append (λ b. b < 256) a b

one : (byte : ℕ) → byte < 256 → AreBytes (byte ∷ [])
one byte small = All-cons (λ b. b < 256) byte [] small (All-nil (λ b. b < 256))

-- both parts of bytes are bytes
parts : (a b : List ℕ) → AreBytes (a ++ b) → AreBytes a × AreBytes b
parts [] b all = (All-nil (λ b. b < 256), all)
parts (byte ∷ a) b all =
    let others = parts a b (All-tail (λ b. b < 256) byte (a ++ b) all) in
    (All-cons (λ b. b < 256) byte a (All-head (λ b. b < 256) byte (a ++ b) all) others.0, others.1)

-- ---- lines

token_small : (text : List ℕ) (token : ℕ) (rest : List ℕ) → token_from 128 keywords text ≡ Some (token, rest) → token < 256
token_small text token rest is = of_test (nat_lt token 204) refl
  where
    of_test : (b : Bool) → nat_lt token 204 ≡ b → token < 256
    of_test true low = let below : token < 204 = grind (arith, nat_tests) in omega arith
    of_test false high =
        let above : 204 ≤ token = grind (arith, nat_tests) in
        let shown_word = token_shown text token rest is in
        let never : None ≡ Some shown_word.0 = sym (keyword_past token above) ∙ shown_word.1 in
        absurd cc

code_small : (opener : Opener) → opener_byte opener < 256
code_small QuoteMark = omega arith
code_small RemWord = omega arith
code_small DataWord = omega arith

-- bytes crunch to bytes
pieces_small : (pieces : List LinePiece) (text : List ℕ) → AreTextPieces text pieces → AreBytes text → AreBytes (flat_map crunched_piece pieces)
unfolding ArePieces
pieces_small [] text cut small = All-nil (λ b. b < 256)
pieces_small (Kept opener run ∷ pieces) text (rest, (text_is, kept), others) small =
    let cut = parts (opening opener ++ run) rest (subst AreBytes text_is small) in
    let run_small = (parts (opening opener) run cut.0).1 in
    joined (opener_byte opener ∷ run) (flat_map crunched_piece pieces) (All-cons (λ b. b < 256) (opener_byte opener) run (code_small opener) run_small)
    (pieces_small pieces rest others cut.1)
pieces_small (Token token ∷ pieces) text (rest, (no_opener, is), others) small =
    let shown_word = token_shown text token rest is in
    let cut = parts shown_word.0 rest (subst AreBytes shown_word.2 small) in
    joined (token ∷ []) (flat_map crunched_piece pieces) (one token (token_small text token rest is)) (pieces_small pieces rest others cut.1)
pieces_small (Question ∷ pieces) text (rest, text_is, others) small =
    let cut = parts (question ∷ []) rest (subst AreBytes text_is small) in
    joined (print_token ∷ []) (flat_map crunched_piece pieces) (one print_token (omega arith)) (pieces_small pieces rest others cut.1)
pieces_small (Single byte ∷ pieces) text (rest, (no_opener, no_token, text_is, plain, kept), others) small =
    let cut = parts (byte ∷ []) rest (subst AreBytes text_is small) in
    joined (byte ∷ []) (flat_map crunched_piece pieces) cut.0 (pieces_small pieces rest others cut.1)

crunched_small : (text codes : List ℕ) → Crunched text codes → AreBytes text → AreBytes codes
unfolding Crunched
crunched_small text codes (pieces, cut, is) small = subst AreBytes (sym is) (pieces_small pieces text cut small)

-- ---- files

word_small : (n : ℕ) → n < 2 ^ 16 → AreBytes (word n)
word_small n fits = All-cons (λ b. b < 256) (n % 256) (n / 256 ∷ []) (omega arith) (one (n / 256) (omega arith))

line_small : (at : ℕ) (text : List ℕ) (line : ProgramLine) → IsLine at text line → AreBytes (line_layout at line)
line_small at text line is_line =
    let codes = crunched_small is_line.bytes line.bytes is_line.crunched.crunched (small_bytes is_line.bytes _ is_line.crunched.read.read) in
    let linked = is_line.linked in
    let number : line.number < 2 ^ 16 = subst (λ (n : ℕ). n < 2 ^ 16) (sym is_line.number) is_line.crunched.read.numbered.small in
    joined (word (address_behind at line.bytes)) (word line.number ++ line.bytes ++ 0 ∷ []) (word_small (address_behind at line.bytes) (omega arith))
    (joined (word line.number) (line.bytes ++ 0 ∷ []) (word_small line.number number) (joined line.bytes (0 ∷ []) codes (one 0 (omega arith))))

lines_small : (at : ℕ) (raws : List (List ℕ)) (program : Program) → AreLines at raws program → AreBytes (lines_layout at program)
unfolding AreLines lines_layout
lines_small at [] program none = subst (λ (p : Program). AreBytes (lines_layout at p)) (sym none) (word_small 0 (omega arith))
lines_small at (raw ∷ raws) program (inl (skipped, lines)) = lines_small at raws program lines
lines_small at (raw ∷ raws) program (inr (kept, line, more, is, is_line, lines)) =
    subst (λ (p : Program). AreBytes (lines_layout at p)) (sym is)
    (joined (line_layout at line) (lines_layout (address_behind at line.bytes) more) (line_small at (text_of raw) line is_line)
    (lines_small (address_behind at line.bytes) raws more lines))

pub file_small : (start : ℕ) (text file : List ℕ) → start < 2 ^ 16 → IsFileOf start text file → AreBytes file
unfolding IsFileOf
file_small start text file fits (program, lines, is) =
    subst AreBytes (sym is) (joined (word start) (lines_layout start program) (word_small start fits) (lines_small start (lines_of text) program lines))
