-- Whole texts, their programs, and the listings of these.
use Rattle.std.proofs.Common.{◌≡◌, ℕ, suc, ◌+◌, ◌%◌, ◌/◌, ◌^◌, ◌<◌, ◌≤◌, ◌||◌, Bool, true, false, List, [], ◌∷◌, ◌++◌, length, take, drop, get_or, All, Contains, Some, refl, sym, ◌∙◌, ap, subst, inl, inr, append_assoc, arith}
use Rattle.std.specs.Prelude.{nat_eq}
use Rattle.std.specs.List.{flat_map, list_any}
use Rattle.std.proofs.lemmas.Bool.{eqb-true, or_parts}
use Rattle.std.proofs.lemmas.Bool.Decides.{nat_tests}
use Rattle.std.proofs.lemmas.List.{append_cancel_right}
use Rattle.std.proofs.lemmas.List.Elements.{All-tail}
use Rattle.std.proofs.lemmas.List.Folds.{list_any-append}
use Rattle.petscii.specs.TextForm.{IsTextOf}
use Rattle.petscii.proofs.Readings.{one_reading, no_fault, one_fault}
use Rattle.petscii.specs.declared.fault.TextFault.{TextFault}
use Rattle.script_text.specs.RawLines.{lines_of, text_of, is_skipped}
use Rattle.script_text.proofs.LineCuts.{lines_of-nil}
use Rattle.cbm_text.specs.declared.fault.BasicFault.{BasicFault}
use Rattle.cbm_text.specs.declared.fault.BasicFault.TheVariants.{NoNumber, NumberTooLarge, Text, TokenByte, ZeroByte, TooLong, Memory}
use Rattle.cbm_text.specs.Kept.{Opener, QuoteMark, RemWord, DataWord, opening, opener_byte}
use Rattle.cbm_text.specs.Pieces.{LinePiece, Kept, Token, Question, Single, print_token, crunched_piece, ArePieces}
use Rattle.cbm_text.specs.Keywords.{keywords, token_from}
use Rattle.cbm_text.specs.Crunching.{question, AreTextPieces, Crunched}
use Rattle.cbm_text.specs.Program.{ProgramLine, Program, word, address_behind, line_layout, lines_layout, layout, BeginsLine, LinesRead, ReadsProgram}
use Rattle.cbm_text.specs.Listing.{line_text, IsListing, Lists}
use Rattle.cbm_text.specs.Modes.{listing}
use Rattle.cbm_text.specs.TextLine.{line_number, rest_of}
use Rattle.cbm_text.specs.BasicText.{IsNumbered, IsTextLineRead, IsCrunched, IsLine, IsTooLong, HasFault, AreLines, FaultsFirst, IsProgramOf, IsFileOf}
use Rattle.cbm_text.specs.NormalText.{AreNormal, IsNormalOf}
use Rattle.cbm_text.specs.Laws.{HasNoFreeQuestion, ReadsOnce, IsUnambiguous, TextComesBack}
use Rattle.cbm_text.proofs.Keywords.{row_of, token_shown}
use Rattle.cbm_text.proofs.LinesBack.{comes_back, crunches_once, lists_once}
use Rattle.cbm_text.proofs.ProgramFiles.{no_line, rest_once, listing_of_program}
use Rattle.cbm_text.proofs.TextPrograms.{no_zero_in}
use Rattle.cbm_text.proofs.NormalLines.{ReadsAsLine, reads_as_line}

-- ---- crunched bytes without $00

-- some byte is $00
abbrev has_zero : List ℕ → Bool
has_zero bytes = list_any (λ y. nat_eq y 0) bytes

zero_parts : (a b : List ℕ) → has_zero (a ++ b) ≡ false → (has_zero a ≡ false) × (has_zero b ≡ false)
zero_parts a b none = or_parts (has_zero a) (has_zero b) (sym (list_any-append (λ y. nat_eq y 0) a b) ∙ none)

zero_joined : (a b : List ℕ) → has_zero a ≡ false → has_zero b ≡ false → has_zero (a ++ b) ≡ false
zero_joined a b none_a none_b = list_any-append (λ y. nat_eq y 0) a b ∙ ap (λ (t : Bool). t || has_zero b) none_a ∙ none_b

zero_test : (bytes : List ℕ) → ¬ (Contains bytes 0) → has_zero bytes ≡ false
zero_test [] none = refl
zero_test (byte ∷ bytes) none = of_test (nat_eq byte 0) refl (zero_test bytes (λ (k, within, is). none (suc k, omega arith, is)))
  where
    of_test : (t : Bool) → nat_eq byte 0 ≡ t → has_zero bytes ≡ false → (t || has_zero bytes) ≡ false
    of_test true at others = let zero_byte : byte ≡ 0 = eqb-true _ _ at in absurd (none (0, omega arith, zero_byte))
    of_test false at others = others

-- bytes without $00 crunch to bytes without $00
token_some : (text : List ℕ) (token : ℕ) (rest : List ℕ) → token_from 128 keywords text ≡ Some (token, rest) → has_zero (token ∷ []) ≡ false
token_some text token rest is = let begins = row_of keywords 128 text token rest is in let high : 128 ≤ token = omega (arith, begins.at) in grind (arith, nat_tests)

opener_some : (opener : Opener) (run : List ℕ) → has_zero run ≡ false → has_zero (opener_byte opener ∷ run) ≡ false
opener_some QuoteMark run none = none
opener_some RemWord run none = none
opener_some DataWord run none = none

pieces_no_zero : (pieces : List LinePiece) (text : List ℕ) → AreTextPieces text pieces → has_zero text ≡ false → has_zero (flat_map crunched_piece pieces) ≡ false
unfolding ArePieces
pieces_no_zero [] text cut none = refl
pieces_no_zero (Kept opener run ∷ pieces) text (rest, (text_is, kept), others) none =
    let parts = zero_parts (opening opener ++ run) rest (ap (λ (w : List ℕ). has_zero w) (sym text_is) ∙ none) in
    let kept_parts = zero_parts (opening opener) run parts.0 in
    zero_joined (opener_byte opener ∷ run) (flat_map crunched_piece pieces) (opener_some opener run kept_parts.1) (pieces_no_zero pieces rest others parts.1)
pieces_no_zero (Token token ∷ pieces) text (rest, (no_opener, is), others) none =
    let shown_word = token_shown text token rest is in
    let parts = zero_parts shown_word.0 rest (ap (λ (w : List ℕ). has_zero w) (sym shown_word.2) ∙ none) in
    zero_joined (token ∷ []) (flat_map crunched_piece pieces) (token_some text token rest is) (pieces_no_zero pieces rest others parts.1)
pieces_no_zero (Question ∷ pieces) text (rest, text_is, others) none =
    let parts = zero_parts (question ∷ []) rest (ap (λ (w : List ℕ). has_zero w) (sym text_is) ∙ none) in
    zero_joined (print_token ∷ []) (flat_map crunched_piece pieces) refl (pieces_no_zero pieces rest others parts.1)
pieces_no_zero (Single byte ∷ pieces) text (rest, (no_opener, no_token, text_is, plain, kept), others) none =
    let parts = zero_parts (byte ∷ []) rest (ap (λ (w : List ℕ). has_zero w) (sym text_is) ∙ none) in
    zero_joined (byte ∷ []) (flat_map crunched_piece pieces) parts.0 (pieces_no_zero pieces rest others parts.1)

crunched_no_zero : (text codes : List ℕ) → Crunched text codes → ¬ (Contains text 0) → ¬ (Contains codes 0)
unfolding Crunched
crunched_no_zero text codes (pieces, cut, is) none = no_zero_in codes (sym (ap (λ (w : List ℕ). has_zero w) is ∙ pieces_no_zero pieces text cut (zero_test text none)))

-- ---- the program of a text reads

-- a line that was laid out begins what follows
link_some : (next : ℕ) → 1 ≤ next → ¬ ((next % 256 ≡ 0) × (next / 256 ≡ 0))
link_some next some (low, high) = omega arith

begins_layout : (at : ℕ) (text : List ℕ) (line : ProgramLine) (rest : List ℕ) → IsLine at text line → BeginsLine (line_layout at line ++ rest) line rest
begins_layout at text line rest is_line = record {
  low = address_behind at line.bytes % 256;
  high = address_behind at line.bytes / 256;
  joined = regroup (word (address_behind at line.bytes)) (word line.number) line.bytes rest;
  link = link_some (address_behind at line.bytes) (omega arith);
  number = subst (λ (n : ℕ). n < 2 ^ 16) (sym is_line.number) is_line.crunched.read.numbered.small;
  no_zero = crunched_no_zero is_line.bytes line.bytes is_line.crunched.crunched is_line.no_zero;
}
  where
    regroup : (a b c d : List ℕ) → a ++ b ++ c ++ 0 ∷ [] ++ d ≡ a ++ (b ++ c ++ 0 ∷ d)
    regroup a b c d = simp append_assoc

lines_read : (at : ℕ) (raws : List (List ℕ)) (program : Program) → AreLines at raws program → LinesRead (lines_layout at program) program
unfolding AreLines LinesRead lines_layout
lines_read at [] program none = subst (λ (p : Program). LinesRead (lines_layout at p) p) (sym none) ([], refl)
lines_read at (raw ∷ raws) program (inl (skipped, lines)) = lines_read at raws program lines
lines_read at (raw ∷ raws) program (inr (kept, line, more, is, is_line, lines)) =
    let whole : LinesRead (lines_layout at (line ∷ more)) (line ∷ more) =
    (lines_layout (address_behind at line.bytes) more, begins_layout at (text_of raw) line (lines_layout (address_behind at line.bytes) more) is_line, lines_read (address_behind at line.bytes) raws more lines) in
    subst (λ (p : Program). LinesRead (lines_layout at p) p) (sym is) whole

layout_reads : (start : ℕ) (text : List ℕ) (program : Program) → IsProgramOf start text program → ReadsProgram (layout start program) program
unfolding ReadsProgram
layout_reads start text program lines = (start % 256, start / 256, lines_layout start program, refl, lines_read start (lines_of text) program lines)

-- ---- one program

-- a line that begins bytes is one line
word_once : (m n : ℕ) → word m ≡ word n → m ≡ n
word_once m n same =
    let low : m % 256 ≡ n % 256 = ap (λ (w : List ℕ). get_or w 0 0) same in
    let high : m / 256 ≡ n / 256 = ap (λ (w : List ℕ). get_or w 1 0) same in
    omega arith

-- a line is its number and its bytes
abbrev made : ℕ → List ℕ → ProgramLine
made number bytes = record { number = number; bytes = bytes }

same_line : (x y : ProgramLine) → x.number ≡ y.number → x.bytes ≡ y.bytes → x ≡ y
same_line x y numbers bytes = ap (λ (n : ℕ). made n x.bytes) numbers ∙ ap (λ (w : List ℕ). made y.number w) bytes

line_once : (bytes : List ℕ) (x y : ProgramLine) (rest other : List ℕ) → BeginsLine bytes x rest → BeginsLine bytes y other → x ≡ y
line_once bytes x y rest other begins begins_y =
    let same : begins.low ∷ begins.high ∷ (x.number % 256) ∷ (x.number / 256) ∷ (x.bytes ++ 0 ∷ rest) ≡ begins_y.low ∷ begins_y.high ∷ (y.number % 256) ∷ (y.number / 256) ∷ (y.bytes ++ 0 ∷ other) = sym begins.joined ∙ begins_y.joined in
    let numbers : x.number ≡ y.number = word_once x.number y.number (ap (λ (w : List ℕ). take 2 (drop 2 w)) same) in
    let behind : rest ≡ other = rest_once bytes x y rest other begins begins_y in
    let tails : x.bytes ++ 0 ∷ rest ≡ y.bytes ++ 0 ∷ rest = ap (λ (w : List ℕ). drop 4 w) same ∙ ap (λ (w : List ℕ). y.bytes ++ 0 ∷ w) (sym behind) in
    same_line x y numbers (append_cancel_right x.bytes y.bytes (0 ∷ rest) tails)

lines_once : (bytes : List ℕ) (program other : Program) → LinesRead bytes program → LinesRead bytes other → program ≡ other
unfolding LinesRead
lines_once bytes [] [] end end' = refl
lines_once bytes [] (line ∷ other) (behind, is) (rest, begins, read) = absurd (no_line bytes line rest behind begins is)
lines_once bytes (line ∷ program) [] (rest, begins, read) (behind, is) = absurd (no_line bytes line rest behind begins is)
lines_once bytes (line ∷ program) (line' ∷ other) (rest, begins, read) (rest', begins', read') =
    let behind : rest' ≡ rest = rest_once bytes line' line rest' rest begins' begins in
    ap (λ (p : Program). line ∷ p) (lines_once rest program other read (subst (λ (w : List ℕ). LinesRead w other) behind read')) ∙ ap (λ (l : ProgramLine). l ∷ other) (line_once bytes line line' rest rest' begins begins')

program_once : (file : List ℕ) (program other : Program) → ReadsProgram file program → ReadsProgram file other → program ≡ other
unfolding ReadsProgram
program_once file program other (low, high, lines, is, read) (low', high', lines', is', read') =
    let same : low ∷ high ∷ lines ≡ low' ∷ high' ∷ lines' = sym is ∙ is' in
    let behind : lines' ≡ lines = sym (ap (λ (w : List ℕ). drop 2 w) same) in
    lines_once lines program other read (subst (λ (w : List ℕ). LinesRead w other) behind read')

listing_once : (program : Program) (text other : List ℕ) → IsListing program text → IsListing program other → text ≡ other
unfolding IsListing
listing_once [] text other none nothing = none ∙ sym nothing
listing_once (line ∷ lines) text other (bytes, rest, listed, more, is) (bytes', rest', listed', more', is') =
    let same : bytes ≡ bytes' = (lists_once line.bytes).once bytes bytes' listed listed' in
    is ∙ ap (λ (w : List ℕ). line_text line.number w ++ rest) same ∙ ap (λ (w : List ℕ). line_text line.number bytes' ++ w) (listing_once lines rest rest' more more') ∙ sym is'

pub reads_once : (file : List ℕ) → ReadsOnce file
unfolding Lists
reads_once file = record {
  program = program_once file;
  listing = λ text other (program, read, lists) (program', read', lists').
      listing_once program text other lists (subst (λ (p : Program). IsListing p other) (program_once file program' program read' read) lists');
}

-- ---- one program of a text

-- a text line is one line, and has no fault
is_line_once : (at : ℕ) (text : List ℕ) (x y : ProgramLine) → IsLine at text x → IsLine at text y → x ≡ y
is_line_once at text x y is_x is_y =
    let same : is_y.bytes ≡ is_x.bytes = one_reading (rest_of text) is_y.bytes is_x.bytes is_y.crunched.read.read is_x.crunched.read.read in
    same_line x y (is_x.number ∙ sym is_y.number) (crunches_once is_x.bytes x.bytes y.bytes is_x.crunched.crunched (subst (λ (w : List ℕ). Crunched w y.bytes) same is_y.crunched.crunched))

line_no_fault : (at number : ℕ) (text : List ℕ) (line : ProgramLine) (fault : BasicFault) → IsLine at text line → ¬ (HasFault at number text fault)
line_no_fault at number text line (NoNumber known) is_line (place, none) = is_line.crunched.read.numbered.some none
line_no_fault at number text line (NumberTooLarge known) is_line (place, some, large) = let small = is_line.crunched.read.numbered.small in omega arith
line_no_fault at number text line (Text known fault) is_line (place, numbered, first) = no_fault (rest_of text) is_line.bytes fault is_line.crunched.read.read first
line_no_fault at number text line (TokenByte known) is_line (place, bytes, read, never) =
    let same : is_line.bytes ≡ bytes = one_reading (rest_of text) is_line.bytes bytes is_line.crunched.read.read read.read in
    never line.bytes (subst (λ (w : List ℕ). Crunched w line.bytes) same is_line.crunched.crunched)
line_no_fault at number text line (ZeroByte known) is_line (place, bytes, codes, crunched_is, zero_in) =
    let same : bytes ≡ is_line.bytes = one_reading (rest_of text) bytes is_line.bytes crunched_is.read.read is_line.crunched.read.read in
    is_line.no_zero (subst (λ (w : List ℕ). Contains w 0) same zero_in)
line_no_fault at number text line (TooLong known) is_line (place, bytes, codes, crunched_is, no_zero, long) =
    let same : bytes ≡ is_line.bytes = one_reading (rest_of text) bytes is_line.bytes crunched_is.read.read is_line.crunched.read.read in
    let codes_same : codes ≡ line.bytes = crunches_once is_line.bytes codes line.bytes (subst (λ (w : List ℕ). Crunched w codes) same crunched_is.crunched) is_line.crunched.crunched in
    too_long codes codes_same long
  where
    too_long : (codes : List ℕ) → codes ≡ line.bytes → ¬ (IsTooLong at codes)
    too_long codes same (inl many) = let short = is_line.short in omega (arith, ap length same)
    too_long codes same (inr far) = let linked = is_line.linked in omega (arith, ap length same)
line_no_fault at number text line (Memory error) is_line never = never

-- a number that fits is not too large
fits_not : (text : List ℕ) → IsNumbered text → ¬ (2 ^ 16 ≤ line_number text)
fits_not text numbered large = let small = numbered.small in omega arith

-- bytes that crunch to nothing are not those of a line that crunches
never_not : (text bytes other codes : List ℕ) → IsTextLineRead text bytes → ((all : List ℕ) → ¬ (Crunched bytes all)) → ¬ (IsCrunched text other codes)
never_not text bytes other codes read never crunched_is =
    let same : other ≡ bytes = one_reading (rest_of text) other bytes crunched_is.read.read read.read in
    never codes (subst (λ (w : List ℕ). Crunched w codes) same crunched_is.crunched)

-- a line with a $00 is not one without
zero_not : (text bytes other : List ℕ) → IsTextLineRead text bytes → Contains bytes 0 → IsTextLineRead text other → ¬ (¬ (Contains other 0))
zero_not text bytes other read zero_in read' no_zero =
    let same : bytes ≡ other = one_reading (rest_of text) bytes other read.read read'.read in
    no_zero (subst (λ (w : List ℕ). Contains w 0) same zero_in)

-- a text line has one least fault
line_one_fault : (at number : ℕ) (text : List ℕ) (a b : BasicFault) → HasFault at number text a → HasFault at number text b → a ≡ b
line_one_fault at number text (NoNumber x) (NoNumber y) p q = ap (λ (n : ℕ). NoNumber n) (p.0 ∙ sym q.0)
line_one_fault at number text (NoNumber x) (NumberTooLarge y) (p, none) (q, some, _) = absurd (some none)
line_one_fault at number text (NoNumber x) (Text y why) (p, none) (q, numbered, _) = absurd (numbered.some none)
line_one_fault at number text (NoNumber x) (TokenByte y) (p, none) (q, _, read, _) = absurd (read.numbered.some none)
line_one_fault at number text (NoNumber x) (ZeroByte y) (p, none) (q, _, _, is, _) = absurd (is.read.numbered.some none)
line_one_fault at number text (NoNumber x) (TooLong y) (p, none) (q, _, _, is, _, _) = absurd (is.read.numbered.some none)
line_one_fault at number text (NumberTooLarge x) (NoNumber y) (p, some, _) (q, none) = absurd (some none)
line_one_fault at number text (NumberTooLarge x) (NumberTooLarge y) p q = ap (λ (n : ℕ). NumberTooLarge n) (p.0 ∙ sym q.0)
line_one_fault at number text (NumberTooLarge x) (Text y why) (p, _, large) (q, numbered, _) = absurd (fits_not text numbered large)
line_one_fault at number text (NumberTooLarge x) (TokenByte y) (p, _, large) (q, _, read, _) = absurd (fits_not text read.numbered large)
line_one_fault at number text (NumberTooLarge x) (ZeroByte y) (p, _, large) (q, _, _, is, _) = absurd (fits_not text is.read.numbered large)
line_one_fault at number text (NumberTooLarge x) (TooLong y) (p, _, large) (q, _, _, is, _, _) = absurd (fits_not text is.read.numbered large)
line_one_fault at number text (Text x why) (NoNumber y) (p, numbered, _) (q, none) = absurd (numbered.some none)
line_one_fault at number text (Text x why) (NumberTooLarge y) (p, numbered, _) (q, _, large) = absurd (fits_not text numbered large)
line_one_fault at number text (Text x why) (Text y other) (p, _, first) (q, _, also) =
    ap (λ (n : ℕ). Text n why) (p ∙ sym q) ∙ ap (λ (w : TextFault). Text y w) (one_fault (rest_of text) why other first also)
line_one_fault at number text (Text x why) (TokenByte y) (p, _, first) (q, bytes, read, _) = absurd (no_fault (rest_of text) bytes why read.read first)
line_one_fault at number text (Text x why) (ZeroByte y) (p, _, first) (q, bytes, _, is, _) = absurd (no_fault (rest_of text) bytes why is.read.read first)
line_one_fault at number text (Text x why) (TooLong y) (p, _, first) (q, bytes, _, is, _, _) = absurd (no_fault (rest_of text) bytes why is.read.read first)
line_one_fault at number text (TokenByte x) (NoNumber y) (p, _, read, _) (q, none) = absurd (read.numbered.some none)
line_one_fault at number text (TokenByte x) (NumberTooLarge y) (p, _, read, _) (q, _, large) = absurd (fits_not text read.numbered large)
line_one_fault at number text (TokenByte x) (Text y why) (p, bytes, read, _) (q, _, first) = absurd (no_fault (rest_of text) bytes why read.read first)
line_one_fault at number text (TokenByte x) (TokenByte y) p q = ap (λ (n : ℕ). TokenByte n) (p.0 ∙ sym q.0)
line_one_fault at number text (TokenByte x) (ZeroByte y) (p, bytes, read, never) (q, other, codes, is, _) = absurd (never_not text bytes other codes read never is)
line_one_fault at number text (TokenByte x) (TooLong y) (p, bytes, read, never) (q, other, codes, is, _, _) = absurd (never_not text bytes other codes read never is)
line_one_fault at number text (ZeroByte x) (NoNumber y) (p, _, _, is, _) (q, none) = absurd (is.read.numbered.some none)
line_one_fault at number text (ZeroByte x) (NumberTooLarge y) (p, _, _, is, _) (q, _, large) = absurd (fits_not text is.read.numbered large)
line_one_fault at number text (ZeroByte x) (Text y why) (p, bytes, _, is, _) (q, _, first) = absurd (no_fault (rest_of text) bytes why is.read.read first)
line_one_fault at number text (ZeroByte x) (TokenByte y) (p, other, codes, is, _) (q, bytes, read, never) = absurd (never_not text bytes other codes read never is)
line_one_fault at number text (ZeroByte x) (ZeroByte y) p q = ap (λ (n : ℕ). ZeroByte n) (p.0 ∙ sym q.0)
line_one_fault at number text (ZeroByte x) (TooLong y) (p, bytes, _, is, zero_in) (q, other, _, also, no_zero, _) = absurd (zero_not text bytes other is.read zero_in also.read no_zero)
line_one_fault at number text (TooLong x) (NoNumber y) (p, _, _, is, _, _) (q, none) = absurd (is.read.numbered.some none)
line_one_fault at number text (TooLong x) (NumberTooLarge y) (p, _, _, is, _, _) (q, _, large) = absurd (fits_not text is.read.numbered large)
line_one_fault at number text (TooLong x) (Text y why) (p, bytes, _, is, _, _) (q, _, first) = absurd (no_fault (rest_of text) bytes why is.read.read first)
line_one_fault at number text (TooLong x) (TokenByte y) (p, other, codes, is, _, _) (q, bytes, read, never) = absurd (never_not text bytes other codes read never is)
line_one_fault at number text (TooLong x) (ZeroByte y) (p, other, _, also, no_zero, _) (q, bytes, _, is, zero_in) = absurd (zero_not text bytes other is.read zero_in also.read no_zero)
line_one_fault at number text (TooLong x) (TooLong y) p q = ap (λ (n : ℕ). TooLong n) (p.0 ∙ sym q.0)
line_one_fault at number text (Memory x) b none other = absurd none
line_one_fault at number text a (Memory y) one none = absurd none

texts_once : (at : ℕ) (raws : List (List ℕ)) (program other : Program) → AreLines at raws program → AreLines at raws other → program ≡ other
unfolding AreLines
texts_once at [] program other none nothing = none ∙ sym nothing
texts_once at (raw ∷ raws) program other (inl (skipped, lines)) (inl (again, lines')) = texts_once at raws program other lines lines'
texts_once at (raw ∷ raws) program other (inl (skipped, lines)) (inr (kept, line, more, is, is_line, others)) = let never : true ≡ false = sym skipped ∙ kept in absurd cc
texts_once at (raw ∷ raws) program other (inr (kept, line, more, is, is_line, others)) (inl (skipped, lines)) = let never : true ≡ false = sym skipped ∙ kept in absurd cc
texts_once at (raw ∷ raws) program other (inr (kept, line, more, is, is_line, lines)) (inr (kept', line', more', is', is_line', lines')) =
    let same : line' ≡ line = is_line_once at (text_of raw) line' line is_line' is_line in
    let others : more ≡ more' = texts_once (address_behind at line.bytes) raws more more' lines (subst (λ (l : ProgramLine). AreLines (address_behind at l.bytes) raws more') same lines') in
    is ∙ ap (λ (p : Program). line ∷ p) others ∙ ap (λ (l : ProgramLine). l ∷ more') (sym same) ∙ sym is'

text_no_fault : (at number : ℕ) (raws : List (List ℕ)) (program : Program) (fault : BasicFault) → AreLines at raws program → ¬ (FaultsFirst at number raws fault)
unfolding AreLines FaultsFirst
text_no_fault at number [] program fault lines never = never
text_no_fault at number (raw ∷ raws) program fault (inl (skipped, lines)) (inl (again, first)) = text_no_fault at (number + 1) raws program fault lines first
text_no_fault at number (raw ∷ raws) program fault (inl (skipped, lines)) (inr (kept, first)) = let never : true ≡ false = sym skipped ∙ kept in absurd cc
text_no_fault at number (raw ∷ raws) program fault (inr (kept, line, more, is, is_line, others)) (inl (skipped, first)) = let never : true ≡ false = sym skipped ∙ kept in absurd cc
text_no_fault at number (raw ∷ raws) program fault (inr (kept, line, more, is, is_line, lines)) (inr (kept', inl here)) = line_no_fault at number (text_of raw) line fault is_line here
text_no_fault at number (raw ∷ raws) program fault (inr (kept, line, more, is, is_line, lines)) (inr (kept', inr (line', is_line', later))) =
    let same : line' ≡ line = is_line_once at (text_of raw) line' line is_line' is_line in
    text_no_fault (address_behind at line.bytes) (number + 1) raws more fault lines (subst (λ (l : ProgramLine). FaultsFirst (address_behind at l.bytes) (number + 1) raws fault) same later)

text_one_fault : (at number : ℕ) (raws : List (List ℕ)) (a b : BasicFault) → FaultsFirst at number raws a → FaultsFirst at number raws b → a ≡ b
unfolding FaultsFirst
text_one_fault at number [] a b one other = absurd one
text_one_fault at number (raw ∷ raws) a b (inl (skipped, one)) (inl (again, other)) = text_one_fault at (number + 1) raws a b one other
text_one_fault at number (raw ∷ raws) a b (inl (skipped, one)) (inr (kept, other)) = let never : true ≡ false = sym skipped ∙ kept in absurd cc
text_one_fault at number (raw ∷ raws) a b (inr (kept, one)) (inl (skipped, other)) = let never : true ≡ false = sym skipped ∙ kept in absurd cc
text_one_fault at number (raw ∷ raws) a b (inr (kept, inl one)) (inr (kept', inl other)) = line_one_fault at number (text_of raw) a b one other
text_one_fault at number (raw ∷ raws) a b (inr (kept, inl one)) (inr (kept', inr (line, is_line, later))) = absurd (line_no_fault at number (text_of raw) line a is_line one)
text_one_fault at number (raw ∷ raws) a b (inr (kept, inr (line, is_line, later))) (inr (kept', inl other)) = absurd (line_no_fault at number (text_of raw) line b is_line other)
text_one_fault at number (raw ∷ raws) a b (inr (kept, inr (line, is_line, later))) (inr (kept', inr (line', is_line', later'))) =
    let same : line' ≡ line = is_line_once at (text_of raw) line' line is_line' is_line in
    text_one_fault (address_behind at line.bytes) (number + 1) raws a b later (subst (λ (l : ProgramLine). FaultsFirst (address_behind at l.bytes) (number + 1) raws b) same later')

pub is_unambiguous : (start : ℕ) (text : List ℕ) → IsUnambiguous start text
unfolding IsFileOf
is_unambiguous start text = record {
  program = texts_once start (lines_of text);
  file = λ file other (program, lines, is) (program', lines', is'). is ∙ ap (λ (p : Program). layout start p) (texts_once start (lines_of text) program program' lines lines') ∙ sym is';
  no_fault = λ file fault (program, lines, is) first. text_no_fault start 1 (lines_of text) program fault lines first;
  fault = text_one_fault start 1 (lines_of text);
}

-- ---- listings of texts

-- no free `?` in these raw lines
abbrev ArePlain : List (List ℕ) → Type 0
ArePlain raws = All (λ raw. is_skipped (text_of raw) ≡ false → (bytes : List ℕ) → IsTextOf bytes (rest_of (text_of raw)) → HasNoFreeQuestion bytes) raws

plain_tail : (raw : List ℕ) (raws : List (List ℕ)) → ArePlain (raw ∷ raws) → ArePlain raws
plain_tail raw raws plain = All-tail (λ raw. is_skipped (text_of raw) ≡ false → (bytes : List ℕ) → IsTextOf bytes (rest_of (text_of raw)) → HasNoFreeQuestion bytes) raw raws plain

normal_listing : (at : ℕ) (raws : List (List ℕ)) (program : Program) (text : List ℕ) → ArePlain raws → AreLines at raws program → IsListing program text → AreNormal raws text
unfolding AreLines AreNormal IsListing
normal_listing at [] program text plain none lists = subst (λ (p : Program). IsListing p text) none lists
normal_listing at (raw ∷ raws) program text plain (inl (skipped, lines)) lists = inl (skipped, normal_listing at raws program text (plain_tail raw raws plain) lines lists)
normal_listing at (raw ∷ raws) program text plain (inr (kept, line, more, is, is_line, lines)) lists =
    let (bytes, rest, listed, others, text_is) : IsListing (line ∷ more) text = subst (λ (p : Program). IsListing p text) is lists in
    let plain_line = plain 0 [] (omega arith) kept is_line.bytes is_line.crunched.read.read in
    let same : bytes ≡ is_line.bytes = (lists_once line.bytes).once bytes is_line.bytes listed (comes_back is_line.bytes line.bytes plain_line is_line.crunched.crunched) in
    inr (
      kept,
      is_line.bytes,
      rest,
      is_line.crunched.read.read,
      normal_listing (address_behind at line.bytes) raws more rest (plain_tail raw raws plain) lines others,
      text_is ∙ ap (λ (w : List ℕ). line_text line.number w ++ rest) same ∙ ap (λ (n : ℕ). line_text n is_line.bytes ++ rest) is_line.number,
    )

-- the normal spelling of a text stands for the text's program
normal_line : (at : ℕ) (text bytes : List ℕ) (line : ProgramLine) (rest : List ℕ) → IsLine at text line → IsTextOf bytes (rest_of text) → (reads : ReadsAsLine (line_number text) bytes rest) → IsLine at (text_of reads.raw) line
normal_line at text bytes line rest is_line read reads =
    let same : is_line.bytes ≡ bytes = one_reading (rest_of text) is_line.bytes bytes is_line.crunched.read.read read in
    record {
      bytes = bytes;
      crunched = record {
        read = record { numbered = record { some = reads.digits; small = subst (λ (n : ℕ). n < 2 ^ 16) (sym reads.number_is) is_line.crunched.read.numbered.small }; read = reads.bytes_are };
        crunched = subst (λ (w : List ℕ). Crunched w line.bytes) same is_line.crunched.crunched;
      };
      number = is_line.number ∙ sym reads.number_is;
      no_zero = subst (λ (w : List ℕ). ¬ (Contains w 0)) same is_line.no_zero;
      short = is_line.short;
      linked = is_line.linked;
    }

normal_program : (at : ℕ) (raws : List (List ℕ)) (program : Program) (normal : List ℕ) → AreLines at raws program → AreNormal raws normal → AreLines at (lines_of normal) program
unfolding AreLines AreNormal
normal_program at [] program normal none empty = subst (λ (w : List ℕ). AreLines at (lines_of w) program) (sym empty) (subst (λ (l : List (List ℕ)). AreLines at l program) (sym lines_of-nil) none)
normal_program at (raw ∷ raws) program normal (inl (skipped, lines)) (inl (again, more)) = normal_program at raws program normal lines more
normal_program at (raw ∷ raws) program normal (inl (skipped, lines)) (inr (kept, bytes, others, read, spelled, normal_is)) = let never : true ≡ false = sym skipped ∙ kept in absurd cc
normal_program at (raw ∷ raws) program normal (inr (kept, line, more, is, is_line, lines)) (inl (skipped, others)) = let never : true ≡ false = sym skipped ∙ kept in absurd cc
normal_program at (raw ∷ raws) program normal (inr (kept, line, more, is, is_line, lines)) (inr (kept', bytes, others, read, spelled, normal_is)) =
    let reads = reads_as_line (line_number (text_of raw)) bytes (rest_of (text_of raw)) others is_line.crunched.read.numbered.small read in
    let behind = normal_program (address_behind at line.bytes) raws more others lines spelled in
    let whole : AreLines at (reads.raw ∷ lines_of others) program = inr (reads.kept, line, more, is, normal_line at (text_of raw) bytes line others is_line read reads, behind) in
    subst (λ (l : List (List ℕ)). AreLines at l program) (sym (ap (λ (w : List ℕ). lines_of w) normal_is ∙ reads.first)) whole

pub text_comes_back : (start : ℕ) (text : List ℕ) → TextComesBack start text
unfolding IsFileOf Lists
text_comes_back start text file plain (program, lines, is) =
    let read : ReadsProgram file program = subst (λ (w : List ℕ). ReadsProgram w program) (sym is) (layout_reads start text program lines) in
    let normal = normal_of read in
    record {
      listed = (listing program, (program, read, listing_of_program program));
      normal = normal;
      again = λ text' lists. (program, normal_program start (lines_of text) program text' lines (normal text' lists), is);
    }
  where
    normal_of : ReadsProgram file program → (text' : List ℕ) → Lists file text' → IsNormalOf text text'
    normal_of read text' (program', read', lists) = normal_listing start (lines_of text) program text' plain lines (subst (λ (p : Program). IsListing p text') (program_once file program' program read' read) lists)
