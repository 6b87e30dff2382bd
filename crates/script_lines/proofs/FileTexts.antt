-- The text of a file, byte by byte.
use Rattle.std.proofs.Common.{◌≡◌, ℕ, ◌+◌, ◌==◌, Bool, true, false, cond, not, List, [], ◌∷◌, ◌++◌, drop, refl, sym, ap, ◌∙◌}
use Rattle.std.specs.Prelude.{codes}
use Rattle.std.specs.List.{flat_map, onto_first}
use Rattle.std.proofs.lemmas.List.{append_assoc, append-nil}
use Rattle.petscii.specs.Spelling.{spell, spelling}
use Rattle.script_lines.specs.FileText.{lines_of_file, shown_line, typed_text}

-- what is shown of the rest of a file, after a line may have begun
unfoldable pub text_after : Bool → List ℕ → List ℕ
text_after true [] = codes "\n"
text_after begun rest = flat_map shown_line (lines_of_file rest)

-- what is shown of a byte
abbrev pub shown_byte : ℕ → List ℕ
shown_byte byte = cond (byte == 13) (codes "\n") (spell byte)

pub text_after-begin : (content : List ℕ) → text_after false content ≡ typed_text content
unfolding text_after typed_text
text_after-begin content = refl

-- a byte that begins a line
alone : (byte : ℕ) → flat_map shown_line (onto_first byte []) ≡ spell byte ++ codes "\n"
unfolding spelling
alone byte = append-nil ((spell byte ++ []) ++ codes "\n") ∙ ap (λ (text : List ℕ). text ++ codes "\n") (append-nil (spell byte))

-- a byte before others of its line
onto_line : (byte : ℕ) (line : List ℕ) (lines : List (List ℕ))
    → flat_map shown_line (onto_first byte (line ∷ lines)) ≡ spell byte ++ flat_map shown_line (line ∷ lines)
unfolding spelling
onto_line byte line lines =
    let rest : List ℕ = flat_map shown_line lines in
    ap (λ (text : List ℕ). text ++ rest) (append_assoc (spell byte) (flat_map spell line) (codes "\n"))
    ∙ append_assoc (spell byte) (flat_map spell line ++ codes "\n") rest

-- if there are bytes there is a line
onto_lines : (byte next : ℕ) (more : List ℕ) (end : Bool)
    → flat_map shown_line (onto_first byte (cond end ([] ∷ lines_of_file more) (onto_first next (lines_of_file more))))
    ≡ spell byte ++ flat_map shown_line (cond end ([] ∷ lines_of_file more) (onto_first next (lines_of_file more)))
onto_lines byte next more true = onto_line byte [] (lines_of_file more)
onto_lines byte next more false = first (lines_of_file more)
  where
    first : (lines : List (List ℕ)) → flat_map shown_line (onto_first byte (onto_first next lines)) ≡ spell byte ++ flat_map shown_line (onto_first next lines)
    first [] = onto_line byte (next ∷ []) []
    first (line ∷ lines) = onto_line byte (next ∷ line) lines

by_test : (end : Bool) (byte : ℕ) (rest : List ℕ)
    → flat_map shown_line (cond end ([] ∷ lines_of_file rest) (onto_first byte (lines_of_file rest)))
    ≡ cond end (codes "\n") (spell byte) ++ text_after (not end) rest
unfolding text_after spelling
by_test true byte rest = refl
by_test false byte [] = alone byte
by_test false byte (next ∷ more) = onto_lines byte next more (next == 13)

-- what is shown of a byte and of the rest
pub text_after-byte : (begun : Bool) (byte : ℕ) (rest : List ℕ) → text_after begun (byte ∷ rest) ≡ shown_byte byte ++ text_after (not (byte == 13)) rest
unfolding text_after
text_after-byte true byte rest = by_test (byte == 13) byte rest
text_after-byte false byte rest = by_test (byte == 13) byte rest

-- the text form of one byte
pub spelling-one : (byte : ℕ) → spelling (byte ∷ []) ≡ spell byte
unfolding spelling
spelling-one byte = append-nil (spell byte)

-- a text to which what is shown of a byte was added, and what comes after it
pub one_more : (begun : Bool) (old new content : List ℕ) (place byte : ℕ) → drop place content ≡ byte ∷ drop (place + 1) content
    → new ≡ old ++ shown_byte byte → old ++ text_after begun (drop place content) ≡ typed_text content
    → new ++ text_after (not (byte == 13)) (drop (place + 1) content) ≡ typed_text content
one_more begun old new content place byte here added is =
    let rest : List ℕ = text_after (not (byte == 13)) (drop (place + 1) content) in
    ap (λ (text : List ℕ). text ++ rest) added
    ∙ append_assoc old (shown_byte byte) rest
    ∙ ap (λ (text : List ℕ). old ++ text) (sym (ap (text_after begun) here ∙ text_after-byte begun byte (drop (place + 1) content)))
    ∙ is

-- what is shown once nothing is left
pub at_end : (begun : Bool) (text content : List ℕ) (place : ℕ) → drop place content ≡ [] → text ++ text_after begun (drop place content) ≡ typed_text content
    → text ++ cond begun (codes "\n") [] ≡ typed_text content
unfolding text_after
at_end true text content place none is = sym (ap (λ (rest : List ℕ). text ++ text_after true rest) none) ∙ is
at_end false text content place none is = sym (ap (λ (rest : List ℕ). text ++ text_after false rest) none) ∙ is
