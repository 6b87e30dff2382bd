-- The keywords of BASIC V2.
use Rattle.std.specs.Prelude.{ℕ, ◌+◌, ◌-◌, Bool, false, List, [], ◌∷◌, length, drop, Option, Some, None, slice_get, nat_eq, nat_le, if◌then◌else◌, codes, ◌==◌}
use Rattle.std.specs.List.{starts_with}

-- The keywords in the order of their tokens, from $80 on, in PETSCII.
unfoldable pub keywords : List (List ℕ)
keywords =
    codes "END" ∷ codes "FOR" ∷ codes "NEXT" ∷ codes "DATA" ∷ codes "INPUT#" ∷ codes "INPUT" ∷ codes "DIM" ∷ codes "READ"
    ∷ codes "LET" ∷ codes "GOTO" ∷ codes "RUN" ∷ codes "IF" ∷ codes "RESTORE" ∷ codes "GOSUB" ∷ codes "RETURN" ∷ codes "REM"
    ∷ codes "STOP" ∷ codes "ON" ∷ codes "WAIT" ∷ codes "LOAD" ∷ codes "SAVE" ∷ codes "VERIFY" ∷ codes "DEF" ∷ codes "POKE"
    ∷ codes "PRINT#" ∷ codes "PRINT" ∷ codes "CONT" ∷ codes "LIST" ∷ codes "CLR" ∷ codes "CMD" ∷ codes "SYS" ∷ codes "OPEN"
    ∷ codes "CLOSE" ∷ codes "GET" ∷ codes "NEW" ∷ codes "TAB(" ∷ codes "TO" ∷ codes "FN" ∷ codes "SPC(" ∷ codes "THEN"
    ∷ codes "NOT" ∷ codes "STEP" ∷ codes "+" ∷ codes "-" ∷ codes "*" ∷ codes "/" ∷ codes "^" ∷ codes "AND"
    ∷ codes "OR" ∷ codes ">" ∷ codes "=" ∷ codes "<" ∷ codes "SGN" ∷ codes "INT" ∷ codes "ABS" ∷ codes "USR"
    ∷ codes "FRE" ∷ codes "POS" ∷ codes "SQR" ∷ codes "RND" ∷ codes "LOG" ∷ codes "EXP" ∷ codes "COS" ∷ codes "SIN"
    ∷ codes "TAN" ∷ codes "ATN" ∷ codes "PEEK" ∷ codes "LEN" ∷ codes "STR$" ∷ codes "VAL" ∷ codes "ASC" ∷ codes "CHR$"
    ∷ codes "LEFT$" ∷ codes "RIGHT$" ∷ codes "MID$" ∷ codes "GO" ∷ []

-- The keyword of a token.
unfoldable pub keyword : ℕ → Option (List ℕ)
keyword token = if nat_le 128 token then slice_get keywords (token - 128) else None

-- The first of some keywords with which a text begins: its token, counted from that of the first
-- keyword, and what follows it.
abbrev pub token_from : ℕ → List (List ℕ) → List ℕ → Option (ℕ × List ℕ)
token_from token [] text = None
token_from token (word ∷ words) text = if starts_with nat_eq text word then Some (token, drop (length word) text) else token_from (token + 1) words text

-- Whether a keyword begins with a byte.
abbrev pub begins_with : ℕ → List ℕ → Bool
begins_with first [] = false
begins_with first (byte ∷ rest) = first == byte

-- The tokens of those keywords that begin with a byte, counted from that of the first one.
abbrev pub tokens_with : ℕ → ℕ → List (List ℕ) → List ℕ
tokens_with first token [] = []
tokens_with first token (word ∷ words) = if begins_with first word then token ∷ tokens_with first (token + 1) words else tokens_with first (token + 1) words
