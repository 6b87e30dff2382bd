-- Lines that have no LF except, at most, at their end.
use Rattle.std.proofs.Common.{◌≡◌, ℕ, ◌-◌, ◌<◌, Bool, true, false, cond, eqb, ◌&&◌, ◌⊎◌, inl, inr, lt-ltb, le-ltb, ltb, ◌≤◌, drop, take-append-drop, take_at, length-append, List, [], ◌∷◌, ◌++◌, length, take, get_or, refl, sym, ap, ◌∙◌, subst, arith, ⊎_elim, eq-eqb, eqb-true}
use Rattle.std.specs.Prelude.{MatchBool}
use Rattle.std.proofs.lemmas.Bool.{cases_Bool, or_parts, or_from, false≢true}
use Rattle.std.proofs.lemmas.List.Folds.{list_any-append}
use Rattle.std.proofs.Math.Seq.{get_or-append_seam}
use Rattle.std.specs.List.{onto_first, list_any, flat_map}
use Rattle.std.specs.Io.BufRead.{take_through, drop_through, ends_with_byte, strip_last}
use Rattle.script_text.specs.HeldLine.{HoldsLine, IsOpen, HoldsText}
use Rattle.script_text.specs.RawLines.{before_end, is_ended, is_too_long, lines_of, line_limit, text_of}
use Rattle.script_text.specs.declared.held_line.HeldLine.{HeldLine}
use Rattle.script_text.proofs.LineCuts.{is_line_feed, lines_of-end, lines_of-inside, lines_of-open, lines_of-nil, lines_of-through, list_any-ended, flat_map-lines_of}

-- bytes with no LF, and more of them
pub IsOpen-append : (front back : List ℕ) → IsOpen front → IsOpen back → IsOpen (front ++ back)
IsOpen-append front back a b = list_any-append is_line_feed front back ∙ or_from (list_any is_line_feed front) (list_any is_line_feed back) a b

pub IsOpen-front : (front back : List ℕ) → IsOpen (front ++ back) → IsOpen front
IsOpen-front front back whole =
    (or_parts (list_any is_line_feed front) (list_any is_line_feed back) (sym (list_any-append is_line_feed front back) ∙ whole)).0

-- an LF after such bytes ends their line
pub lines_of-ended : (front more : List ℕ) → IsOpen front → lines_of (front ++ 10 ∷ more) ≡ (front ++ 10 ∷ []) ∷ lines_of more
lines_of-ended [] more open_front = lines_of-end 10 more refl
lines_of-ended (byte ∷ rest) more open_front =
    let parts = or_parts (eqb byte 10) (list_any is_line_feed rest) open_front in
    lines_of-inside byte (rest ++ 10 ∷ more) parts.0 ∙ ap (onto_first byte) (lines_of-ended rest more parts.1)

-- such bytes are a line, if there are any
pub lines_of-begun : (bytes : List ℕ) → IsOpen bytes → 0 < length bytes → lines_of bytes ≡ bytes ∷ []
lines_of-begun [] is_open some = absurd (omega arith)
lines_of-begun (byte ∷ rest) is_open some = lines_of-open byte rest is_open

-- the last byte of a list is the one put there
ends_with-push : (byte : ℕ) (front : List ℕ) (last : ℕ) → ends_with_byte byte (front ++ last ∷ []) ≡ eqb last byte
ends_with-push byte front last =
    let whole = front ++ last ∷ [] in
    let some : 0 < length whole = omega (arith, length-append front (last ∷ [])) in
    let place : length whole - 1 ≡ length front = omega (arith, length-append front (last ∷ [])) in
    ap (λ b. b && eqb (get_or whole (length whole - 1) 0) byte) (lt-ltb 0 (length whole) some)
    ∙ ap (λ n. eqb (get_or whole n 0) byte) place ∙ ap (λ b. eqb b byte) (get_or-append_seam front last [] 0)

eqb-same : (byte : ℕ) → eqb byte byte ≡ true
eqb-same byte = eq-eqb byte byte refl

pub strip_last-push : (byte : ℕ) (front : List ℕ) → strip_last byte (front ++ byte ∷ []) ≡ front
strip_last-push byte front =
    let whole = front ++ byte ∷ [] in
    let place : length whole - 1 ≡ length front = omega (arith, length-append front (byte ∷ [])) in
    ap (λ b. cond b (take (length whole - 1) whole) whole) (ends_with-push byte front byte ∙ eqb-same byte)
    ∙ take_at front (byte ∷ []) (length whole - 1) (sym place)

pub is_ended-push : (front : List ℕ) → is_ended (front ++ 10 ∷ []) ≡ true
is_ended-push front = ends_with-push 10 front 10

pub before_end-push : (front : List ℕ) → before_end (front ++ 10 ∷ []) ≡ front
before_end-push front = strip_last-push 10 front

-- bytes with no LF aren't ended
pub is_ended-open : (bytes : List ℕ) → IsOpen bytes → is_ended bytes ≡ false
is_ended-open bytes is_open =
    ⊎_elim (λ ended. absurd (false≢true (sym is_open ∙ list_any-ended bytes ended))) (λ none. none) (cases_Bool (is_ended bytes))

pub before_end-open : (bytes : List ℕ) → IsOpen bytes → before_end bytes ≡ bytes
before_end-open bytes is_open = ap (λ b. cond b (take (length bytes - 1) bytes) bytes) (is_ended-open bytes is_open)

pub text_of-open : (bytes : List ℕ) → IsOpen bytes → text_of bytes ≡ bytes
text_of-open bytes is_open = ap (λ b. cond b (strip_last 13 (before_end bytes)) bytes) (is_ended-open bytes is_open)

-- what a line with its LF says
pub text_of-push : (front : List ℕ) → text_of (front ++ 10 ∷ []) ≡ strip_last 13 front
text_of-push front =
    let whole = front ++ 10 ∷ [] in
    ap (λ b. cond b (strip_last 13 (before_end whole)) whole) (is_ended-push front) ∙ ap (strip_last 13) (before_end-push front)

-- one CR before the LF is no part of it
pub text_of-returned : (front : List ℕ) → text_of ((front ++ 13 ∷ []) ++ 10 ∷ []) ≡ front
text_of-returned front = text_of-push (front ++ 13 ∷ []) ∙ strip_last-push 13 front

-- the first line: bytes with no LF, and an LF or the end
abbrev IsFirst : List ℕ → Type 0
IsFirst script = (before : List ℕ) × IsOpen before × ((take_through 10 script ≡ before ++ 10 ∷ []) ⊎ (take_through 10 script ≡ before))

IsFirst-inside : (byte : ℕ) (rest : List ℕ) → eqb byte 10 ≡ false → IsFirst rest → IsFirst (byte ∷ rest)
IsFirst-inside byte rest inside (before, is_open, through) =
    let longer : take_through 10 (byte ∷ rest) ≡ byte ∷ take_through 10 rest = ap (λ b. cond b (byte ∷ []) (byte ∷ take_through 10 rest)) inside in (
      byte ∷ before,
      or_from (eqb byte 10) (list_any is_line_feed before) inside is_open,
      ⊎_elim (λ ended. inl (longer ∙ ap (λ l. byte ∷ l) ended)) (λ last. inr (longer ∙ ap (λ l. byte ∷ l) last)) through,
    )

first_line_is : (script : List ℕ) → IsFirst script
first_line_is [] = ([], refl, inr refl)
first_line_is (byte ∷ rest) =
    ⊎_elim
    (λ ends. let feed : byte ≡ 10 = eqb-true byte 10 ends in
    ([], refl, inl (ap (λ b. cond b (byte ∷ []) (byte ∷ take_through 10 rest)) ends ∙ ap (λ (b : ℕ). b ∷ []) feed)))
    (λ inside. IsFirst-inside byte rest inside (first_line_is rest))
    (cases_Bool (eqb byte 10))

-- what a raw line is: bytes with no LF, and an LF or the script's end
abbrev pub IsRaw : List ℕ → Type 0
IsRaw line = IsOpen (before_end line) × MatchBool (is_ended line) (line ≡ before_end line ++ 10 ∷ []) (line ≡ before_end line)

in_true : (test : Bool) (P Q : Type 0) → test ≡ true → P → MatchBool test P Q
in_true true P Q holds p = p
in_true false P Q holds p = absurd (false≢true holds)

in_false : (test : Bool) (P Q : Type 0) → test ≡ false → Q → MatchBool test P Q
in_false true P Q holds q = absurd (false≢true (sym holds))
in_false false P Q holds q = q

IsRaw-ended : (line before : List ℕ) → IsOpen before → line ≡ before ++ 10 ∷ [] → IsRaw line
IsRaw-ended line before is_open is =
    let P : List ℕ → Type 0 = λ l. IsRaw l in
    let front = before_end-push before in
    subst P (sym is) (
      subst IsOpen (sym front) is_open,
      in_true (is_ended (before ++ 10 ∷ [])) _ _ (is_ended-push before) (ap (λ l. l ++ 10 ∷ []) (sym front)),
    )

IsRaw-last : (line before : List ℕ) → IsOpen before → line ≡ before → IsRaw line
IsRaw-last line before is_open is =
    let P : List ℕ → Type 0 = λ l. IsRaw l in
    let front = before_end-open before is_open in
    subst P (sym is) (
      subst IsOpen (sym front) is_open,
      in_false (is_ended before) _ _ (is_ended-open before is_open) (sym front),
    )

-- the first of a script's raw lines is one, and the others come after it
pub IsRaw-first : (script line : List ℕ) (others : List (List ℕ)) → lines_of script ≡ line ∷ others → IsRaw line
IsRaw-first [] line others cut = let never : [] ≡ line ∷ others = sym lines_of-nil ∙ cut in cc
IsRaw-first (byte ∷ rest) line others cut =
    let (before, is_open, through) = first_line_is (byte ∷ rest) in
    let both : take_through 10 (byte ∷ rest) ∷ lines_of (drop_through 10 (byte ∷ rest)) ≡ line ∷ others = sym (lines_of-through byte rest) ∙ cut in
    let same : line ≡ take_through 10 (byte ∷ rest) = cc in
    ⊎_elim (λ ended. IsRaw-ended line before is_open (same ∙ ended)) (λ last. IsRaw-last line before is_open (same ∙ last)) through

pub append-lines_of : (script line rest : List ℕ) → lines_of script ≡ line ∷ lines_of rest → line ++ rest ≡ script
append-lines_of script line rest cut =
    sym (sym (flat_map-lines_of script) ∙ ap (flat_map (λ l. l)) cut ∙ ap (λ l. line ++ l) (flat_map-lines_of rest))

-- a CR at the end of a list dropped, no LF comes in
IsOpen-strip_last : (bytes : List ℕ) → IsOpen bytes → IsOpen (strip_last 13 bytes)
IsOpen-strip_last bytes is_open =
    let n = length bytes - 1 in
    let front : IsOpen (take n bytes) = IsOpen-front (take n bytes) (drop n bytes) (subst IsOpen (sym (take-append-drop n bytes)) is_open) in
    ⊎_elim
    (λ ended. subst IsOpen (sym (ap (λ b. cond b (take n bytes) bytes) ended)) front)
    (λ other. subst IsOpen (sym (ap (λ b. cond b (take n bytes) bytes) other)) is_open)
    (cases_Bool (ends_with_byte 13 bytes))

Says-by : (is_long : Bool) (held text before : List ℕ) → length held ≤ line_limit → text ≡ strip_last 13 held
    → MatchBool is_long (line_limit < length before) (held ≡ before) → IsOpen before
    → MatchBool is_long (is_too_long (before ++ 10 ∷ []) ≡ true)
    ((is_too_long (before ++ 10 ∷ []) ≡ false) × (text_of (before ++ 10 ∷ []) ≡ text) × (is_ended text ≡ false))
Says-by true held text before fits is_text holds is_open =
    ap (λ l. ltb line_limit (length l)) (before_end-push before) ∙ lt-ltb line_limit (length before) holds
Says-by false held text before fits is_text holds is_open = (
  ap (λ l. ltb line_limit (length l)) (before_end-push before) ∙ le-ltb line_limit (length before) (omega (arith, fits, ap length holds)),
  text_of-push before ∙ ap (strip_last 13) (sym holds) ∙ sym is_text,
  is_ended-open text (subst IsOpen (sym (is_text ∙ ap (strip_last 13) holds)) (IsOpen-strip_last before is_open)),
)

-- a line that is held says what it is with its LF, once a CR at its end is dropped
pub Says-ended : (old new : HeldLine) (before : List ℕ) → length old.bytes.items ≤ line_limit → new.bytes.items ≡ strip_last 13 old.bytes.items
    → new.is_long ≡ old.is_long → HoldsLine old before → IsOpen before → HoldsText new (before ++ 10 ∷ [])
Says-ended old new before fits is_text long holds is_open = rw long (Says-by old.is_long old.bytes.items new.bytes.items before fits is_text holds is_open)

Says-last-by : (is_long : Bool) (held raw : List ℕ) → length held ≤ line_limit → MatchBool is_long (line_limit < length raw) (held ≡ raw) → IsOpen raw
    → MatchBool is_long (is_too_long raw ≡ true) ((is_too_long raw ≡ false) × (text_of raw ≡ held) × (is_ended held ≡ false))
Says-last-by true held raw fits holds is_open =
    ap (λ l. ltb line_limit (length l)) (before_end-open raw is_open) ∙ lt-ltb line_limit (length raw) holds
Says-last-by false held raw fits holds is_open = (
  ap (λ l. ltb line_limit (length l)) (before_end-open raw is_open) ∙ le-ltb line_limit (length raw) (omega (arith, fits, ap length holds)),
  text_of-open raw is_open ∙ sym holds,
  is_ended-open held (subst IsOpen (sym holds) is_open),
)

-- a line that the script's end ends says what it is
pub Says-last : (line : HeldLine) (raw : List ℕ) → length line.bytes.items ≤ line_limit → HoldsLine line raw → IsOpen raw → HoldsText line raw
Says-last line raw fits holds is_open = Says-last-by line.is_long line.bytes.items raw fits holds is_open
