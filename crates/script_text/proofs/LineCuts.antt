-- How a script is cut into lines: at each LF, and nowhere else.
use Rattle.std.proofs.Common.{◌≡◌, ℕ, suc, ◌+◌, ◌<◌, ◌≤◌, Bool, true, false, cond, eqb, ◌||◌, ◌&&◌, ◌⊎◌, min, not, ltb, lt-ltb, ltb-true, ltb-false, Some, None, take_at, drop_at, length-append, ◌-◌, List, [], ◌∷◌, ◌++◌, length, take, drop, get_or, filter, All, refl, sym, ap, ◌∙◌, arith, ⊎_elim, append-nil}
use Rattle.std.proofs.lemmas.Bool.{cases_Bool, or_parts, or_left, or_right, or_from, false≢true, cond-true, cond-false}
use Rattle.std.proofs.lemmas.List.Elements.{All-nil, All-cons, All-tail, All-same}
use Rattle.std.specs.List.{onto_first, list_any, position_or_len, flat_map}
use Rattle.std.specs.Io.BufRead.{take_through, drop_through}
use Rattle.script_text.specs.RawLines.{lines_of, is_ended, ended_lines}

-- the byte is an LF
abbrev pub is_line_feed : ℕ → Bool
is_line_feed byte = eqb byte 10

pub lines_of-nil : lines_of [] ≡ []
unfolding lines_of
lines_of-nil = refl

-- an LF ends a line
pub lines_of-end : (byte : ℕ) (rest : List ℕ) → eqb byte 10 ≡ true → lines_of (byte ∷ rest) ≡ (byte ∷ []) ∷ lines_of rest
unfolding lines_of
lines_of-end byte rest ends = cond-true (eqb byte 10) ((byte ∷ []) ∷ lines_of rest) (onto_first byte (lines_of rest)) ends

-- any other byte is in the line of the next one
pub lines_of-inside : (byte : ℕ) (rest : List ℕ) → eqb byte 10 ≡ false → lines_of (byte ∷ rest) ≡ onto_first byte (lines_of rest)
unfolding lines_of
lines_of-inside byte rest inside = cond-false (eqb byte 10) ((byte ∷ []) ∷ lines_of rest) (onto_first byte (lines_of rest)) inside

-- the first line goes through the first LF, and the others come after it
abbrev pub CutsFirst : List ℕ → Type 0
CutsFirst script = lines_of script ≡ take_through 10 script ∷ lines_of (drop_through 10 script)

CutsFirst-end : (byte : ℕ) (rest : List ℕ) → eqb byte 10 ≡ true → CutsFirst (byte ∷ rest)
CutsFirst-end byte rest ends = rw ends (lines_of-end byte rest ends)

CutsFirst-last : (byte : ℕ) → eqb byte 10 ≡ false → CutsFirst (byte ∷ [])
CutsFirst-last byte inside =
    rw inside (lines_of-inside byte [] inside ∙ ap (onto_first byte) lines_of-nil ∙ ap (λ (others : List (List ℕ)). (byte ∷ []) ∷ others) (sym lines_of-nil))

CutsFirst-inside : (byte : ℕ) (rest : List ℕ) → eqb byte 10 ≡ false → CutsFirst rest → CutsFirst (byte ∷ rest)
CutsFirst-inside byte rest inside cut = rw inside (lines_of-inside byte rest inside ∙ ap (onto_first byte) cut)

pub lines_of-through : (byte : ℕ) (rest : List ℕ) → CutsFirst (byte ∷ rest)
lines_of-through byte [] = ⊎_elim (CutsFirst-end byte []) (CutsFirst-last byte) (cases_Bool (eqb byte 10))
lines_of-through byte (next ∷ rest) =
    ⊎_elim (CutsFirst-end byte (next ∷ rest)) (λ inside. CutsFirst-inside byte (next ∷ rest) inside (lines_of-through next rest)) (cases_Bool (eqb byte 10))

flat_map-onto_first : (byte : ℕ) (lines : List (List ℕ)) → flat_map (λ line. line) (onto_first byte lines) ≡ byte ∷ flat_map (λ line. line) lines
flat_map-onto_first byte [] = refl
flat_map-onto_first byte (line ∷ lines) = refl

-- the raw lines, one after the other, are the script
pub flat_map-lines_of : (script : List ℕ) → flat_map (λ line. line) (lines_of script) ≡ script
flat_map-lines_of [] = ap (flat_map (λ line. line)) lines_of-nil
flat_map-lines_of (byte ∷ rest) =
    let others = flat_map-lines_of rest in
    ⊎_elim
    (λ ends. ap (flat_map (λ line. line)) (lines_of-end byte rest ends) ∙ ap (λ l. byte ∷ l) others)
    (λ inside. ap (flat_map (λ line. line)) (lines_of-inside byte rest inside) ∙ flat_map-onto_first byte (lines_of rest) ∙ ap (λ l. byte ∷ l) others)
    (cases_Bool (eqb byte 10))

-- the line has a byte
abbrev pub HasByte : List ℕ → Type 0
HasByte line = 0 < length line

HasByte-onto_first : (byte : ℕ) (lines : List (List ℕ)) → All HasByte lines → All HasByte (onto_first byte lines)
HasByte-onto_first byte [] each = All-cons HasByte (byte ∷ []) [] (omega arith) each
HasByte-onto_first byte (line ∷ lines) each = All-cons HasByte (byte ∷ line) lines (omega arith) (All-tail HasByte line lines each)

-- each raw line has a byte
pub lines_of-nonempty : (script : List ℕ) → All HasByte (lines_of script)
lines_of-nonempty [] = All-same HasByte (lines_of []) [] lines_of-nil (All-nil HasByte)
lines_of-nonempty (byte ∷ rest) =
    let others = lines_of-nonempty rest in
    ⊎_elim
    (λ ends. All-same HasByte _ _ (lines_of-end byte rest ends) (All-cons HasByte (byte ∷ []) (lines_of rest) (omega arith) others))
    (λ inside. All-same HasByte _ _ (lines_of-inside byte rest inside) (HasByte-onto_first byte (lines_of rest) others))
    (cases_Bool (eqb byte 10))

length-onto_first : (byte : ℕ) (lines : List (List ℕ)) → length (onto_first byte lines) ≤ length lines + 1
length-onto_first byte [] = omega arith
length-onto_first byte (line ∷ lines) = omega arith

-- there are no more lines than bytes
pub length-lines_of : (script : List ℕ) → length (lines_of script) ≤ length script
length-lines_of [] = omega (arith, ap length lines_of-nil)
length-lines_of (byte ∷ rest) =
    let others = length-lines_of rest in
    ⊎_elim
    (λ ends. omega (arith, others, ap length (lines_of-end byte rest ends)))
    (λ inside. omega (arith, others, ap length (lines_of-inside byte rest inside), length-onto_first byte (lines_of rest)))
    (cases_Bool (eqb byte 10))

-- whether a line is ended is seen at its last byte
is_ended-last : (byte : ℕ) (line : List ℕ) → is_ended (byte ∷ line) ≡ eqb (get_or (byte ∷ line) (length line) 0) 10
is_ended-last byte line =
    let last : suc (length line) - 1 ≡ length line = omega arith in
    ap (λ b. b && eqb (get_or (byte ∷ line) (suc (length line) - 1) 0) 10) (lt-ltb 0 (suc (length line)) (omega arith))
    ∙ ap (λ n. eqb (get_or (byte ∷ line) n 0) 10) last

is_ended-before : (byte next : ℕ) (line : List ℕ) → is_ended (byte ∷ next ∷ line) ≡ is_ended (next ∷ line)
is_ended-before byte next line = is_ended-last byte (next ∷ line) ∙ sym (is_ended-last next line)

-- a byte that is no LF, put first, leaves a line ended or not
pub is_ended-cons : (byte : ℕ) (line : List ℕ) → eqb byte 10 ≡ false → is_ended (byte ∷ line) ≡ is_ended line
is_ended-cons byte [] inside = inside
is_ended-cons byte (next ∷ line) inside = is_ended-before byte next line

-- the first line is ended if the script has an LF
pub is_ended-through : (script : List ℕ) → is_ended (take_through 10 script) ≡ list_any is_line_feed script
is_ended-through [] = refl
is_ended-through (byte ∷ rest) =
    let others = is_ended-through rest in
    ⊎_elim
    (λ ends. ap (λ b. is_ended (cond b (byte ∷ []) (byte ∷ take_through 10 rest))) ends ∙ ends ∙ sym (ap (λ b. b || list_any is_line_feed rest) ends))
    (λ inside. ap (λ b. is_ended (cond b (byte ∷ []) (byte ∷ take_through 10 rest))) inside ∙ is_ended-cons byte (take_through 10 rest) inside
    ∙ others ∙ sym (ap (λ b. b || list_any is_line_feed rest) inside))
    (cases_Bool (eqb byte 10))

-- if there is no LF, the first line is all that there is
pub take_through-none : (script : List ℕ) → list_any is_line_feed script ≡ false → take_through 10 script ≡ script
take_through-none [] none = refl
take_through-none (byte ∷ rest) none =
    let parts = or_parts (eqb byte 10) (list_any is_line_feed rest) none in
    ap (λ b. cond b (byte ∷ []) (byte ∷ take_through 10 rest)) parts.0 ∙ ap (λ l. byte ∷ l) (take_through-none rest parts.1)

pub drop_through-none : (script : List ℕ) → list_any is_line_feed script ≡ false → drop_through 10 script ≡ []
drop_through-none [] none = refl
drop_through-none (byte ∷ rest) none =
    let parts = or_parts (eqb byte 10) (list_any is_line_feed rest) none in
    ap (λ b. cond b rest (drop_through 10 rest)) parts.0 ∙ drop_through-none rest parts.1

-- bytes with no LF are one line
pub lines_of-open : (byte : ℕ) (rest : List ℕ) → list_any is_line_feed (byte ∷ rest) ≡ false → lines_of (byte ∷ rest) ≡ (byte ∷ rest) ∷ []
lines_of-open byte rest none =
    lines_of-through byte rest ∙ ap (λ (line : List ℕ). line ∷ lines_of (drop_through 10 (byte ∷ rest))) (take_through-none (byte ∷ rest) none)
    ∙ ap (λ others. (byte ∷ rest) ∷ others) (ap lines_of (drop_through-none (byte ∷ rest) none) ∙ lines_of-nil)

-- bytes with no LF have no ended line
pub ended_lines-none : (script : List ℕ) → list_any is_line_feed script ≡ false → ended_lines script ≡ []
ended_lines-none [] none = ap (filter is_ended) lines_of-nil
ended_lines-none (byte ∷ rest) none =
    let script = byte ∷ rest in
    let open_first : is_ended script ≡ false = ap is_ended (sym (take_through-none script none)) ∙ is_ended-through script ∙ none in
    ap (filter is_ended) (lines_of-open byte rest none) ∙ ap (λ b. cond b (script ∷ []) []) open_first

-- what follows the last LF
abbrev pub open_line : List ℕ → List ℕ
open_line [] = []
open_line (byte ∷ rest) = cond (list_any is_line_feed (byte ∷ rest)) (open_line rest) (byte ∷ rest)

filter-onto_first : (byte : ℕ) (line : List ℕ) (lines : List (List ℕ)) → eqb byte 10 ≡ false → is_ended line ≡ true
    → filter is_ended (onto_first byte (line ∷ lines)) ≡ onto_first byte (filter is_ended (line ∷ lines))
filter-onto_first byte line lines inside ended =
    let others = filter is_ended lines in
    ap (λ b. cond b ((byte ∷ line) ∷ others) others) (is_ended-cons byte line inside ∙ ended)
    ∙ sym (ap (λ b. onto_first byte (cond b (line ∷ others) others)) ended)

onto_first-append : (byte : ℕ) (front back : List (List ℕ)) → 0 < length front → onto_first byte (front ++ back) ≡ onto_first byte front ++ back
onto_first-append byte [] back some = absurd (omega arith)
onto_first-append byte (line ∷ lines) back some = refl

-- the lines of a script go on with those of what follows its last LF
abbrev pub GoesOn : List ℕ → List ℕ → Type 0
GoesOn script more = lines_of (script ++ more) ≡ ended_lines script ++ lines_of (open_line script ++ more)

GoesOn-none : (byte : ℕ) (rest more : List ℕ) → list_any is_line_feed (byte ∷ rest) ≡ false → GoesOn (byte ∷ rest) more
GoesOn-none byte rest more none =
    let script = byte ∷ rest in
    sym (ap (λ lines. lines ++ lines_of (open_line script ++ more)) (ended_lines-none script none)
    ∙ ap (λ b. lines_of (cond b (open_line rest) script ++ more)) none)

GoesOn-end : (byte : ℕ) (rest more : List ℕ) → eqb byte 10 ≡ true → GoesOn rest more → GoesOn (byte ∷ rest) more
GoesOn-end byte rest more ends on =
    let first = byte ∷ [] in
    let ended : ended_lines (byte ∷ rest) ≡ first ∷ ended_lines rest =
    ap (filter is_ended) (lines_of-end byte rest ends) ∙ ap (λ b. cond b (first ∷ ended_lines rest) (ended_lines rest)) ends in
    let opened : open_line (byte ∷ rest) ≡ open_line rest = ap (λ b. cond (b || list_any is_line_feed rest) (open_line rest) (byte ∷ rest)) ends in
    lines_of-end byte (rest ++ more) ends ∙ ap (λ lines. first ∷ lines) on
    ∙ sym (ap (λ lines. lines ++ lines_of (open_line (byte ∷ rest) ++ more)) ended ∙ ap (λ l. first ∷ (ended_lines rest ++ lines_of (l ++ more))) opened)

GoesOn-inside : (byte next : ℕ) (rest more : List ℕ) → eqb byte 10 ≡ false → list_any is_line_feed (next ∷ rest) ≡ true → GoesOn (next ∷ rest) more
    → GoesOn (byte ∷ next ∷ rest) more
GoesOn-inside byte next rest more inside some on =
    let script = next ∷ rest in
    let line = take_through 10 script in
    let lines = lines_of (drop_through 10 script) in
    let ended : is_ended line ≡ true = is_ended-through script ∙ some in
    let first : ended_lines script ≡ line ∷ filter is_ended lines =
    ap (filter is_ended) (lines_of-through next rest) ∙ ap (λ b. cond b (line ∷ filter is_ended lines) (filter is_ended lines)) ended in
    let longer : ended_lines (byte ∷ script) ≡ onto_first byte (ended_lines script) =
    ap (filter is_ended) (lines_of-inside byte script inside ∙ ap (onto_first byte) (lines_of-through next rest))
    ∙ filter-onto_first byte line lines inside ended ∙ ap (λ l. onto_first byte (filter is_ended l)) (sym (lines_of-through next rest)) in
    let opened : open_line (byte ∷ script) ≡ open_line script =
    ap (λ b. cond b (open_line script) (byte ∷ script)) (or_right (eqb byte 10) (list_any is_line_feed script) some) in
    lines_of-inside byte (script ++ more) inside ∙ ap (onto_first byte) on
    ∙ onto_first-append byte (ended_lines script) (lines_of (open_line script ++ more)) (omega (arith, ap length first))
    ∙ sym (ap (λ l. l ++ lines_of (open_line (byte ∷ script) ++ more)) longer ∙ ap (λ l. onto_first byte (ended_lines script) ++ lines_of (l ++ more)) opened)

pub lines_of-goes_on : (script more : List ℕ) → GoesOn script more
lines_of-goes_on [] more = ap (λ lines. lines ++ lines_of more) (sym (ap (filter is_ended) lines_of-nil))
lines_of-goes_on (byte ∷ []) more =
    ⊎_elim (λ ends. GoesOn-end byte [] more ends (lines_of-goes_on [] more)) (λ inside. GoesOn-none byte [] more (or_from (eqb byte 10) false inside refl)) (cases_Bool (eqb byte 10))
lines_of-goes_on (byte ∷ next ∷ rest) more =
    let on = lines_of-goes_on (next ∷ rest) more in
    ⊎_elim
    (λ ends. GoesOn-end byte (next ∷ rest) more ends on)
    (λ inside. ⊎_elim
    (λ some. GoesOn-inside byte next rest more inside some on)
    (λ none. GoesOn-none byte (next ∷ rest) more (or_from (eqb byte 10) (list_any is_line_feed (next ∷ rest)) inside none))
    (cases_Bool (list_any is_line_feed (next ∷ rest))))
    (cases_Bool (eqb byte 10))

-- the ended lines of a script are the first lines of all that begins with it
pub ended_lines-first : (script more : List ℕ) → (others : List (List ℕ)) × (lines_of (script ++ more) ≡ ended_lines script ++ others)
ended_lines-first script more = (lines_of (open_line script ++ more), lines_of-goes_on script more)

-- a script's lines are the ended ones, and what follows the last LF
pub lines_of-split : (script : List ℕ) → lines_of script ≡ ended_lines script ++ lines_of (open_line script)
lines_of-split script =
    ap lines_of (sym (append-nil script)) ∙ lines_of-goes_on script [] ∙ ap (λ l. ended_lines script ++ lines_of l) (append-nil (open_line script))

-- if there is no LF
pub open_line-open : (script : List ℕ) → list_any is_line_feed (open_line script) ≡ false
open_line-open [] = refl
open_line-open (byte ∷ rest) =
    let others = open_line-open rest in
    let script = byte ∷ rest in
    let after : Bool → Bool = λ b. list_any is_line_feed (cond b (open_line rest) script) in
    ⊎_elim (λ some. ap after some ∙ others) (λ none. ap after none ∙ none) (cases_Bool (list_any is_line_feed script))

-- bytes that end with an LF have one
pub list_any-ended : (script : List ℕ) → is_ended script ≡ true → list_any is_line_feed script ≡ true
list_any-ended [] ended = absurd (false≢true ended)
list_any-ended (byte ∷ []) ended = or_left (eqb byte 10) false ended
list_any-ended (byte ∷ next ∷ rest) ended =
    or_right (eqb byte 10) (list_any is_line_feed (next ∷ rest)) (list_any-ended (next ∷ rest) (sym (is_ended-before byte next rest) ∙ ended))

-- nothing follows the LF at the end
pub open_line-ended : (script : List ℕ) → is_ended script ≡ true → open_line script ≡ []
open_line-ended [] ended = refl
open_line-ended (byte ∷ []) ended = ap (λ b. cond b [] (byte ∷ [])) (list_any-ended (byte ∷ []) ended)
open_line-ended (byte ∷ next ∷ rest) ended =
    ap (λ b. cond b (open_line (next ∷ rest)) (byte ∷ next ∷ rest)) (list_any-ended (byte ∷ next ∷ rest) ended)
    ∙ open_line-ended (next ∷ rest) (sym (is_ended-before byte next rest) ∙ ended)

-- no line goes on after the bytes: there are none, or they end with an LF
abbrev pub IsCut : List ℕ → Type 0
IsCut script = (script ≡ []) ⊎ (is_ended script ≡ true)

open_line-cut : (script : List ℕ) → IsCut script → open_line script ≡ []
open_line-cut script cut = ⊎_elim (λ none. ap open_line none) (open_line-ended script) cut

lines_of-after_cut : (script more : List ℕ) → IsCut script → lines_of (script ++ more) ≡ ended_lines script ++ lines_of more
lines_of-after_cut script more cut = lines_of-goes_on script more ∙ ap (λ l. ended_lines script ++ lines_of (l ++ more)) (open_line-cut script cut)

-- all of its lines are ended
pub ended_lines-cut : (script : List ℕ) → IsCut script → ended_lines script ≡ lines_of script
ended_lines-cut script cut =
    sym (ap lines_of (sym (append-nil script)) ∙ lines_of-after_cut script [] cut ∙ ap (λ lines. ended_lines script ++ lines) lines_of-nil ∙ append-nil (ended_lines script))

-- a script cut between two lines has the lines of its parts
pub lines_of-append : (script more : List ℕ) → IsCut script → lines_of (script ++ more) ≡ lines_of script ++ lines_of more
lines_of-append script more cut = lines_of-after_cut script more cut ∙ ap (λ lines. lines ++ lines_of more) (ended_lines-cut script cut)

-- the first line and what comes after it are all
pub take_through-append-drop_through : (script : List ℕ) → take_through 10 script ++ drop_through 10 script ≡ script
take_through-append-drop_through [] = refl
take_through-append-drop_through (byte ∷ rest) =
    let others = take_through-append-drop_through rest in
    let whole : Bool → List ℕ = λ b. cond b (byte ∷ []) (byte ∷ take_through 10 rest) ++ cond b rest (drop_through 10 rest) in
    ⊎_elim (λ ends. ap whole ends) (λ inside. ap whole inside ∙ ap (λ l. byte ∷ l) others) (cases_Bool (eqb byte 10))

-- a script that isn't empty, cut after its first line
pub lines_of-first : (script line rest : List ℕ) (n : ℕ) → 0 < length script → n ≡ length (take_through 10 script) → line ≡ take n script → rest ≡ drop n script
    → lines_of script ≡ line ∷ lines_of rest
lines_of-first [] line rest n some long front back = absurd (omega arith)
lines_of-first (byte ∷ more) line rest n some long front back =
    let script = byte ∷ more in
    let whole = take_through-append-drop_through script in
    let first : take_through 10 script ≡ line =
    sym (front ∙ ap (take n) (sym whole) ∙ take_at (take_through 10 script) (drop_through 10 script) n (sym long)) in
    let others : drop_through 10 script ≡ rest =
    sym (back ∙ ap (drop n) (sym whole) ∙ drop_at (take_through 10 script) (drop_through 10 script) n (sym long)) in
    lines_of-through byte more ∙ ap (λ (l : List ℕ). l ∷ lines_of (drop_through 10 script)) first ∙ ap (λ l. line ∷ lines_of l) others

pub length-take_through-le : (script : List ℕ) → length (take_through 10 script) ≤ length script
length-take_through-le script =
    omega (arith, length-append (take_through 10 script) (drop_through 10 script), ap length (take_through-append-drop_through script))

-- how long the first line is, by the place of the first LF
pub length-take_through : (script : List ℕ) → length (take_through 10 script) ≡ min (position_or_len is_line_feed script + 1) (length script)
length-take_through [] = omega arith
length-take_through (byte ∷ rest) =
    let others = length-take_through rest in
    let place = position_or_len is_line_feed rest in
    let first : Bool → ℕ = λ b. length (cond b (byte ∷ []) (byte ∷ take_through 10 rest)) in
    let until : Bool → ℕ = λ b. min (cond (not b) (1 + place) 0 + 1) (suc (length rest)) in
    let at_end : 1 ≡ min (0 + 1) (suc (length rest)) = omega arith in
    let further : suc (length (take_through 10 rest)) ≡ min ((1 + place) + 1) (suc (length rest)) = omega (arith, others) in
    ⊎_elim
    (λ ends. ap first ends ∙ at_end ∙ sym (ap until ends))
    (λ inside. ap first inside ∙ further ∙ sym (ap until inside))
    (cases_Bool (eqb byte 10))

-- what a search for the first LF says of it
pub length-take_through-found : (script : List ℕ) (place : ℕ) → Some place ≡ cond (ltb (position_or_len is_line_feed script) (length script)) (Some (position_or_len is_line_feed script)) None
    → place + 1 ≡ length (take_through 10 script)
length-take_through-found script place found =
    let first = position_or_len is_line_feed script in
    ⊎_elim
    (λ below.
    let same : Some place ≡ Some first = found ∙ ap (λ b. cond b (Some first) None) below in
    let at : place ≡ first = cc in
    omega (arith, length-take_through script, ltb-true first (length script) below))
    (λ past. let never : Some place ≡ None = found ∙ ap (λ b. cond b (Some first) None) past in cc)
    (cases_Bool (ltb first (length script)))

pub length-take_through-missing : (script : List ℕ) → None ≡ cond (ltb (position_or_len is_line_feed script) (length script)) (Some (position_or_len is_line_feed script)) None
    → length script ≡ length (take_through 10 script)
length-take_through-missing script missing =
    let first = position_or_len is_line_feed script in
    ⊎_elim
    (λ below. let never : None ≡ Some first = missing ∙ ap (λ b. cond b (Some first) None) below in cc)
    (λ past. omega (arith, length-take_through script, ltb-false first (length script) past))
    (cases_Bool (ltb first (length script)))
