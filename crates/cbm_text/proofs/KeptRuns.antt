-- Kept runs, byte after byte.
use Rattle.std.proofs.Common.{◌≡◌, ◌≢◌, ℕ, ◌+◌, ◌%◌, ◌<◌, ◌⊎◌, ◌&&◌, Bool, true, false, cond, not, List, [], ◌∷◌, ◌++◌, length, take, get_or, take_at, Option, Some, None, refl, sym, ◌∙◌, ap, subst, inl, inr, append_assoc, length-append, arith}
use Rattle.std.specs.Prelude.{◌==◌}
use Rattle.std.proofs.lemmas.List.{append-nil, take-append-le, get_or_append_left, get_or_at}
use Rattle.std.proofs.lemmas.List.Sums.{sum_by-append}
use Rattle.std.proofs.lemmas.Bool.{eqb-true, eqb-false}
use Rattle.cbm_text.specs.declared.mode.Mode.{Mode}
use Rattle.cbm_text.specs.declared.mode.Mode.TheVariants.{Free, Quoted, Remark, Data, QuotedData}
use Rattle.cbm_text.specs.Kept.{colon, Opener, QuoteMark, RemWord, DataWord, opener_byte, quotes_in, ends, HasNoEnd, IsKept}
use Rattle.script_text.specs.Words.{quote}
use Rattle.cbm_text.specs.Modes.{next_mode, CrunchedFrom, first_code, text_of_code, expanded_from}
use Rattle.cbm_text.proofs.CodesSoFar.{kept_code}

-- how the place behind bytes of a run without an end is read
abbrev pub mode_in : Opener → List ℕ → Mode
mode_in QuoteMark before = Quoted
mode_in RemWord before = Remark
mode_in DataWord before = cond (quotes_in before % 2 == 0) Data QuotedData

pub mode_behind : (opener : Opener) → next_mode Free (opener_byte opener) ≡ mode_in opener []
mode_behind QuoteMark = refl
mode_behind RemWord = refl
mode_behind DataWord = refl

-- no place of the run is free; behind it a place is free, or there is nothing
abbrev pub RunsOn : Mode → List ℕ → List ℕ → Type 0
RunsOn mode [] rest = (mode ≡ Free) ⊎ (rest ≡ [])
RunsOn mode (byte ∷ run) rest = (mode ≢ Free) × RunsOn (next_mode mode byte) run rest

-- ---- one byte more

-- one quote mark more, or none
quotes_more : (before : List ℕ) (byte : ℕ) → quotes_in (before ++ byte ∷ []) ≡ quotes_in before + cond (byte == quote) 1 0
quotes_more before byte =
    let one : 0 + cond (byte == quote) 1 0 ≡ cond (byte == quote) 1 0 = omega arith in
    sum_by-append (λ (b : ℕ). cond (b == quote) 1 0) before (byte ∷ []) ∙ ap (λ (n : ℕ). quotes_in before + n) one

parity_more : (before : List ℕ) (byte : ℕ) → (quotes_in (before ++ byte ∷ []) % 2 == 0) ≡ cond (byte == quote) (not (quotes_in before % 2 == 0)) (quotes_in before % 2 == 0)
parity_more before byte = ap (λ (n : ℕ). n % 2 == 0) (quotes_more before byte) ∙ of_quote (byte == quote)
  where
    turned : (n : ℕ) → ((n + 1) % 2 == 0) ≡ not (n % 2 == 0)
    turned n = grind arith

    of_quote : (b : Bool) → ((quotes_in before + cond b 1 0) % 2 == 0) ≡ cond b (not (quotes_in before % 2 == 0)) (quotes_in before % 2 == 0)
    of_quote true = turned (quotes_in before)
    of_quote false = let same : quotes_in before + 0 ≡ quotes_in before = omega arith in ap (λ (n : ℕ). n % 2 == 0) same

-- behind `data`, by whether the quote marks so far are even, and whether the byte is a quote mark
-- or a colon
data_step : (even is_quote is_colon next : Bool) → (is_quote ≡ true → is_colon ≡ false) → next ≡ cond is_quote (not even) even
    → cond even (cond is_quote QuotedData (cond is_colon Free Data)) (cond is_quote Data QuotedData) ≡ cond (is_colon && even) Free (cond next Data QuotedData)
data_step even true true next apart is = let never = apart refl in absurd cc
data_step true true false next apart is = ap (λ (b : Bool). cond b Data QuotedData) (sym is)
data_step true false true next apart is = refl
data_step true false false next apart is = ap (λ (b : Bool). cond b Data QuotedData) (sym is)
data_step false true false next apart is = ap (λ (b : Bool). cond b Data QuotedData) (sym is)
data_step false false true next apart is = ap (λ (b : Bool). cond b Data QuotedData) (sym is)
data_step false false false next apart is = ap (λ (b : Bool). cond b Data QuotedData) (sym is)

by_parity : (even : Bool) (byte : ℕ) → next_mode (cond even Data QuotedData) byte ≡ cond even (cond (byte == quote) QuotedData (cond (byte == colon) Free Data)) (cond (byte == quote) Data QuotedData)
by_parity true byte = refl
by_parity false byte = refl

no_colon : (byte : ℕ) → (byte == quote) ≡ true → (byte == colon) ≡ false
no_colon byte is = let same : byte ≡ quote = eqb-true _ _ is in ap (λ (n : ℕ). n == colon) same

-- a byte that ends the run makes the next place free, another one does not
step : (opener : Opener) (before : List ℕ) (byte : ℕ) → next_mode (mode_in opener before) byte ≡ cond (ends opener before byte) Free (mode_in opener (before ++ byte ∷ []))
step QuoteMark before byte = refl
step RemWord before byte = refl
step DataWord before byte =
    by_parity (quotes_in before % 2 == 0) byte
    ∙ data_step (quotes_in before % 2 == 0) (byte == quote) (byte == colon) (quotes_in (before ++ byte ∷ []) % 2 == 0) (no_colon byte) (parity_more before byte)

kept_place : (opener : Opener) (before : List ℕ) → mode_in opener before ≢ Free
kept_place QuoteMark before free = absurd cc
kept_place RemWord before free = absurd cc
kept_place DataWord before free = of_parity (quotes_in before % 2 == 0) free
  where
    of_parity : (even : Bool) → cond even Data QuotedData ≢ Free
    of_parity true free = absurd cc
    of_parity false free = absurd cc

-- ---- bytes without an end

pub no_end_nothing : (opener : Opener) → HasNoEnd opener []
no_end_nothing opener k within = absurd (omega arith)

-- the byte behind some bytes ends the run if they say so
end_at : (opener : Opener) (before : List ℕ) (byte : ℕ) (others : List ℕ) → ends opener (take (length before) (before ++ byte ∷ others)) (get_or (before ++ byte ∷ others) (length before) 0) ≡ ends opener before byte
end_at opener before byte others =
    ap (λ (w : List ℕ). ends opener w (get_or (before ++ byte ∷ others) (length before) 0)) (take_at before (byte ∷ others) (length before) refl)
    ∙ ap (λ (n : ℕ). ends opener before n) (get_or_at before byte others 0 (length before) refl)

-- if some bytes have no end, neither do their first
end_before : (opener : Opener) (before more : List ℕ) (k : ℕ) → k < length before → ends opener (take k (before ++ more)) (get_or (before ++ more) k 0) ≡ ends opener (take k before) (get_or before k 0)
end_before opener before more k within =
    ap (λ (w : List ℕ). ends opener w (get_or (before ++ more) k 0)) (take-append-le k before more (omega arith))
    ∙ ap (λ (n : ℕ). ends opener (take k before) n) (get_or_append_left before more 0 k within)

no_end_more : (opener : Opener) (before : List ℕ) (byte : ℕ) → HasNoEnd opener before → ends opener before byte ≡ false → HasNoEnd opener (before ++ byte ∷ [])
no_end_more opener before byte none at k within = of_place (k == length before) refl
  where
    of_place : (b : Bool) → (k == length before) ≡ b → ends opener (take k (before ++ byte ∷ [])) (get_or (before ++ byte ∷ []) k 0) ≡ false
    of_place true last =
        let here : k ≡ length before = eqb-true _ _ last in
        subst (λ (n : ℕ). ends opener (take n (before ++ byte ∷ [])) (get_or (before ++ byte ∷ []) n 0) ≡ false) (sym here) (end_at opener before byte [] ∙ at)
    of_place false other =
        let before_last : k < length before = omega (arith, within, length-append before (byte ∷ []), eqb-false _ _ other) in
        end_before opener before (byte ∷ []) k before_last ∙ none k before_last

-- bytes that have no end don't end a run
no_first_end : (opener : Opener) (before rest : List ℕ) → HasNoEnd opener before → IsKept opener (before ++ []) rest → rest ≡ []
no_first_end opener before rest none (inr (whole, empty)) = empty
no_first_end opener before rest none (inl ends_first) =
    let joined : before ≡ ends_first.before ++ ends_first.byte ∷ [] = sym (append-nil before) ∙ ends_first.is in
    let short : length ends_first.before < length before = omega (arith, ap length joined, length-append ends_first.before (ends_first.byte ∷ [])) in
    let here = subst (λ (w : List ℕ). ends opener (take (length ends_first.before) w) (get_or w (length ends_first.before) 0) ≡ false) joined (none (length ends_first.before) short) in
    let never : true ≡ false = sym ends_first.end ∙ sym (end_at opener ends_first.before ends_first.byte []) ∙ here in
    absurd cc

-- a byte that ends a run is its last
last_of_run : (opener : Opener) (before : List ℕ) (byte : ℕ) (run rest : List ℕ) → ends opener before byte ≡ true → IsKept opener (before ++ byte ∷ run) rest → run ≡ []
last_of_run opener before byte run rest at (inr (none, empty)) =
    let within : length before < length (before ++ byte ∷ run) = omega (arith, length-append before (byte ∷ run)) in
    let never : true ≡ false = sym at ∙ sym (end_at opener before byte run) ∙ none (length before) within in
    absurd cc
last_of_run opener before byte run rest at (inl ends_first) = of_run run refl
  where
    of_run : (others : List ℕ) → run ≡ others → others ≡ []
    of_run [] is = refl
    of_run (other ∷ others) is =
        let joined : before ++ byte ∷ other ∷ others ≡ ends_first.before ++ ends_first.byte ∷ [] = ap (λ (w : List ℕ). before ++ byte ∷ w) (sym is) ∙ ends_first.is in
        let short : length before < length ends_first.before =
        omega (arith, ap length joined, length-append before (byte ∷ other ∷ others), length-append ends_first.before (ends_first.byte ∷ [])) in
        let here = end_before opener ends_first.before (ends_first.byte ∷ []) (length before) short ∙ ends_first.no_end (length before) short in
        let there = subst (λ (w : List ℕ). ends opener (take (length before) w) (get_or w (length before) 0) ≡ false) (sym joined) here in
        let never : true ≡ false = sym at ∙ sym (end_at opener before byte (other ∷ others)) ∙ there in
        absurd cc

-- ---- runs that are kept, and those that go on

nothing_free : (run rest : List ℕ) → RunsOn Free run rest → run ≡ []
nothing_free [] rest runs = refl
nothing_free (byte ∷ run) rest (kept, runs) = absurd (kept refl)

pub kept_by_modes : (opener : Opener) (before run rest : List ℕ) → HasNoEnd opener before → RunsOn (mode_in opener before) run rest → IsKept opener (before ++ run) rest
kept_by_modes opener before [] rest none (inl free) = absurd (kept_place opener before free)
kept_by_modes opener before [] rest none (inr empty) = inr (subst (λ (w : List ℕ). HasNoEnd opener w) (sym (append-nil before)) none, empty)
kept_by_modes opener before (byte ∷ run) rest none (kept, runs) =
    of_end (ends opener before byte) refl (λ none_more runs_more. kept_by_modes opener (before ++ byte ∷ []) run rest none_more runs_more)
  where
    of_end : (b : Bool) → ends opener before byte ≡ b
        → (HasNoEnd opener (before ++ byte ∷ []) → RunsOn (mode_in opener (before ++ byte ∷ [])) run rest → IsKept opener ((before ++ byte ∷ []) ++ run) rest) → IsKept opener (before ++ byte ∷ run) rest
    of_end true at later =
        let free : next_mode (mode_in opener before) byte ≡ Free = step opener before byte ∙ ap (λ (b : Bool). cond b Free (mode_in opener (before ++ byte ∷ []))) at in
        let none_left : run ≡ [] = nothing_free run rest (subst (λ (m : Mode). RunsOn m run rest) free runs) in
        inl (record { before = before; byte = byte; is = ap (λ (w : List ℕ). before ++ byte ∷ w) none_left; no_end = none; end = at })
    of_end false at later =
        let still : next_mode (mode_in opener before) byte ≡ mode_in opener (before ++ byte ∷ []) = step opener before byte ∙ ap (λ (b : Bool). cond b Free (mode_in opener (before ++ byte ∷ []))) at in
        subst (λ (w : List ℕ). IsKept opener w rest) (append_assoc before (byte ∷ []) run) (later (no_end_more opener before byte none at) (subst (λ (m : Mode). RunsOn m run rest) still runs))

pub modes_of_kept : (opener : Opener) (before run rest : List ℕ) → HasNoEnd opener before → IsKept opener (before ++ run) rest → RunsOn (mode_in opener before) run rest
modes_of_kept opener before [] rest none kept = inr (no_first_end opener before rest none kept)
modes_of_kept opener before (byte ∷ run) rest none kept =
    (kept_place opener before, of_end (ends opener before byte) refl (λ none_more kept_more. modes_of_kept opener (before ++ byte ∷ []) run rest none_more kept_more))
  where
    of_end : (b : Bool) → ends opener before byte ≡ b
        → (HasNoEnd opener (before ++ byte ∷ []) → IsKept opener ((before ++ byte ∷ []) ++ run) rest → RunsOn (mode_in opener (before ++ byte ∷ [])) run rest) → RunsOn (next_mode (mode_in opener before) byte) run rest
    of_end true at later =
        let free : next_mode (mode_in opener before) byte ≡ Free = step opener before byte ∙ ap (λ (b : Bool). cond b Free (mode_in opener (before ++ byte ∷ []))) at in
        subst (λ (m : Mode). RunsOn m run rest) (sym free) (subst (λ (w : List ℕ). RunsOn Free w rest) (sym (last_of_run opener before byte run rest at kept)) (inl refl))
    of_end false at later =
        let still : next_mode (mode_in opener before) byte ≡ mode_in opener (before ++ byte ∷ []) = step opener before byte ∙ ap (λ (b : Bool). cond b Free (mode_in opener (before ++ byte ∷ []))) at in
        subst (λ (m : Mode). RunsOn m run rest) (sym still) (later (no_end_more opener before byte none at) (subst (λ (w : List ℕ). IsKept opener w rest) (sym (append_assoc before (byte ∷ []) run)) kept))

-- ---- what a run crunches to, and what it stands for

nothing_crunched : (codes : List ℕ) → CrunchedFrom Free [] codes → codes ≡ []
unfolding CrunchedFrom Rattle.cbm_text.specs.Modes.free_code
nothing_crunched [] none = refl
nothing_crunched (code ∷ codes) (rest, first, others) = absurd cc

pub crunched_along : (mode : Mode) (run rest others : List ℕ) → RunsOn mode run rest → CrunchedFrom Free rest others → CrunchedFrom mode (run ++ rest) (run ++ others)
unfolding CrunchedFrom
crunched_along mode [] rest others (inl free) crunched = subst (λ (m : Mode). CrunchedFrom m rest others) (sym free) crunched
crunched_along mode [] rest others (inr empty) crunched =
    let nothing : others ≡ [] = nothing_crunched others (subst (λ (w : List ℕ). CrunchedFrom Free w others) empty crunched) in
    subst (λ (w : List ℕ). CrunchedFrom mode rest w) (sym nothing) empty
crunched_along mode (byte ∷ run) rest others (kept, runs) crunched = (run ++ rest, kept_code mode byte (run ++ rest) kept, crunched_along (next_mode mode byte) run rest others runs crunched)

pub expanded_along : (mode : Mode) (run rest : List ℕ) → RunsOn mode run rest → expanded_from mode (run ++ rest) ≡ run ++ expanded_from Free rest
unfolding expanded_from
expanded_along mode [] rest (inl free) = ap (λ (m : Mode). expanded_from m rest) free
expanded_along mode [] rest (inr empty) = ap (λ (w : List ℕ). expanded_from mode w) empty ∙ ap (λ (w : List ℕ). expanded_from Free w) (sym empty)
expanded_along mode (byte ∷ run) rest (kept, runs) = ap (λ (w : List ℕ). w ++ expanded_from (next_mode mode byte) (run ++ rest)) (itself mode kept) ∙ ap (λ (w : List ℕ). byte ∷ w) (expanded_along (next_mode mode byte) run rest runs)
  where
    itself : (m : Mode) → m ≢ Free → text_of_code m byte ≡ byte ∷ []
    itself Free kept = absurd (kept refl)
    itself Quoted kept = refl
    itself Remark kept = refl
    itself Data kept = refl
    itself QuotedData kept = refl

-- a place is free or not
free_or_not : (mode : Mode) → (mode ≡ Free) ⊎ (mode ≢ Free)
free_or_not Free = inl refl
free_or_not Quoted = inr (λ free. absurd cc)
free_or_not Remark = inr (λ free. absurd cc)
free_or_not Data = inr (λ free. absurd cc)
free_or_not QuotedData = inr (λ free. absurd cc)

-- bytes from a place on: the run up to the next free place, and the rest
pub record CutBytes (mode : Mode) (bytes : List ℕ) : Type 0 where
  pub run : List ℕ
  pub rest : List ℕ
  pub joined : bytes ≡ run ++ rest
  pub runs : RunsOn mode run rest

pub cut_bytes : (mode : Mode) (bytes : List ℕ) → CutBytes mode bytes
cut_bytes mode [] = record { run = []; rest = []; joined = refl; runs = inr refl }
cut_bytes mode (byte ∷ bytes) = of_mode (free_or_not mode) (cut_bytes (next_mode mode byte) bytes)
  where
    of_mode : (mode ≡ Free) ⊎ (mode ≢ Free) → CutBytes (next_mode mode byte) bytes → CutBytes mode (byte ∷ bytes)
    of_mode (inl free) cut = record { run = []; rest = byte ∷ bytes; joined = refl; runs = inl free }
    of_mode (inr kept) cut = record { run = byte ∷ cut.run; rest = cut.rest; joined = ap (λ (w : List ℕ). byte ∷ w) cut.joined; runs = (kept, cut.runs) }

-- the same of a text and what it crunches to
pub record CutText (mode : Mode) (text codes : List ℕ) : Type 0 where
  pub run : List ℕ
  pub rest : List ℕ
  pub others : List ℕ
  pub text_is : text ≡ run ++ rest
  pub codes_is : codes ≡ run ++ others
  pub runs : RunsOn mode run rest
  pub crunched : CrunchedFrom Free rest others

-- if a place is kept, the crunched byte is the first
kept_first : (mode : Mode) (text : List ℕ) (code : ℕ) (rest : List ℕ) → mode ≢ Free → first_code mode text ≡ Some (code, rest) → text ≡ code ∷ rest
kept_first mode [] code rest kept first = absurd (none mode kept first)
  where
    none : (m : Mode) → m ≢ Free → first_code m [] ≢ Some (code, rest)
    none Free kept first = kept refl
    none Quoted kept first = absurd cc
    none Remark kept first = absurd cc
    none Data kept first = absurd cc
    none QuotedData kept first = absurd cc
kept_first mode (byte ∷ others) code rest kept first =
    let same : Some (byte, others) ≡ Some (code, rest) = sym (kept_code mode byte others kept) ∙ first in
    ap (λ (o : Option (ℕ × List ℕ)). joined o) same
  where
    joined : Option (ℕ × List ℕ) → List ℕ
    joined None = []
    joined (Some it) = it.0 ∷ it.1

pub cut_text : (mode : Mode) (text codes : List ℕ) → CrunchedFrom mode text codes → CutText mode text codes
unfolding CrunchedFrom
cut_text mode text [] none = record { run = []; rest = []; others = []; text_is = none; codes_is = refl; runs = inr refl; crunched = refl }
cut_text mode text (code ∷ codes) (rest, first, others) = of_mode (free_or_not mode) (cut_text (next_mode mode code) rest codes others)
  where
    of_mode : (mode ≡ Free) ⊎ (mode ≢ Free) → CutText (next_mode mode code) rest codes → CutText mode text (code ∷ codes)
    of_mode (inl free) cut = record {
      run = [];
      rest = text;
      others = code ∷ codes;
      text_is = refl;
      codes_is = refl;
      runs = inl free;
      crunched = (rest, subst (λ (m : Mode). first_code m text ≡ Some (code, rest)) free first, subst (λ (m : Mode). CrunchedFrom (next_mode m code) rest codes) free others);
    }
    of_mode (inr kept) cut = record {
      run = code ∷ cut.run;
      rest = cut.rest;
      others = cut.others;
      text_is = kept_first mode text code rest kept first ∙ ap (λ (w : List ℕ). code ∷ w) cut.text_is;
      codes_is = ap (λ (w : List ℕ). code ∷ w) cut.codes_is;
      runs = (kept, cut.runs);
      crunched = cut.crunched;
    }
