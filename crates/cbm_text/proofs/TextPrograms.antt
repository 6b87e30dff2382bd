-- Texts of programs, line by line.
use Rattle.std.proofs.Common.{◌≡◌, ℕ, ◌+◌, ◌<◌, ◌≤◌, ◌⊎◌, List, [], ◌∷◌, ◌++◌, length, true, false, Contains, refl, sym, ◌∙◌, ap, subst, inl, inr, append_assoc, arith}
use Rattle.std.proofs.lemmas.List.{append-nil, length-append}
use Rattle.std.specs.Prelude.{nat_eq, suc, zero}
use Rattle.std.specs.List.{list_any}
use Rattle.std.proofs.lemmas.Bool.{eqb-false, or_parts}
use Rattle.script_text.specs.RawLines.{lines_of, text_of, is_skipped}
use Rattle.script_text.proofs.LineCuts.{length-lines_of}
use Rattle.cbm_text.specs.declared.fault.BasicFault.{BasicFault}
use Rattle.cbm_text.specs.declared.fault.BasicFault.TheVariants.{NoNumber, NumberTooLarge, Text, TokenByte, ZeroByte, TooLong, Memory}
use Rattle.cbm_text.specs.Crunching.{Crunched}
use Rattle.cbm_text.specs.Modes.{CrunchesUpTo}
use Rattle.cbm_text.specs.Program.{ProgramLine, Program, word, line_layout, lines_layout, address_behind}
use Rattle.petscii.specs.TextFault.{IsFirstTextFault, IsTextOutOfMemory}
use Rattle.petscii.specs.declared.fault.TextFault.{TextFault}
use Rattle.petscii.specs.declared.fault.TextFault.TheVariants as text_faults
use Rattle.cbm_text.specs.TextLine.{rest_of}
use Rattle.cbm_text.specs.LineFault.{IsFaultOfCodes, fault_of_text}
use Rattle.cbm_text.specs.BasicText.{IsNumbered, IsLine, IsTextLineRead, IsTooLong, HasFault, AreLines, FaultsFirst, IsFileOf, IsFirstBasicFault, IsBasicOutOfMemory, NamesLine}

-- what has been crunched of a text, and the raw lines that are left: what these give completes the
-- file, and their first fault is the text's
pub record ProgramSoFar (start at place : ℕ) (text file : List ℕ) (raws : List (List ℕ)) : Type 0 where
  pub gives : (more : Program) → AreLines at raws more → IsFileOf start text (file ++ lines_layout at more)
  pub faults : (fault : BasicFault) → FaultsFirst at (place + 1) raws fault → IsFirstBasicFault start text fault
  pub few : place + length raws ≡ length (lines_of text)

-- before the first line
pub so_far_nothing : (start : ℕ) (text file : List ℕ) → file ≡ word start → ProgramSoFar start start 0 text file (lines_of text)
unfolding IsFileOf
so_far_nothing start text file is = record {
  gives = λ more given. (more, given, ap (λ (w : List ℕ). w ++ lines_layout start more) is);
  faults = λ fault first. first;
  few = omega arith;
}

-- the program of the lines that are left, and their first fault
skipped_gives : (at : ℕ) (raw : List ℕ) (raws : List (List ℕ)) (more : Program) → is_skipped (text_of raw) ≡ true → AreLines at raws more → AreLines at (raw ∷ raws) more
unfolding AreLines
skipped_gives at raw raws more skipped given = inl (skipped, given)

line_gives : (at : ℕ) (raw : List ℕ) (raws : List (List ℕ)) (line : ProgramLine) (more : Program) → is_skipped (text_of raw) ≡ false → IsLine at (text_of raw) line → AreLines (address_behind at line.bytes) raws more
    → AreLines at (raw ∷ raws) (line ∷ more)
unfolding AreLines
line_gives at raw raws line more kept is_line given = inr (kept, line, more, refl, is_line, given)

skipped_faults : (at number : ℕ) (raw : List ℕ) (raws : List (List ℕ)) (fault : BasicFault) → is_skipped (text_of raw) ≡ true → FaultsFirst at (number + 1) raws fault → FaultsFirst at number (raw ∷ raws) fault
unfolding FaultsFirst
skipped_faults at number raw raws fault skipped first = inl (skipped, first)

here_faults : (at number : ℕ) (raw : List ℕ) (raws : List (List ℕ)) (fault : BasicFault) → is_skipped (text_of raw) ≡ false → HasFault at number (text_of raw) fault → FaultsFirst at number (raw ∷ raws) fault
unfolding FaultsFirst
here_faults at number raw raws fault kept here = inr (kept, inl here)

later_faults : (at number : ℕ) (raw : List ℕ) (raws : List (List ℕ)) (line : ProgramLine) (fault : BasicFault) → is_skipped (text_of raw) ≡ false → IsLine at (text_of raw) line
    → FaultsFirst (address_behind at line.bytes) (number + 1) raws fault → FaultsFirst at number (raw ∷ raws) fault
unfolding FaultsFirst
later_faults at number raw raws line fault kept is_line later = inr (kept, inr (line, is_line, later))

-- a line that is skipped
pub so_far_skipped : (start at place : ℕ) (text file raw : List ℕ) (old raws : List (List ℕ)) → ProgramSoFar start at place text file old → old ≡ raw ∷ raws → is_skipped (text_of raw) ≡ true
    → ProgramSoFar start at (place + 1) text file raws
so_far_skipped start at place text file raw old raws so_far cut skipped = record {
  gives = λ more given. so_far.gives more (subst (λ (w : List (List ℕ)). AreLines at w more) (sym cut) (skipped_gives at raw raws more skipped given));
  faults = λ fault first. so_far.faults fault (subst (λ (w : List (List ℕ)). FaultsFirst at (place + 1) w fault) (sym cut) (skipped_faults at (place + 1) raw raws fault skipped first));
  few = omega (arith, so_far.few, ap length cut);
}

-- the layout of a line and those behind it
layout_line : (at : ℕ) (line : ProgramLine) (more : Program) → lines_layout at (line ∷ more) ≡ line_layout at line ++ lines_layout (address_behind at line.bytes) more
unfolding lines_layout
layout_line at line more = refl

-- parts that were added one by one
regroup : (a b c d e : List ℕ) → a ++ b ++ c ++ d ++ e ≡ a ++ (b ++ c ++ d ++ e)
regroup a b c d e = simp append_assoc

-- a line that was added in its parts
pub line_pushed : (file longer pushed codes : List ℕ) (at next number : ℕ) → longer ≡ file ++ word next ++ word number ++ pushed ++ 0 ∷ [] → next ≡ address_behind at codes → pushed ≡ codes
    → longer ≡ file ++ line_layout at (record { number = number; bytes = codes })
line_pushed file longer pushed codes at next number joined behind same =
    subst (λ (w : List ℕ). longer ≡ file ++ word (address_behind at codes) ++ word number ++ w ++ 0 ∷ []) same
    (subst (λ (n : ℕ). longer ≡ file ++ word n ++ word number ++ pushed ++ 0 ∷ []) behind joined) ∙ regroup file (word (address_behind at codes)) (word number) codes (0 ∷ [])

-- a line of the program
pub so_far_line : (start at next place : ℕ) (text file longer raw : List ℕ) (old raws : List (List ℕ)) (line : ProgramLine) → ProgramSoFar start at place text file old → old ≡ raw ∷ raws → is_skipped (text_of raw) ≡ false
    → IsLine at (text_of raw) line → next ≡ address_behind at line.bytes → longer ≡ file ++ line_layout at line → ProgramSoFar start next (place + 1) text longer raws
so_far_line start at next place text file longer raw old raws line so_far cut kept is_line behind joined = record {
  gives = λ more given.
      let there = subst (λ (n : ℕ). AreLines n raws more) behind given in
      let whole = so_far.gives (line ∷ more) (subst (λ (w : List (List ℕ)). AreLines at w (line ∷ more)) (sym cut) (line_gives at raw raws line more kept is_line there)) in
      let same : file ++ lines_layout at (line ∷ more) ≡ longer ++ lines_layout next more =
      ap (λ (w : List ℕ). file ++ w) (layout_line at line more) ∙ sym (append_assoc file (line_layout at line) (lines_layout (address_behind at line.bytes) more))
      ∙ ap (λ (w : List ℕ). w ++ lines_layout (address_behind at line.bytes) more) (sym joined) ∙ ap (λ (n : ℕ). longer ++ lines_layout n more) (sym behind) in
      subst (λ (w : List ℕ). IsFileOf start text w) same whole;
  faults = λ fault first.
      let there = subst (λ (n : ℕ). FaultsFirst n (place + 1 + 1) raws fault) behind first in
      so_far.faults fault (subst (λ (w : List (List ℕ)). FaultsFirst at (place + 1) w fault) (sym cut) (later_faults at (place + 1) raw raws line fault kept is_line there));
  few = omega (arith, so_far.few, ap length cut);
}

-- a line at fault
pub so_far_fault : (start at place : ℕ) (text file raw : List ℕ) (old raws : List (List ℕ)) (fault : BasicFault) → ProgramSoFar start at place text file old → old ≡ raw ∷ raws → is_skipped (text_of raw) ≡ false
    → HasFault at (place + 1) (text_of raw) fault → IsFirstBasicFault start text fault
so_far_fault start at place text file raw old raws fault so_far cut kept here =
    so_far.faults fault (subst (λ (w : List (List ℕ)). FaultsFirst at (place + 1) w fault) (sym cut) (here_faults at (place + 1) raw raws fault kept here))

-- a fault of the line at a place of the text has this place
pub names_line : (at place : ℕ) (text line : List ℕ) (fault : BasicFault) → 1 ≤ place → place ≤ length (lines_of text) → IsBasicOutOfMemory fault ⊎ HasFault at place line fault → NamesLine text fault
names_line at place text line fault low high (inl memory) = none fault memory
  where
    none : (fault : BasicFault) → IsBasicOutOfMemory fault → NamesLine text fault
    none (NoNumber known) memory = absurd memory
    none (NumberTooLarge known) memory = absurd memory
    none (Text known why) memory = absurd memory
    none (TokenByte known) memory = absurd memory
    none (ZeroByte known) memory = absurd memory
    none (TooLong known) memory = absurd memory
    none (Memory error) memory = memory
names_line at place text line fault low high (inr here) = it fault here
  where
    within : (known : ℕ) → known ≡ place → (1 ≤ known) × (known ≤ length (lines_of text)) × (known ≤ length text)
    within known is = (omega arith, omega arith, omega (arith, length-lines_of text))

    it : (fault : BasicFault) → HasFault at place line fault → NamesLine text fault
    it (NoNumber known) here = within known here.0
    it (NumberTooLarge known) here = within known here.0
    it (Text known why) here = within known here.0
    it (TokenByte known) here = within known here.0
    it (ZeroByte known) here = within known here.0
    it (TooLong known) here = within known here.0
    it (Memory error) here = absurd here

-- behind the last line
no_lines : (at : ℕ) → AreLines at [] []
unfolding AreLines
no_lines at = refl

no_layout : (at : ℕ) → lines_layout at [] ≡ word 0
unfolding lines_layout
no_layout at = refl

pub so_far_whole : (start at place : ℕ) (text file : List ℕ) (old : List (List ℕ)) → ProgramSoFar start at place text file old → old ≡ [] → IsFileOf start text (file ++ word 0)
so_far_whole start at place text file old so_far none =
    subst (λ (w : List ℕ). IsFileOf start text (file ++ w)) (no_layout at) (so_far.gives [] (subst (λ (w : List (List ℕ)). AreLines at w []) (sym none) (no_lines at)))

-- ---- bytes without $00

pub no_zero_in : (bytes : List ℕ) → false ≡ list_any (λ y. nat_eq y 0) bytes → ¬ (Contains bytes 0)
no_zero_in [] test (k, within, is) = absurd (omega arith)
no_zero_in (byte ∷ bytes) test (zero, within, is) = eqb-false byte 0 (or_parts _ _ (sym test)).0 is
no_zero_in (byte ∷ bytes) test (suc k, within, is) = no_zero_in bytes (sym (or_parts _ _ (sym test)).1) (k, omega arith, is)

-- ---- lines of which the first crunched bytes are known

-- they are all of them if they are no more than a line has
pub crunched_short : (most : ℕ) (bytes codes : List ℕ) → CrunchesUpTo most bytes codes → length codes ≤ most → Crunched bytes codes
crunched_short most bytes codes up short = it up.whole
  where
    it : (up.more ≡ []) ⊎ (most < length codes) → Crunched bytes codes
    it (inl none) = subst (λ (w : List ℕ). Crunched bytes w) (ap (λ (w : List ℕ). codes ++ w) none ∙ append-nil codes) up.crunched
    it (inr long) = absurd (omega (arith, long, short))

-- the fault of the part behind the number is the line's
pub text_fault_known : (at place : ℕ) (text : List ℕ) (fault : TextFault) → IsNumbered text → IsTextOutOfMemory fault ⊎ IsFirstTextFault (rest_of text) fault
    → IsBasicOutOfMemory (fault_of_text place fault) ⊎ HasFault at place text (fault_of_text place fault)
text_fault_known at place text (text_faults.UnknownName offset) numbered (inl none) = absurd none
text_fault_known at place text (text_faults.UnknownName offset) numbered (inr first) = inr (refl, numbered, first)
text_fault_known at place text (text_faults.OpenBrace offset) numbered (inl none) = absurd none
text_fault_known at place text (text_faults.OpenBrace offset) numbered (inr first) = inr (refl, numbered, first)
text_fault_known at place text (text_faults.BadByte offset) numbered (inl none) = absurd none
text_fault_known at place text (text_faults.BadByte offset) numbered (inr first) = inr (refl, numbered, first)
text_fault_known at place text (text_faults.Memory error) numbered known = inl tt

-- and so is that of its bytes, of which the first crunched ones are known
pub codes_fault_known : (at place most : ℕ) (text bytes codes : List ℕ) (fault : BasicFault) → IsTextLineRead text bytes → CrunchesUpTo most bytes codes
    → IsFaultOfCodes at place bytes codes fault → HasFault at place text fault
codes_fault_known at place most text bytes codes (NoNumber line) read up known = absurd known
codes_fault_known at place most text bytes codes (NumberTooLarge line) read up known = absurd known
codes_fault_known at place most text bytes codes (Text line fault) read up known = absurd known
codes_fault_known at place most text bytes codes (TokenByte line) read up known = absurd known
codes_fault_known at place most text bytes codes (ZeroByte line) read up known = (known.0, bytes, codes ++ up.more, record { read = read; crunched = up.crunched }, known.1)
codes_fault_known at place most text bytes codes (TooLong line) read up known =
    (known.0, bytes, codes ++ up.more, record { read = read; crunched = up.crunched }, known.1, longer known.2)
  where
    longer : IsTooLong at codes → IsTooLong at (codes ++ up.more)
    longer (inl bytes_past) = inl (omega (arith, bytes_past, length-append codes up.more))
    longer (inr link_past) = inr (omega (arith, link_past, length-append codes up.more))
codes_fault_known at place most text bytes codes (Memory error) read up known = absurd known
