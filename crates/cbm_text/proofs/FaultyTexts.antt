-- Faulty lines of texts, one after another.
use Rattle.std.proofs.Common.{◌≡◌, ℕ, ◌+◌, ◌<◌, ◌≤◌, ◌⊎◌, List, [], ◌∷◌, ◌++◌, length, take, true, false, refl, sym, ◌∙◌, ap, subst, inl, inr, append_assoc, append-nil, length-append, arith}
use Rattle.std.specs.Prelude.{All, Bool, IfErr, IfOk, Result, Ok, Err, is_err, suc, zero}
use Rattle.std.specs.Int.{from_bool}
use Rattle.std.proofs.lemmas.List.{length-take}
use Rattle.std.proofs.lemmas.List.Elements.{All-append, All-cons, All-take}
use Rattle.script_text.specs.RawLines.{lines_of, text_of, is_skipped}
use Rattle.cbm_text.specs.declared.fault.BasicFault.{BasicFault}
use Rattle.cbm_text.specs.declared.fault.BasicFault.TheVariants.{NoNumber, NumberTooLarge, Text, TokenByte, ZeroByte, TooLong, Memory}
use Rattle.cbm_text.specs.declared.cause.Cause.{Cause}
use Rattle.cbm_text.specs.declared.faulty_text.FaultyLine.{FaultyLine}
use Rattle.cbm_text.specs.Program.{ProgramLine, address_behind}
use Rattle.cbm_text.specs.BasicText.{IsLine, HasFault, IsBasicOutOfMemory, NamesLine}
use Rattle.cbm_text.specs.Causes.{IsCause}
use Rattle.cbm_text.specs.FaultyLines.{AreFaulty, AreFaultyIn, IsFaulty, IsNoted}
use Rattle.cbm_text.proofs.TextPrograms.{names_line}

-- the faulty lines that were found in a text, of which the first ones are kept, and the raw
-- lines that are left: with the faulty ones of these they are those of the text
pub record FaultySoFar (start at place most count : ℕ) (text : List ℕ) (kept : List FaultyLine) (raws : List (List ℕ)) : Type 0 where
  pub found : List FaultyLine
  pub gives : (more : List FaultyLine) → AreFaulty at (place + 1) raws more → AreFaultyIn start text (found ++ more)
  pub first : kept ≡ take most found
  pub places : All (λ (line : FaultyLine). NamesLine text line.fault) kept
  pub few : place + length raws ≡ length (lines_of text)
  pub counted : count ≡ length found
  pub within : count ≤ place

skipped_gives : (at number : ℕ) (raw : List ℕ) (raws : List (List ℕ)) (more : List FaultyLine) → is_skipped (text_of raw) ≡ true → AreFaulty at (number + 1) raws more → AreFaulty at number (raw ∷ raws) more
unfolding AreFaulty
skipped_gives at number raw raws more skipped given = inl (skipped, given)

line_gives : (at number : ℕ) (raw : List ℕ) (raws : List (List ℕ)) (line : ProgramLine) (more : List FaultyLine) → is_skipped (text_of raw) ≡ false → IsLine at (text_of raw) line
    → AreFaulty (address_behind at line.bytes) (number + 1) raws more → AreFaulty at number (raw ∷ raws) more
unfolding AreFaulty
line_gives at number raw raws line more kept is_line given = inr (kept, inl (line, is_line, given))

fault_gives : (at number : ℕ) (raw : List ℕ) (raws : List (List ℕ)) (first : FaultyLine) (more : List FaultyLine) → is_skipped (text_of raw) ≡ false → IsFaulty at number (text_of raw) first
    → AreFaulty at (number + 1) raws more → AreFaulty at number (raw ∷ raws) (first ∷ more)
unfolding AreFaulty
fault_gives at number raw raws first more kept faulty given = inr (kept, inr (first, more, refl, faulty, given))

-- a line that is counted or not
pub at_most_one : (is_counted : Bool) → from_bool is_counted ≤ 1
at_most_one true = omega arith
at_most_one false = omega arith

-- before the first line
pub so_far_none : (start most : ℕ) (text : List ℕ) (kept : List FaultyLine) → kept ≡ [] → FaultySoFar start start 0 most 0 text kept (lines_of text)
so_far_none start most text kept none = record {
  found = [];
  gives = λ more given. given;
  first = none ∙ sym (take_nothing most);
  places = subst (λ (l : List FaultyLine). All (λ (line : FaultyLine). NamesLine text line.fault) l) (sym none) (λ k d within. absurd (no_element k within));
  few = omega arith;
  counted = refl;
  within = omega arith;
}
  where
    take_nothing : (n : ℕ) → take {A = FaultyLine} n [] ≡ []
    take_nothing zero = refl
    take_nothing (suc n) = refl

    no_element : (k : ℕ) → k < 0 → ⊥
    no_element k within = omega (arith, within)

-- a line that is skipped
pub so_far_skipped : (start at place most count : ℕ) (text raw : List ℕ) (kept : List FaultyLine) (old raws : List (List ℕ)) → FaultySoFar start at place most count text kept old → old ≡ raw ∷ raws → is_skipped (text_of raw) ≡ true
    → FaultySoFar start at (place + 1) most count text kept raws
so_far_skipped start at place most count text raw kept old raws so_far cut skipped = record {
  found = so_far.found;
  gives = λ more given. so_far.gives more (subst (λ (w : List (List ℕ)). AreFaulty at (place + 1) w more) (sym cut) (skipped_gives at (place + 1) raw raws more skipped given));
  first = so_far.first;
  places = so_far.places;
  few = omega (arith, so_far.few, ap length cut);
  counted = so_far.counted;
  within = omega (arith, so_far.within);
}

-- a line of the program
pub so_far_line : (start at next place most count : ℕ) (text raw : List ℕ) (kept : List FaultyLine) (old raws : List (List ℕ)) (line : ProgramLine) → FaultySoFar start at place most count text kept old → old ≡ raw ∷ raws
    → is_skipped (text_of raw) ≡ false → IsLine at (text_of raw) line → next ≡ address_behind at line.bytes → FaultySoFar start next (place + 1) most count text kept raws
so_far_line start at next place most count text raw kept old raws line so_far cut unskipped is_line behind = record {
  found = so_far.found;
  gives = λ more given.
      let there = subst (λ (n : ℕ). AreFaulty n (place + 1 + 1) raws more) behind given in
      so_far.gives more (subst (λ (w : List (List ℕ)). AreFaulty at (place + 1) w more) (sym cut) (line_gives at (place + 1) raw raws line more unskipped is_line there));
  first = so_far.first;
  places = so_far.places;
  few = omega (arith, so_far.few, ap length cut);
  counted = so_far.counted;
  within = omega (arith, so_far.within);
}

-- a fault that has a cause is the line's, since there was memory
pub fault_is_of_line : (at number : ℕ) (text : List ℕ) (fault : BasicFault) (cause : Cause) → IsBasicOutOfMemory fault ⊎ HasFault at number text fault → IsCause text fault cause → HasFault at number text fault
fault_is_of_line at number text fault cause (inr here) is = here
fault_is_of_line at number text fault cause (inl memory) is = none fault memory is
  where
    none : (fault : BasicFault) → IsBasicOutOfMemory fault → IsCause text fault cause → HasFault at number text fault
    none (NoNumber line) memory is = absurd memory
    none (NumberTooLarge line) memory is = absurd memory
    none (Text line why) memory is = absurd memory
    none (TokenByte line) memory is = absurd memory
    none (ZeroByte line) memory is = absurd memory
    none (TooLong line) memory is = absurd memory
    none (Memory error) memory is = is

-- the first ones of the first ones and more
pub take_kept : {A : Type 0} (n : ℕ) (xs : List A) (more : List A) → take n (take n xs ++ more) ≡ take n (xs ++ more)
take_kept zero xs more = refl
take_kept (suc n) [] more = refl
take_kept (suc n) (x ∷ xs) more = ap (λ l. x ∷ l) (take_kept n xs more)

-- as many as are kept
pub full : {A : Type 0} (n : ℕ) (xs more : List A) → length xs ≡ n → xs ≡ take n (xs ++ more)
full n [] more is = subst (λ (k : ℕ). [] ≡ take k more) is refl
full zero (x ∷ xs) more is = absurd (omega (arith, is))
full (suc n) (x ∷ xs) more is = ap (λ l. x ∷ l) (full n xs more (omega (arith, is)))

-- a faulty line's fault is at one of the text's lines
abbrev is_placed : List ℕ → FaultyLine → Type 0
is_placed text faulty = NamesLine text faulty.fault

-- a faulty line
pub so_far_fault : (start at place most count : ℕ) (text raw : List ℕ) (kept new : List FaultyLine) (old raws : List (List ℕ)) (line : FaultyLine) → FaultySoFar start at place most count text kept old → old ≡ raw ∷ raws
    → is_skipped (text_of raw) ≡ false → IsFaulty at (place + 1) (text_of raw) line → NamesLine text line.fault → new ≡ take most (kept ++ line ∷ []) → FaultySoFar start at (place + 1) most (count + 1) text new raws
so_far_fault start at place most count text raw kept new old raws line so_far cut unskipped faulty placed is = record {
  found = so_far.found ++ line ∷ [];
  gives = λ more given.
      subst (AreFaultyIn start text) (sym (append_assoc so_far.found (line ∷ []) more))
      (so_far.gives (line ∷ more) (subst (λ (w : List (List ℕ)). AreFaulty at (place + 1) w (line ∷ more)) (sym cut) (fault_gives at (place + 1) raw raws line more unskipped faulty given)));
  first = is ∙ ap (λ (l : List FaultyLine). take most (l ++ line ∷ [])) so_far.first ∙ take_kept most so_far.found (line ∷ []);
  places = subst (All (is_placed text)) (sym is) (All-take (is_placed text) most (kept ++ line ∷ []) (All-append (is_placed text) kept (line ∷ []) so_far.places (All-cons (is_placed text) line [] placed (λ k d within. absurd (no_element k within)))));
  few = omega (arith, so_far.few, ap length cut);
  counted = omega (arith, so_far.counted, length-append so_far.found (line ∷ []));
  within = omega (arith, so_far.within);
}
  where
    no_element : (k : ℕ) → k < 0 → ⊥
    no_element k within = omega (arith, within)

-- no more are kept
pub short_kept : (start at place most count : ℕ) (text : List ℕ) (kept : List FaultyLine) (old : List (List ℕ)) → FaultySoFar start at place most count text kept old → length kept ≤ most
short_kept start at place most count text kept old so_far = omega (arith, ap length so_far.first, length-take most so_far.found)

-- a line, by what was made of it
pub so_far_noted : (start at next place most count more : ℕ) (text raw : List ℕ) (kept new : List FaultyLine) (old raws : List (List ℕ)) (outcome : Result ℕ BasicFault) → FaultySoFar start at place most count text kept old → old ≡ raw ∷ raws
    → is_skipped (text_of raw) ≡ false → IfOk outcome (λ behind. (line : ProgramLine) × IsLine at (text_of raw) line × (behind ≡ address_behind at line.bytes))
    → IfErr outcome (λ fault. IsBasicOutOfMemory fault ⊎ HasFault at (place + 1) (text_of raw) fault) → IsNoted at (text_of raw) most outcome kept next new
    → more ≡ count + from_bool (is_err outcome) → FaultySoFar start next (place + 1) most more text new raws
so_far_noted start at next place most count more text raw kept new old raws (Ok behind) so_far cut unskipped made failed noted added =
    let same : more ≡ count + 0 = added in
    let kept_count : count ≡ more = omega (arith, same) in
    subst (λ (n : ℕ). FaultySoFar start next (place + 1) most n text new raws) kept_count
    (subst (λ (l : List FaultyLine). FaultySoFar start next (place + 1) most count text l raws) (sym noted.1)
    (so_far_line start at next place most count text raw kept old raws made.0 so_far cut unskipped made.1 (noted.0 ∙ made.2)))
so_far_noted start at next place most count more text raw kept new old raws (Err fault) so_far cut unskipped made failed noted added =
    let one_more : more ≡ count + 1 = added in
    let (is_at, line, same, cause, shown, is) = noted in
    let here : HasFault at (place + 1) (text_of raw) fault = fault_is_of_line at (place + 1) (text_of raw) fault line.cause failed cause in
    let faulty : IsFaulty at (place + 1) (text_of raw) line = record {
      fault = subst (HasFault at (place + 1) (text_of raw)) (sym same) here;
      cause = subst (λ (f : BasicFault). IsCause (text_of raw) f line.cause) (sym same) cause;
      shown = shown;
    } in
    let within : place + 1 ≤ length (lines_of text) = omega (arith, so_far.few, ap length cut) in
    let placed : NamesLine text line.fault = names_line at (place + 1) text (text_of raw) line.fault (omega arith) within (inr faulty.fault) in
    subst (λ (n : ℕ). FaultySoFar start next (place + 1) most n text new raws) (sym one_more)
    (subst (λ (n : ℕ). FaultySoFar start n (place + 1) most (count + 1) text new raws) (sym is_at)
    (so_far_fault start at place most count text raw kept new old raws line so_far cut unskipped faulty placed is))

-- behind the last line
no_lines : (at number : ℕ) → AreFaulty at number [] []
unfolding AreFaulty
no_lines at number = refl

pub so_far_all : (start at place most count : ℕ) (text : List ℕ) (kept : List FaultyLine) (old : List (List ℕ)) (so_far : FaultySoFar start at place most count text kept old) → old ≡ [] → AreFaultyIn start text so_far.found
so_far_all start at place most count text kept old so_far none =
    subst (AreFaultyIn start text) (append-nil so_far.found)
    (so_far.gives [] (subst (λ (w : List (List ℕ)). AreFaulty at (place + 1) w []) (sym none) (no_lines at (place + 1))))
