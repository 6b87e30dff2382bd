-- The lines of a script, by its parts between LFs.
use Rattle.std.proofs.Common.{◌≡◌, ℕ, ◌<◌, List, [], ◌∷◌, ◌++◌, length, cond, eqb, eqb-true, map, filter, inl, inr, refl, sym, ap, ◌∙◌, append-nil, arith}
use Rattle.std.proofs.lemmas.Bool.{cases_Bool}
use Rattle.std.proofs.lemmas.List.Elements.{filter-append}
use Rattle.std.proofs.lemmas.List.Splits.{slice_split-cons_yes, slice_split-cons_no}
use Rattle.std.specs.List.{onto_first}
use Rattle.script_text.specs.RawLines.{ended_lines, is_ended, lines_of}
use Rattle.script_text.proofs.LineCuts.{lines_of-end, lines_of-inside, lines_of-nil}
use Rattle.script_text.proofs.OpenLines.{is_ended-open, is_ended-push}
use Rattle.script_text.specs.Parts.{HasCome, Lacks, parts_of}
use Rattle.script_text.proofs.Cuts.{first_part}
use Rattle.script_text.proofs.PartSteps.{parts_of-come}
use Rattle.cmd_shell.specs.LineByLine.{ended_line, lines_in}

-- a part that an LF ends
pub lines_in-ended : (part next : List ℕ) (more : List (List ℕ)) → lines_in (part ∷ next ∷ more) ≡ ended_line part ∷ lines_in (next ∷ more)
lines_in-ended [] next more = refl
lines_in-ended (byte ∷ part) next more = refl

-- the last part, if it has a byte
pub lines_in-last : (last : List ℕ) → 0 < length last → lines_in (last ∷ []) ≡ last ∷ []
lines_in-last [] some = absurd (omega (arith, some))
lines_in-last (byte ∷ last) some = refl

-- the lines of the parts that have ended, and then the others
pub lines_in-append : (parts : List (List ℕ)) (part : List ℕ) (more : List (List ℕ)) → lines_in (parts ++ part ∷ more) ≡ map ended_line parts ++ lines_in (part ∷ more)
lines_in-append [] part more = refl
lines_in-append (first ∷ []) part more = lines_in-ended first part more
lines_in-append (first ∷ second ∷ parts) part more =
    lines_in-ended first second (parts ++ part ∷ more) ∙ ap (λ l. ended_line first ∷ l) (lines_in-append (second ∷ parts) part more)

-- a byte more of the first part
lines_in-onto : (byte : ℕ) (part : List ℕ) (more : List (List ℕ)) → onto_first byte (lines_in (part ∷ more)) ≡ lines_in ((byte ∷ part) ∷ more)
lines_in-onto byte [] [] = refl
lines_in-onto byte (next ∷ part) [] = refl
lines_in-onto byte [] (second ∷ more) = refl
lines_in-onto byte (next ∷ part) (second ∷ more) = refl

-- the lines of a script are those of its parts
pub lines_of-parts : (script : List ℕ) → lines_of script ≡ lines_in (parts_of 10 script)
lines_of-parts [] = lines_of-nil
lines_of-parts (byte ∷ rest) =
    let first = first_part 10 [] rest refl in
    let others : lines_of rest ≡ lines_in (first.last ∷ first.others) = lines_of-parts rest ∙ ap lines_in first.is in
    elim (cases_Bool (eqb byte 10)) [
      | inl ends ↦
          lines_of-end byte rest ends ∙ ap (λ l. (byte ∷ []) ∷ l) others ∙ ap (λ b. (b ∷ []) ∷ lines_in (first.last ∷ first.others)) (eqb-true byte 10 ends)
          ∙ sym (ap lines_in (slice_split-cons_yes (λ b. eqb b 10) byte rest ends ∙ ap (λ l. [] ∷ l) first.is))
      | inr inside ↦
          lines_of-inside byte rest inside ∙ ap (onto_first byte) others ∙ lines_in-onto byte first.last first.others
          ∙ sym (ap lines_in (slice_split-cons_no (λ b. eqb b 10) byte rest inside ∙ ap (onto_first byte) first.is))
    ]

-- those that have an LF
filter-ended : (parts : List (List ℕ)) → filter is_ended (map ended_line parts) ≡ map ended_line parts
filter-ended [] = refl
filter-ended (part ∷ parts) =
    ap (λ b. cond b (ended_line part ∷ filter is_ended (map ended_line parts)) (filter is_ended (map ended_line parts))) (is_ended-push part)
    ∙ ap (λ l. ended_line part ∷ l) (filter-ended parts)

filter-last : (last : List ℕ) → Lacks 10 last → filter is_ended (lines_in (last ∷ [])) ≡ []
filter-last [] is_open = refl
filter-last (byte ∷ last) is_open = ap (λ b. cond b ((byte ∷ last) ∷ []) []) (is_ended-open (byte ∷ last) is_open)

pub ended_lines-come : (come : List (List ℕ) → List ℕ → Type 0) (bytes : List ℕ) (has_come : HasCome come 10 bytes) → ended_lines bytes ≡ map ended_line has_come.parts
ended_lines-come come bytes has_come =
    ap (filter is_ended) (lines_of-parts bytes ∙ ap lines_in (parts_of-come come 10 bytes has_come) ∙ lines_in-append has_come.parts has_come.begun [])
    ∙ filter-append is_ended (map ended_line has_come.parts) (lines_in (has_come.begun ∷ []))
    ∙ ap (λ l. l ++ filter is_ended (lines_in (has_come.begun ∷ []))) (filter-ended has_come.parts)
    ∙ ap (λ l. map ended_line has_come.parts ++ l) (filter-last has_come.begun has_come.is_open)
    ∙ append-nil (map ended_line has_come.parts)
