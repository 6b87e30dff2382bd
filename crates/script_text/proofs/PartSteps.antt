-- How far a run has come in its input, step by step.
use Rattle.std.proofs.Common.{◌≡◌, ℕ, List, [], ◌∷◌, ◌++◌, refl, sym, ap, ◌∙◌, subst, append_assoc, append-nil}
use Rattle.script_text.specs.Parts.{HasCome, Lacks, parts_of}
use Rattle.script_text.proofs.Cuts.{Lacks-append, first_part, parts_of-ended, parts_of-open}

-- no bytes
pub HasCome-none : (come : List (List ℕ) → List ℕ → Type 0) (separator : ℕ) → come [] [] → HasCome come separator []
HasCome-none come separator here = record { parts = []; begun = []; goes_on = λ more. refl; is_open = refl; here = here }

-- the run itself goes on, with no bytes
pub HasCome-same : (old new : List (List ℕ) → List ℕ → Type 0) (separator : ℕ) (bytes : List ℕ) → HasCome old separator bytes
    → ((parts : List (List ℕ)) (begun : List ℕ) → old parts begun → new parts begun) → HasCome new separator bytes
HasCome-same old new separator bytes come goes_on =
    record { parts = come.parts; begun = come.begun; goes_on = come.goes_on; is_open = come.is_open; here = goes_on come.parts come.begun come.here }

-- bytes more of a part
pub HasCome-push : (old new : List (List ℕ) → List ℕ → Type 0) (separator : ℕ) (bytes part : List ℕ) → HasCome old separator bytes → Lacks separator part
    → ((parts : List (List ℕ)) (begun : List ℕ) → old parts begun → new parts (begun ++ part)) → HasCome new separator (bytes ++ part)
HasCome-push old new separator bytes part come is_open goes_on = record {
  parts = come.parts;
  begun = come.begun ++ part;
  goes_on = λ more.
      ap (parts_of separator) (append_assoc bytes part more) ∙ come.goes_on (part ++ more)
      ∙ ap (λ l. come.parts ++ parts_of separator l) (sym (append_assoc come.begun part more));
  is_open = Lacks-append separator come.begun part come.is_open is_open;
  here = goes_on come.parts come.begun come.here;
}

-- the parts, if a separator comes next
parts_ended : (come : List (List ℕ) → List ℕ → Type 0) (separator : ℕ) (bytes more : List ℕ) → (has_come : HasCome come separator bytes)
    → parts_of separator ((bytes ++ separator ∷ []) ++ more) ≡ has_come.parts ++ has_come.begun ∷ parts_of separator more
parts_ended come separator bytes more has_come =
    ap (parts_of separator) (append_assoc bytes (separator ∷ []) more) ∙ has_come.goes_on (separator ∷ more)
    ∙ ap (λ l. has_come.parts ++ l) (parts_of-ended separator has_come.begun more has_come.is_open)

-- a separator, and the part before it is handled
pub HasCome-end : (old new : List (List ℕ) → List ℕ → Type 0) (separator : ℕ) (bytes : List ℕ) → HasCome old separator bytes
    → ((parts : List (List ℕ)) (part : List ℕ) → old parts part → Lacks separator part → new (parts ++ part ∷ []) []) → HasCome new separator (bytes ++ separator ∷ [])
HasCome-end old new separator bytes come goes_on = record {
  parts = come.parts ++ come.begun ∷ [];
  begun = [];
  goes_on = λ more. parts_ended old separator bytes more come ∙ sym (append_assoc come.parts (come.begun ∷ []) (parts_of separator more));
  is_open = refl;
  here = goes_on come.parts come.begun come.here come.is_open;
}

-- the run ends at the part before a separator
pub ends_at_part : (come : List (List ℕ) → List ℕ → Type 0) (ended : List (List ℕ) → Type 0) (separator : ℕ) (bytes more : List ℕ) → HasCome come separator bytes
    → ((parts : List (List ℕ)) (part : List ℕ) → come parts part → Lacks separator part → (next : List ℕ) (others : List (List ℕ)) → ended (parts ++ part ∷ next ∷ others))
    → ended (parts_of separator ((bytes ++ separator ∷ []) ++ more))
ends_at_part come ended separator bytes more has_come ends =
    let next = first_part separator [] more refl in
    subst ended (sym (parts_ended come separator bytes more has_come ∙ ap (λ l. has_come.parts ++ has_come.begun ∷ l) next.is))
    (ends has_come.parts has_come.begun has_come.here has_come.is_open next.last next.others)

-- the run ends before the next read
pub ends_before_read : (come : List (List ℕ) → List ℕ → Type 0) (ended : List (List ℕ) → Type 0) (separator : ℕ) (bytes more : List ℕ) → HasCome come separator bytes
    → ((parts : List (List ℕ)) (begun : List ℕ) → come parts begun → (last : List ℕ) (others : List (List ℕ)) → ended (parts ++ (begun ++ last) ∷ others))
    → ended (parts_of separator (bytes ++ more))
ends_before_read come ended separator bytes more has_come ends =
    let next = first_part separator has_come.begun more has_come.is_open in
    subst ended (sym (has_come.goes_on more ∙ ap (λ l. has_come.parts ++ l) next.is)) (ends has_come.parts has_come.begun has_come.here next.last next.others)

-- the parts of the bytes that have come
pub parts_of-come : (come : List (List ℕ) → List ℕ → Type 0) (separator : ℕ) (bytes : List ℕ) → (has_come : HasCome come separator bytes)
    → parts_of separator bytes ≡ has_come.parts ++ has_come.begun ∷ []
parts_of-come come separator bytes has_come =
    ap (parts_of separator) (sym (append-nil bytes)) ∙ has_come.goes_on []
    ∙ ap (λ l. has_come.parts ++ l) (ap (parts_of separator) (append-nil has_come.begun) ∙ parts_of-open separator has_come.begun has_come.is_open)

-- the run ends with its input
pub ends_at_end : (come : List (List ℕ) → List ℕ → Type 0) (ended : List (List ℕ) → Type 0) (separator : ℕ) (bytes : List ℕ) → HasCome come separator bytes
    → ((parts : List (List ℕ)) (last : List ℕ) → come parts last → Lacks separator last → ended (parts ++ last ∷ [])) → ended (parts_of separator bytes)
ends_at_end come ended separator bytes has_come ends =
    subst ended (sym (parts_of-come come separator bytes has_come)) (ends has_come.parts has_come.begun has_come.here has_come.is_open)

-- the bytes up to a separator, in a piece
pub up_to_separator : (separator : ℕ) (before done part : List ℕ) → ((before ++ done) ++ part) ++ separator ∷ [] ≡ before ++ (done ++ (part ++ separator ∷ []))
up_to_separator separator before done part = append_assoc (before ++ done) part (separator ∷ []) ∙ append_assoc before done (part ++ separator ∷ [])

-- those and the others are the piece
pub piece_is : (separator : ℕ) (done part others rest piece : List ℕ) → part ++ separator ∷ others ≡ rest → done ++ rest ≡ piece → (done ++ (part ++ separator ∷ [])) ++ others ≡ piece
piece_is separator done part others rest piece cut split =
    append_assoc done (part ++ separator ∷ []) others ∙ ap (λ l. done ++ l) (append_assoc part (separator ∷ []) others ∙ cut) ∙ split

-- all bytes from the separator on
pub past_separator : (separator : ℕ) (before done part others rest piece more : List ℕ) → part ++ separator ∷ others ≡ rest → done ++ rest ≡ piece
    → (((before ++ done) ++ part) ++ separator ∷ []) ++ (others ++ more) ≡ (before ++ piece) ++ more
past_separator separator before done part others rest piece more cut split =
    sym (append_assoc (((before ++ done) ++ part) ++ separator ∷ []) others more)
    ∙ ap (λ l. l ++ more) (ap (λ l. l ++ others) (up_to_separator separator before done part) ∙ append_assoc before (done ++ (part ++ separator ∷ [])) others
    ∙ ap (λ l. before ++ l) (piece_is separator done part others rest piece cut split))
