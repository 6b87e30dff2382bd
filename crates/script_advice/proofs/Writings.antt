-- Writes one after another, and those that stop in a first part of what is to be written.
use Rattle.std.proofs.Common.{◌≡◌, ℕ, List, ◌++◌, Option, Bool, sym, ap, ◌∙◌, append_assoc, inl, inr}
use Rattle.std.specs.Io.KnownBytes.{Appends}
use Rattle.std.proofs.KnownBytes.{Appends-trans}
use Rattle.host_storage.specs.Output.{AppendsPart, Writes, account_of}

-- a first part of some bytes is a first part of more
pub AppendsPart-more : (old new : Option (List ℕ)) (bytes rest : List ℕ) → AppendsPart old new bytes → AppendsPart old new (bytes ++ rest)
AppendsPart-more old new bytes rest written = record {
  part = written.part;
  rest = written.rest ++ rest;
  all = sym (append_assoc written.part written.rest rest) ∙ ap (λ l. l ++ rest) written.all;
  gained = written.gained;
}

-- some bytes, and then a first part of others
pub AppendsPart-after : (old middle new : Option (List ℕ)) (first bytes : List ℕ) → Appends old middle first → AppendsPart middle new bytes
    → AppendsPart old new (first ++ bytes)
AppendsPart-after old middle new first bytes begun written = record {
  part = first ++ written.part;
  rest = written.rest;
  all = append_assoc first written.part written.rest ∙ ap (λ l. first ++ l) written.all;
  gained = Appends-trans old middle new first written.part begun written.gained;
}

-- some bytes, and then others
pub Writes-after : (old middle new : Option (List ℕ)) (before had has : Bool) (first bytes : List ℕ) → Appends old middle first → had ≡ before
    → Writes (account_of middle had) (account_of new has) bytes → Writes (account_of old before) (account_of new has) (first ++ bytes)
Writes-after old middle new before had has first bytes begun same (inl written) =
    inl (Appends-trans old middle new first bytes begun written.0, written.1 ∙ same)
Writes-after old middle new before had has first bytes begun same (inr written) =
    inr (AppendsPart-after old middle new first bytes begun written.0, written.1)

-- a beginning, what is done, a word more, and the rest, are the whole
pub whole_of : (beginning done word more whole end : List ℕ) → done ++ (word ++ more) ≡ whole
    → ((beginning ++ done) ++ word) ++ (more ++ end) ≡ beginning ++ (whole ++ end)
whole_of beginning done word more whole end is =
    append_assoc (beginning ++ done) word (more ++ end) ∙ append_assoc beginning done (word ++ (more ++ end))
    ∙ ap (λ l. beginning ++ l)
    (ap (λ l. done ++ l) (sym (append_assoc word more end)) ∙ sym (append_assoc done (word ++ more) end) ∙ ap (λ l. l ++ end) is)
