use Rattle.std.proofs.Common.{ℕ, true, false, List, Some, None, refl, ap, ◌∙◌}
use Rattle.d64_files.specs.Directory.{slots, is_name_taken}
use Rattle.d64_effects.specs.Rename.{first_of_name}
use Rattle.d64_dos.proofs.RenamedFiles.{refused_by_names}
use Rattle.d64_dos.proofs.rename.slot_to_rename.Goals as goal

pub returns-in_default-clause-refused : goal.returns-in_default-clause-refused
returns-in_default-clause-refused c =
    let old = c.args.old.now in
    let new = c.args.new.now in
    refused_by_names c.args.image.now old new None (is_name_taken new (slots c.args.image.now)) c.in_ok-directory.ensures.first
    (c.in_default.ensures.slot ∙ ap (λ (image : List (List ℕ)). first_of_name old (slots image)) c.in_ok-directory.ensures.image) refl

pub returns-then-is_taken-clause-refused : goal.returns-then-is_taken-clause-refused
returns-then-is_taken-clause-refused c =
    let old = c.args.old.now in
    let new = c.args.new.now in
    refused_by_names c.args.image.now old new (Some c.in-Some.first) true c.in_ok-directory.ensures.first
    (c.in-Some.ensures.slot ∙ ap (λ (image : List (List ℕ)). first_of_name old (slots image)) c.in_ok-directory.ensures.image)
    (c.if-is_taken.ensures ∙ ap (λ (image : List (List ℕ)). is_name_taken new (slots image)) c.in_ok-directory.ensures.image)

pub returns-clause-refused : goal.returns-clause-refused
returns-clause-refused c =
    let old = c.args.old.now in
    let new = c.args.new.now in
    refused_by_names c.args.image.now old new (Some c.in-Some.first) false c.in_ok-directory.ensures.first
    (c.in-Some.ensures.slot ∙ ap (λ (image : List (List ℕ)). first_of_name old (slots image)) c.in_ok-directory.ensures.image)
    (c.if-is_taken.ensures ∙ ap (λ (image : List (List ℕ)). is_name_taken new (slots image)) c.in_ok-directory.ensures.image)
