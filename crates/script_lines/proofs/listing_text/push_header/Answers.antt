use Rattle.std.proofs.Common.{◌≡◌, ℕ, ◌++◌, List, codes, ap, ◌∙◌, append_assoc, rules}
use Rattle.std.proofs.lemmas.Result.{on_ok_weaker}
use Rattle.std.specs.Prelude.{OnOk}
use Rattle.petscii.specs.Spelling.{spelling}
use Rattle.script_lines.specs.ListingText.{padded_text, header_line}
use Rattle.script_lines.proofs.listing_text.push_header.Goals as goal

-- parts that are appended one after the other are appended together
together : (old a b c d e f g : List ℕ) → old ++ a ++ b ++ c ++ d ++ e ++ f ++ g ≡ old ++ (a ++ b ++ c ++ d ++ e ++ f ++ g)
together old a b c d e f g =
    ap (λ l. l ++ c ++ d ++ e ++ f ++ g) (append_assoc old a b)
    ∙ ap (λ l. l ++ d ++ e ++ f ++ g) (append_assoc old (a ++ b) c)
    ∙ ap (λ l. l ++ e ++ f ++ g) (append_assoc old (a ++ b ++ c) d)
    ∙ ap (λ l. l ++ f ++ g) (append_assoc old (a ++ b ++ c ++ d) e)
    ∙ ap (λ l. l ++ g) (append_assoc old (a ++ b ++ c ++ d ++ e) f)
    ∙ append_assoc old (a ++ b ++ c ++ d ++ e ++ f) g

pub returns : goal.returns
unfolding header_line
returns c =
    let old = c.args.text.now.items in
    let listing = c.args.listing.now in
    let name = padded_text 16 (spelling listing.name.items) in
    let id = spelling listing.id in
    let dos = spelling listing.dos in
    let named = rw c.as_slice.ensures.value at c.in_ok-push_disk_name.ensures ∙ ap (λ text. text ++ name) c.in_ok-extend_from_slice.ensures.items in
    let with_id = rw c.as_slice-2.ensures at c.in_ok-push_text_form.ensures ∙ ap (λ text. text ++ id) (c.in_ok-extend_from_slice-2.ensures.items ∙ ap (λ text. text ++ codes "\" ") named) in
    let with_dos = rw c.as_slice-3.ensures at c.in_ok-push_text_form-2.ensures ∙ ap (λ text. text ++ dos) (c.in_ok-extend_from_slice-3.ensures.items ∙ ap (λ text. text ++ codes " ") with_id) in
    let ends : OnOk c.extend_from_slice-4.result (c.extend_from_slice-4.new.self.items ≡ c.push_text_form-2.new.text.items ++ codes "\n") = search rules in
    on_ok_weaker c.extend_from_slice-4.result
    (λ ends. ends ∙ ap (λ text. text ++ codes "\n") with_dos ∙ together old (codes "0 \"") name (codes "\" ") id (codes " ") dos (codes "\n"))
    ends
