use Rattle.std.proofs.Common.{◌≡◌, ◌∙◌, ℕ, List, [], None, Ok, false, refl, sym, ap, subst, rules}
use Rattle.d64_dos.specs.Reading.{read_refusal}
use Rattle.script_lines.specs.declared.status.Status.TheVariants.{Done}
use Rattle.script_lines.specs.Act.{Room, Does, LineResponse, World}
use Rattle.script_lines.specs.FileText.{typed_text}
use Rattle.script_lines.specs.FoundFile.{found_content}
use Rattle.script_lines.specs.Line.{show, show_file}
use Rattle.d64_history.specs.History.{present_image}
use Rattle.script_lines.proofs.Acts.{Does-given, Does-refuse_by}
use Rattle.script_lines.proofs.FoundFiles.{found_content-read}
use Rattle.script_commands.proofs.handlers.show_file.Goals as goal

pub returns : goal.returns
unfolding Does
returns c = λ host.
    let history = c.args.session.now in
    let pattern = c.args.pattern.now in
    let got : c.read.result ≡ Ok c.in_ok-file.file = search rules in
    let refused : None ≡ read_refusal (present_image history) pattern = rw (c.image.ensures.present, got) at c.read.ensures.refused in
    let bytes : c.as_slice.result.now ≡ found_content (present_image history) pattern =
    c.as_slice.ensures.value ∙ found_content-read (present_image history) pattern _ _ (rw (c.image.ensures.present, got) at c.read.ensures.back) in
    let text : List ℕ = typed_text (found_content (present_image history) pattern) in
    let is : c.in_ok-text.text.items ≡ text = c.in_ok-text.ensures ∙ ap typed_text bytes in
    let world : World = record { host = host; history = history } in
    let response : LineResponse = record { output = text; status = Done; closes = false } in
    let shown : Does (show text history) world response world = (refl, refl) in
    subst (λ (given : LineResponse). Does (show_file history pattern) world given world)
    (sym (c.text.ensures (present_image history) ∙ ap (λ (output : List ℕ). record { output = output; status = Done; closes = false }) is))
    (Does-refuse_by _ _ _ _ _ refused
    (Does-given Room (λ bytes. show text history) [] host host history response world (refl, refl) shown))
