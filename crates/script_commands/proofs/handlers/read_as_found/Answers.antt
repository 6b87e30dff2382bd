use Rattle.std.proofs.Common.{◌≡◌, ◌∙◌, ℕ, ◌<◌, Ok, sym, ap, subst, true, false, List, [], None, All, refl, arith, rules}
use Rattle.std.proofs.lemmas.Str.{IsUtf8-from_ascii}
use Rattle.std.proofs.lemmas.Str.Ascii.{IsAscii-from_all}
use Rattle.petscii.specs.Spelling.{spelling}
use Rattle.d64_dos.specs.Reading.{read_refusal}
use Rattle.script_lines.specs.FoundFile.{found_name, found_content, can_name_file}
use Rattle.d64_history.specs.History.{present_image}
use Rattle.script_lines.specs.declared.status.Status.TheVariants.{BadName}
use Rattle.script_lines.proofs.Acts.{Does-given, Does-refuse, Does-refuse_by}
use Rattle.script_lines.proofs.FoundFiles.{found_name-read, found_content-read}
use Rattle.script_commands.proofs.handlers.read_as_found.Goals as goal

pub returns-then-not-is_file_name : goal.returns-then-not-is_file_name
returns-then-not-is_file_name g c =
    let history = c.args.session.now in
    let pattern = c.args.pattern.now in
    let old = g.H.Host.state c.args.host.now in
    let got : c.read.result ≡ Ok c.in_ok-file.file = search rules in
    let back = rw (c.image.ensures.present, got) at c.read.ensures.back in
    let refused : None ≡ read_refusal (present_image history) pattern = rw (c.image.ensures.present, got) at c.read.ensures.refused in
    let text : c.in_ok-name.name.items ≡ spelling (found_name (present_image history) pattern) =
    c.in_ok-name.ensures.spelled ∙ ap spelling (c.as_slice.ensures.value ∙ found_name-read (present_image history) pattern c.in_ok-file.file.name.items c.in_ok-file.file.bytes.items back) in
    let fails : c.is_file_name.result ≡ false = search rules in
    let no_name : false ≡ can_name_file (spelling (found_name (present_image history) pattern)) = sym fails ∙ c.is_file_name.ensures ∙ ap can_name_file (c.as_slice-3.ensures.value ∙ text) in
    Does-refuse_by _ _ _ _ _ refused (Does-given _ _ [] old old history _ _ (refl, refl) (rw (← no_name) (Does-refuse BadName _)))

pub unwrap-name-requires : goal.unwrap-name-requires
unwrap-name-requires g c =
    let same : spelling c.as_slice-2.result.now ≡ c.as_slice-4.result.now =
    sym (c.as_slice-4.ensures.value ∙ c.in_ok-name.ensures.spelled ∙ ap spelling (c.as_slice.ensures.value ∙ sym c.as_slice-2.ensures.value)) in
    let ascii = subst (λ (text : List ℕ). All (λ byte. byte < 128) text) same c.spelling_is_ascii.ensures in
    let text = IsUtf8-from_ascii c.as_slice-4.result.now (IsAscii-from_all c.as_slice-4.result.now ascii) in
    grind arith

pub returns : goal.returns
returns g c =
    let history = c.args.session.now in
    let pattern = c.args.pattern.now in
    let old = g.H.Host.state c.args.host.now in
    let got : c.read.result ≡ Ok c.in_ok-file.file = search rules in
    let back = rw (c.image.ensures.present, got) at c.read.ensures.back in
    let refused : None ≡ read_refusal (present_image history) pattern = rw (c.image.ensures.present, got) at c.read.ensures.refused in
    let text : c.in_ok-name.name.items ≡ spelling (found_name (present_image history) pattern) =
    c.in_ok-name.ensures.spelled ∙ ap spelling (c.as_slice.ensures.value ∙ found_name-read (present_image history) pattern c.in_ok-file.file.name.items c.in_ok-file.file.bytes.items back) in
    let same : c.unwrap-name.result.now ≡ c.as_slice-4.result.now = search rules in
    let name : c.unwrap-name.result.now ≡ spelling (found_name (present_image history) pattern) = same ∙ c.as_slice-4.ensures.value ∙ text in
    let bytes : c.as_slice-5.result.now ≡ found_content (present_image history) pattern =
    c.as_slice-5.ensures.value ∙ found_content-read (present_image history) pattern c.in_ok-file.file.name.items c.in_ok-file.file.bytes.items back in
    let passes : c.is_file_name.result ≡ true = search rules in
    let names : true ≡ can_name_file (spelling (found_name (present_image history) pattern)) = sym passes ∙ c.is_file_name.ensures ∙ ap can_name_file (c.as_slice-3.ensures.value ∙ text) in
    Does-refuse_by _ _ _ _ _ refused
    (Does-given _ _ [] old old history _ _ (refl, refl)
    (rw (← names) (rw (name, bytes) at (c.store.ensures history))))
