use Rattle.std.proofs.Common.{◌≡◌, rules, ℕ, List, Option, Some, None, sym, ap, ap₂, ◌∙◌, subst}
use Rattle.std.specs.Prelude.{option_map}
use Rattle.cmd_extract_contents.specs.Limits.{left_after, portion_within}
use Rattle.cmd_extract_contents.specs.declared.extent.Extent.{Extent}
use Rattle.cmd_extract.specs.Work.{Work, Comes, LeadsTo}
use Rattle.cmd_extract.specs.Progress.{portion_of, spent_progress, named_progress, reported_progress}
use Rattle.cmd_extract.specs.FilesNow.{progress_of_files}
use Rattle.cmd_extract.specs.Unpacking.{file_work}
use Rattle.cmd_extract.proofs.Steps.{stops, comes_to, comes_not, nothing_yet}
use Rattle.cmd_extract.proofs.FileSteps.{portion_same, file_some, file_none, reported_none}
use Rattle.cmd_extract.proofs.files.Files.unpack_file.Goals as goal

pub returns-in_err-extent : goal.returns-in_err-extent
returns-in_err-extent g c = λ rest. comes_not c.from_residual.result _ _ _ _ c.from_residual.ensures.0 (stops _ _)

pub returns-in_err-name_file-in-Some : goal.returns-in_err-name_file-in-Some
returns-in_err-name_file-in-Some g c = λ rest.
    comes_not c.from_residual-in_err-name_file-in-Some.result _ _ _ _ c.from_residual-in_err-name_file-in-Some.ensures.0 (stops _ _)

pub returns-in_ok-name_file-in-Some : goal.returns-in_ok-name_file-in-Some
returns-in_ok-name_file-in-Some g c = λ rest.
    let task = c.args.task.now in
    let row = c.args.row.now in
    let p = progress_of_files c.args.self.now in
    let left = c.args.self.now.extraction in
    let file = c.name_file.new.name.items in
    let is_parts : c.setup.inside.with_parts ≡ task.setup.with_parts = search rules in
    let is_image : c.survey.result.now ≡ task.dump.image = search rules in
    let same = portion_same task row c.setup.inside.with_parts c.survey.result.now is_parts is_image in
    let found : Some (record { bytes = c.next_row.new.bytes.items; extent = c.in-Some.extent }) ≡ portion_within left (portion_of task row) =
    ap (option_map (λ (e : Extent). record { bytes = c.next_row.new.bytes.items; extent = e })) (sym c.in-Some.is) ∙ c.in_ok-extent.ensures.written ∙ ap (portion_within left) same in
    let left_is : c.next_row.new.self ≡ left_after left (portion_of task row) = c.in_ok-extent.ensures.left ∙ ap (left_after left) same in
    let now = progress_of_files (record c.args.self.now { extraction = c.next_row.new.self; taken = c.name_file.new.taken }) in
    let now_is : now ≡ named_progress file (spent_progress task row p) =
    ap₂ (λ (l : Option ℕ) (t : List (List ℕ)). record p { left = l; taken = t }) left_is c.in_ok-name_file-in-Some.ensures.taken in
    subst (λ (w : Work). Comes c.write_file.result w (g.H.Host.state c.args.host.now) (rest (progress_of_files c.write_file.new.self)) (g.H.Host.state c.write_file.new.host))
    (file_some task row (spent_progress task row p) now c.next_row.new.bytes.items file c.in-Some.extent (portion_within left (portion_of task row)) rest found c.in_ok-name_file-in-Some.ensures.name now_is)
    (c.write_file.ensures rest)

pub returns-in-None : goal.returns-in-None
returns-in-None g c = λ rest.
    let task = c.args.task.now in
    let row = c.args.row.now in
    let p = progress_of_files c.args.self.now in
    let left = c.args.self.now.extraction in
    let host = g.H.Host.state c.args.host.now in
    let is_parts : c.setup.inside.with_parts ≡ task.setup.with_parts = search rules in
    let is_image : c.survey.result.now ≡ task.dump.image = search rules in
    let same = portion_same task row c.setup.inside.with_parts c.survey.result.now is_parts is_image in
    let found : None ≡ portion_within left (portion_of task row) =
    ap (option_map (λ (e : Extent). record { bytes = c.next_row.new.bytes.items; extent = e })) (sym c.in-None.is) ∙ c.in_ok-extent.ensures.written ∙ ap (portion_within left) same in
    let left_is : c.next_row.new.self ≡ left_after left (portion_of task row) = c.in_ok-extent.ensures.left ∙ ap (left_after left) same in
    comes_to c.report.result (file_work task row (spent_progress task row p) (portion_within left (portion_of task row)) rest) rest host host _ (reported_progress task row None (spent_progress task row p))
    (reported_none c.report.result task row p c.next_row.new.self _ _ _ _ _ left_is c.report.ensures.printed c.report.ensures.lines c.report.ensures.complaint c.report.ensures.list c.report.ensures.failed)
    (subst (λ (w : Work). LeadsTo w host (rest (reported_progress task row None (spent_progress task row p))) host) (file_none task row (spent_progress task row p) (portion_within left (portion_of task row)) rest found) (nothing_yet _ host))
