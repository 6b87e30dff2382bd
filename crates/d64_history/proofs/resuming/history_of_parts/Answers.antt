use Rattle.std.proofs.Common.{List, ℕ, sym, ◌∙◌, subst}
use Rattle.std.proofs.lemmas.Result.{err_from_is_err_and}
use Rattle.d64_history.specs.Resuming.{given_bytes, Fails}
use Rattle.d64_history.specs.ResumeFault.{parts_at}
use Rattle.d64_history.specs.declared.resume_fault.ResumeFault.TheVariants.{Trailing}
use Rattle.d64_history.proofs.Given.{given_on, fails_last, file_trails, whole_file, parts_seen}
use Rattle.d64_history.proofs.Resumed.{are-records, session_fails, no_difference, all_difference, resumed}
use Rattle.d64_history.proofs.resuming.history_of_parts.Goals as goal

-- a fault in the start
pub returns-in_err-parts-clause-refused : goal.returns-in_err-parts-clause-refused
returns-in_err-parts-clause-refused c =
    let p = err_from_is_err_and c.from_residual.result c.from_residual.ensures.1 in
    rw (p.1, p.2) (session_fails c.in_err-parts.field-0.0 (given_bytes c.args.parts c.args.rest.now) c.in_err-parts.ensures.fault)

-- or in a record
pub returns-in_err-after-clause-refused : goal.returns-in_err-after-clause-refused
returns-in_err-after-clause-refused c =
    let p = err_from_is_err_and c.from_residual-in_err-after.result c.from_residual-in_err-after.ensures.1 in
    let f = c.in_err-after.ensures.fault in
    let read = given_on c.in_ok-parts.parts c.read_records.new.parts c.in_ok-parts.rest.now f.0 c.in_err-after.ensures.same f.1 ∙ c.in_ok-parts.ensures.given in
    rw (p.1, p.2) (session_fails c.in_err-after.field-0.0 (given_bytes c.args.parts c.args.rest.now)
    (subst (λ (bytes : List ℕ). Fails c.in_err-after.field-0.0 (parts_at bytes)) read
    (fails_last c.in_err-after.field-0.0 c.read_records.new.parts f.0 c.in_err-after.ensures.started f.2 f.4)))

-- bytes after the last record
pub returns-then-not-is_empty-clause-refused : goal.returns-then-not-is_empty-clause-refused
returns-then-not-is_empty-clause-refused c =
    session_fails Trailing (given_bytes c.args.parts c.args.rest.now) (file_trails c.args.parts c.in_ok-parts.parts c.read_records.new.parts c.args.rest.now c.in_ok-parts.rest.now c.in_ok-after.after.now
    c.in_ok-parts.ensures.given c.in_ok-after.ensures.same c.in_ok-after.ensures.read c.in_ok-after.ensures.started c.in_ok-after.ensures.all
    (sym c.is_empty.ensures ∙ c.if-not-is_empty.true))

-- a block doesn't differ
pub returns-then-not-branch-clause-refused : goal.returns-then-not-branch-clause-refused
returns-then-not-branch-clause-refused c =
    let w = whole_file c.args.parts c.in_ok-parts.parts c.read_records.new.parts c.args.rest.now c.in_ok-parts.rest.now c.in_ok-after.after.now
    c.in_ok-parts.ensures.given c.in_ok-after.ensures.same c.in_ok-after.ensures.read c.in_ok-after.ensures.started c.in_ok-after.ensures.all
    (sym c.is_empty.ensures ∙ c.if-not-is_empty.false) in
    no_difference (given_bytes c.args.parts c.args.rest.now) (parts_seen c.read_records.new.parts) w.read (sym c.in_ok-lead_away.ensures ∙ c.if-not-branch.true)

pub returns-clause-refused : goal.returns-clause-refused
returns-clause-refused c =
    let w = whole_file c.args.parts c.in_ok-parts.parts c.read_records.new.parts c.args.rest.now c.in_ok-parts.rest.now c.in_ok-after.after.now
    c.in_ok-parts.ensures.given c.in_ok-after.ensures.same c.in_ok-after.ensures.read c.in_ok-after.ensures.started c.in_ok-after.ensures.all
    (sym c.is_empty.ensures ∙ c.if-not-is_empty.false) in
    all_difference (given_bytes c.args.parts c.args.rest.now) (parts_seen c.read_records.new.parts) w.read (sym c.in_ok-lead_away.ensures ∙ c.if-not-branch.false)

-- the records lead away from the image
pub returns-clause-held : goal.returns-clause-held
returns-clause-held c =
    let w = whole_file c.args.parts c.in_ok-parts.parts c.read_records.new.parts c.args.rest.now c.in_ok-parts.rest.now c.in_ok-after.after.now
    c.in_ok-parts.ensures.given c.in_ok-after.ensures.same c.in_ok-after.ensures.read c.in_ok-after.ensures.started c.in_ok-after.ensures.all
    (sym c.is_empty.ensures ∙ c.if-not-is_empty.false) in
    let new = c.read_records.new.parts in
    (w.are.within, are-records new.records new.image new.done w.are.each (sym c.in_ok-lead_away.ensures ∙ c.if-not-branch.false))

-- the history is that of the file's parts
pub returns-clause-file : goal.returns-clause-file
returns-clause-file c =
    let w = whole_file c.args.parts c.in_ok-parts.parts c.read_records.new.parts c.args.rest.now c.in_ok-parts.rest.now c.in_ok-after.after.now
    c.in_ok-parts.ensures.given c.in_ok-after.ensures.same c.in_ok-after.ensures.read c.in_ok-after.ensures.started c.in_ok-after.ensures.all
    (sym c.is_empty.ensures ∙ c.if-not-is_empty.false) in
    (resumed (given_bytes c.args.parts c.args.rest.now) (parts_seen c.read_records.new.parts) w.are (sym c.in_ok-lead_away.ensures ∙ c.if-not-branch.false)).file

pub returns-clause-session : goal.returns-clause-session
returns-clause-session c =
    let w = whole_file c.args.parts c.in_ok-parts.parts c.read_records.new.parts c.args.rest.now c.in_ok-parts.rest.now c.in_ok-after.after.now
    c.in_ok-parts.ensures.given c.in_ok-after.ensures.same c.in_ok-after.ensures.read c.in_ok-after.ensures.started c.in_ok-after.ensures.all
    (sym c.is_empty.ensures ∙ c.if-not-is_empty.false) in
    (resumed (given_bytes c.args.parts c.args.rest.now) (parts_seen c.read_records.new.parts) w.are (sym c.in_ok-lead_away.ensures ∙ c.if-not-branch.false)).session
