use Rattle.std.proofs.Common.{eqb, not, List, length, ap, ◌∙◌}
use Rattle.std.proofs.lemmas.Bool.{lt-ltb, le-ltb}
use Rattle.d64_survey.specs.Dump.{DumpView}
use Rattle.d64_survey.specs.ReadErrors.{read_errors}
use Rattle.d64_survey.specs.Doubts.{doubts}
use Rattle.d64_survey.specs.Inspection.{unwhole_count}
use Rattle.d64_survey.specs.declared.doubt.Doubt.{Doubt}
use Rattle.d64_survey.specs.declared.read_error.ReadError.{ReadError}
use Rattle.d64_survey.proofs.Amiss.{by_fault, by_error, past_errors, by_files, by_doubts, is_doubted}
use Rattle.d64_survey.proofs.inspection.Inspection.is_amiss.Goals as goal

pub returns-then-not-is_sound : goal.returns-then-not-is_sound
returns-then-not-is_sound c = by_fault c.args.self.now c.is_sound.result c.is_sound.ensures c.if-not-is_sound.true

pub returns-then-not-is_empty : goal.returns-then-not-is_empty
returns-then-not-is_empty c =
    by_error c.args.self.now c.is_sound.result c.is_empty.result c.is_sound.ensures c.if-not-is_sound.false
    (c.is_empty.ensures ∙ ap (λ (l : List ReadError). eqb (length l) 0) (c.self.invariant.1 ∙ ap read_errors c.self.view_is)) c.if-not-is_empty.true

pub returns-then-self-gt0 : goal.returns-then-self-gt0
returns-then-self-gt0 c =
    let dump = c.args.self.now in
    let past = past_errors dump c.is_sound.result c.is_empty.result c.is_sound.ensures c.if-not-is_sound.false
    (c.is_empty.ensures ∙ ap (λ (l : List ReadError). eqb (length l) 0) (c.self.invariant.1 ∙ ap read_errors c.self.view_is)) c.if-not-is_empty.false in
    by_files dump (is_doubted dump) c.self.inside.files.unwhole past (c.self.invariant.2.unwhole ∙ ap unwhole_count c.self.view_is)
    (lt-ltb 0 c.self.inside.files.unwhole c.if-self-gt0.true)

pub returns : goal.returns
returns c =
    let dump = c.args.self.now in
    let past = past_errors dump c.is_sound.result c.is_empty.result c.is_sound.ensures c.if-not-is_sound.false
    (c.is_empty.ensures ∙ ap (λ (l : List ReadError). eqb (length l) 0) (c.self.invariant.1 ∙ ap read_errors c.self.view_is)) c.if-not-is_empty.false in
    ap not (c.is_empty-2.ensures ∙ ap (λ (l : List Doubt). eqb (length l) 0) (c.self.invariant.4 ∙ ap (λ (d : DumpView). doubts d.image) c.self.view_is))
    ∙ by_doubts dump (is_doubted dump) c.self.inside.files.unwhole past (c.self.invariant.2.unwhole ∙ ap unwhole_count c.self.view_is)
    (le-ltb 0 c.self.inside.files.unwhole c.if-self-gt0.false)
