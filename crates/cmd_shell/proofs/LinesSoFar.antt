-- Runs that come through a script line by line.
use Rattle.std.proofs.Common.{◌≡◌, MutBor, ℕ, ◌+◌, ◌<◌, List, [], ◌∷◌, ◌++◌, length, true, false, map, Option, refl, sym, ap, ◌∙◌, subst, append_assoc, append-nil, arith, ◌||◌, eqb, eqb-true}
use Rattle.std.specs.Io.KnownBytes.{Appends}
use Rattle.std.specs.Prelude.{MatchResult, OnOk, OnErr, if◌then◌else◌, Result, Ok, Err}
use Rattle.std.proofs.KnownBytes.{Appends-nil, Appends-trans}
use Rattle.std.proofs.lemmas.Bool.{false≢true}
use Rattle.std.proofs.lemmas.List.{map-append, nil_from_length}
use Rattle.host_storage.specs.Output.{AppendsPart}
use Rattle.script_lines.specs.Line.{IsExecuted, IsSkipped}
use Rattle.script_lines.specs.Act.{printed_bytes, LineResponse, World}
use Rattle.script_lines.specs.Status.{is_accepted}
use Rattle.cmd_shell.specs.Transcript.{ends_script, RunOptions, RunProgress, Transcript, counted_progress}
use Rattle.cmd_shell.specs.Runner.{ScriptState, first_progress, RanLines, StoppedAt}
use Rattle.cmd_shell.specs.LineByLine.{KeepsRun, progress_of, RunsLine, StopsInLine, ended_line, lines_in}
use Rattle.script_text.specs.declared.held_line.HeldLine.{HeldLine}
use Rattle.cmd_shell.specs.declared.runner.LineRunner.{LineRunner}
use Rattle.cmd_shell.specs.declared.runner.Tally.{Tally}
use Rattle.cmd_shell.proofs.ScriptLines.{lines_in-append, lines_in-ended, lines_in-last}
use Rattle.cmd_shell.proofs.ScriptRuns.{RanLines-closed}
use Rattle.cmd_shell.proofs.Transcripts.{Line-executed, Line-skipped, Transcript-line}

-- a run that begins
pub RanLines-none : (options : RunOptions) (reached : ScriptState) (tally : Tally) → tally ≡ record { outcome = record { accepted = 0; refused = 0 }; closed = false }
    → RanLines options reached reached [] (progress_of tally reached.world)
unfolding Transcript
RanLines-none options reached tally none = record { out = []; reported = (refl, ap (λ t. progress_of t reached.world) none); written = Appends-nil reached.writer; world = refl }

-- one line more has run
RanLines-line : (options : RunOptions) (first old new : ScriptState) (lines : List (List ℕ)) (line : List ℕ) (before after : Tally)
    → RanLines options first old lines (progress_of before old.world) → before.closed ≡ false → RunsLine options line old new before after
    → RanLines options first new (lines ++ line ∷ []) (progress_of after new.world)
RanLines-line options first old new lines line before after ran open_run runs = record {
  out = ran.out ++ runs.said;
  reported = Transcript-line options lines line (first_progress first.world) ran.out runs.said (progress_of before old.world) (progress_of after new.world) ran.reported open_run runs.reported;
  written = Appends-trans first.writer old.writer new.writer ran.out runs.said ran.written runs.written;
  world = refl;
}

-- the line of one part more has run
pub RanLines-part : (options same : RunOptions) (first old new : ScriptState) (parts : List (List ℕ)) (part : List ℕ) (before after : Tally)
    → RanLines options first old (map ended_line parts) (progress_of before old.world) → before.closed ≡ false → same ≡ options → RunsLine same (ended_line part) old new before after
    → RanLines options first new (map ended_line (parts ++ part ∷ [])) (progress_of after new.world)
RanLines-part options same first old new parts part before after ran open_run is_same runs =
    subst (λ (l : List (List ℕ)). RanLines options first new l (progress_of after new.world)) (sym (map-append ended_line parts (part ∷ [])))
    (RanLines-line options first old new (map ended_line parts) (ended_line part) before after ran open_run
    (subst (λ (o : RunOptions). RunsLine o (ended_line part) old new before after) is_same runs))

-- it ended the run: what comes after it is silent
pub RanLines-ending : (options : RunOptions) (first new : ScriptState) (parts more : List (List ℕ)) (part next : List ℕ) (after : RunProgress)
    → RanLines options first new (map ended_line (parts ++ part ∷ [])) after → after.closed ≡ true → RanLines options first new (lines_in (parts ++ part ∷ next ∷ more)) after
RanLines-ending options first new parts more part next after ran closed =
    subst (λ (l : List (List ℕ)). RanLines options first new l after)
    (sym (lines_in-append (parts ++ part ∷ []) next more) ∙ ap lines_in (append_assoc parts (part ∷ []) (next ∷ more)))
    (RanLines-closed options first new (map ended_line (parts ++ part ∷ [])) (lines_in (next ∷ more)) after ran closed)

-- a write failed at a line
StoppedAt-line : (options : RunOptions) (first old new : ScriptState) (lines rest all : List (List ℕ)) (line : List ℕ) (before : Tally)
    → RanLines options first old lines (progress_of before old.world) → before.closed ≡ false → StopsInLine options line old new before
    → lines ++ line ∷ rest ≡ all → StoppedAt options first new all
StoppedAt-line options first old new lines rest all line before ran open_run stops split = record {
  before = lines;
  line = line;
  rest = rest;
  split = split;
  out = ran.out;
  middle = progress_of before old.world;
  reported = ran.reported;
  open_run = open_run;
  response = stops.said;
  after = stops.after;
  executed = stops.reported;
  part = stops.part.part;
  unwritten = stops.part.rest;
  parts = stops.part.all;
  written = Appends-trans first.writer old.writer new.writer ran.out stops.part.part ran.written stops.part.gained;
  world = stops.world;
}

pub StoppedAt-part : (options same : RunOptions) (first old new : ScriptState) (parts more : List (List ℕ)) (part next : List ℕ) (before : Tally)
    → RanLines options first old (map ended_line parts) (progress_of before old.world) → before.closed ≡ false → same ≡ options → StopsInLine same (ended_line part) old new before
    → StoppedAt options first new (lines_in (parts ++ part ∷ next ∷ more))
StoppedAt-part options same first old new parts more part next before ran open_run is_same stops =
    StoppedAt-line options first old new (map ended_line parts) (lines_in (next ∷ more)) (lines_in (parts ++ part ∷ next ∷ more)) (ended_line part) before ran open_run
    (subst (λ (o : RunOptions). StopsInLine o (ended_line part) old new before) is_same stops)
    (sym (lines_in-append parts part (next ∷ more) ∙ ap (λ (l : List (List ℕ)). map ended_line parts ++ l) (lines_in-ended part next more)))

-- nothing follows the last LF
pub RanLines-whole : (options : RunOptions) (first reached : ScriptState) (parts : List (List ℕ)) (last : List ℕ) (after : RunProgress)
    → RanLines options first reached (map ended_line parts) after → length last ≡ 0 → RanLines options first reached (lines_in (parts ++ last ∷ [])) after
RanLines-whole options first reached parts last after ran none =
    subst (λ (l : List (List ℕ)). RanLines options first reached l after)
    (sym (lines_in-append parts last [] ∙ ap (λ (l : List ℕ). map ended_line parts ++ lines_in (l ∷ [])) (nil_from_length last none) ∙ append-nil (map ended_line parts))) ran

-- the last line lacks its LF
pub RanLines-last : (options same : RunOptions) (first old new : ScriptState) (parts : List (List ℕ)) (last : List ℕ) (before after : Tally)
    → RanLines options first old (map ended_line parts) (progress_of before old.world) → before.closed ≡ false → 0 < length last → same ≡ options → RunsLine same last old new before after
    → RanLines options first new (lines_in (parts ++ last ∷ [])) (progress_of after new.world)
RanLines-last options same first old new parts last before after ran open_run some is_same runs =
    subst (λ (l : List (List ℕ)). RanLines options first new l (progress_of after new.world))
    (sym (lines_in-append parts last [] ∙ ap (λ (l : List (List ℕ)). map ended_line parts ++ l) (lines_in-last last some)))
    (RanLines-line options first old new (map ended_line parts) last before after ran open_run (subst (λ (o : RunOptions). RunsLine o last old new before after) is_same runs))

pub StoppedAt-last : (options same : RunOptions) (first old new : ScriptState) (parts : List (List ℕ)) (last : List ℕ) (before : Tally)
    → RanLines options first old (map ended_line parts) (progress_of before old.world) → before.closed ≡ false → 0 < length last → same ≡ options → StopsInLine same last old new before
    → StoppedAt options first new (lines_in (parts ++ last ∷ []))
StoppedAt-last options same first old new parts last before ran open_run some is_same stops =
    StoppedAt-line options first old new (map ended_line parts) [] (lines_in (parts ++ last ∷ [])) last before ran open_run
    (subst (λ (o : RunOptions). StopsInLine o last old new before) is_same stops)
    (sym (lines_in-append parts last [] ∙ ap (λ (l : List (List ℕ)). map ended_line parts ++ l) (lines_in-last last some)))

-- a line that is skipped has run, and nothing was written
pub RunsLine-skipped : (options : RunOptions) (raw : List ℕ) (writer : Option (List ℕ)) (world after : World) (tally : Tally) → IsSkipped options.home world.history raw world after
    → RunsLine options raw (record { writer = writer; world = world }) (record { writer = writer; world = after }) tally tally
RunsLine-skipped options raw writer world after tally skipped =
    let P : World → Type 0 = λ w. RunsLine options raw (record { writer = writer; world = world }) (record { writer = writer; world = w }) tally tally in
    subst P (sym skipped.1) (record {
      said = [];
      reported = Line-skipped options raw (progress_of tally world) skipped.0;
      written = Appends-nil writer;
    })

-- a line that prints has run, and what it prints was written, or a write of it failed
pub EndsLine-executed : {E : Type 0} (options : RunOptions) (raw : List ℕ) (old new : Option (List ℕ)) (world left : World) (before after : Tally) (response : LineResponse) (wrote : Result (Unit {0}) E)
    → IsExecuted options.home world.history raw world response left → after.closed ≡ (response.closes || ends_script options.refusals response.status)
    → after.outcome.accepted ≡ before.outcome.accepted + (if is_accepted response.status then 1 else 0)
    → after.outcome.refused ≡ before.outcome.refused + (if is_accepted response.status then 0 else 1)
    → OnOk wrote (Appends old new (printed_bytes response)) → OnErr wrote (AppendsPart old new (printed_bytes response))
    → MatchResult wrote
    (λ _. RunsLine options raw (record { writer = old; world = world }) (record { writer = new; world = left }) before after)
    (λ _. StopsInLine options raw (record { writer = old; world = world }) (record { writer = new; world = left }) before)
EndsLine-executed options raw old new world left before after response (Ok done) executed closes accepted refused written part = record {
  said = printed_bytes response;
  reported = rw (closes, accepted, refused) (Line-executed options raw (progress_of before world) response left executed);
  written = written;
}
EndsLine-executed options raw old new world left before after response (Err error) executed closes accepted refused written part = record {
  said = printed_bytes response;
  after = counted_progress options.refusals (progress_of before world) response left;
  reported = Line-executed options raw (progress_of before world) response left executed;
  part = part;
  world = refl;
}

-- what a test whether bytes have come says
pub has_none : (bytes : List ℕ) → eqb (length bytes) 0 ≡ true → length bytes ≡ 0
has_none bytes none = eqb-true (length bytes) 0 none

pub has_some : (bytes : List ℕ) → eqb (length bytes) 0 ≡ false → 0 < length bytes
has_some [] some = absurd (false≢true (sym some))
has_some (byte ∷ rest) some = omega arith

-- what stays the same stays so, while one line is ended and another is begun
pub KeepsRun-line : {L W H : Type 0} (first old new : LineRunner L W H) (observer : MutBor L) (ended begun : HeldLine) → observer.ghost_name ≡ old.observer.ghost_name
    → KeepsRun first old → KeepsRun (record old { observer = observer; line = ended }) new → KeepsRun first (record new { line = begun })
KeepsRun-line first old new observer ended begun same a b = record {
  options = b.options ∙ a.options;
  observer = b.observer ∙ same ∙ a.observer;
  output = b.output ∙ a.output;
  writer = b.writer ∙ a.writer;
  host = b.host ∙ a.host;
  session = b.session ∙ a.session;
}

-- or with the same line and observer
pub KeepsRun-trans : {L W H : Type 0} (first old new : LineRunner L W H) → KeepsRun first old → KeepsRun old new → KeepsRun first new
KeepsRun-trans first old new a b = KeepsRun-line first old new old.observer old.line new.line refl a b
