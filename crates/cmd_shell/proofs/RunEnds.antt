-- How a run of a script ends.
use Rattle.std.proofs.Common.{◌≡◌, ℕ, ◌+◌, ◌<◌, List, [], ◌∷◌, ◌++◌, length, map, true, false, Bool, take, Option, Result, Ok, Err, refl, sym, ap, ◌∙◌, subst, append_assoc, append-nil, arith, ⊎_elim}
use Rattle.std.specs.Prelude.{MatchBool, OnOk}
use Rattle.std.specs.Io.KnownBytes.{Appends, Consumes, Keeps}
use Rattle.std.proofs.KnownBytes.{Appends-kept}
use Rattle.std.proofs.lemmas.Bool.{cases_Bool, false≢true}
use Rattle.host_storage.specs.Files.{HostState}
use Rattle.script_lines.specs.Act.{world_of}
use Rattle.script_text.specs.HeldLine.{HoldsLine}
use Rattle.host_storage.specs.Input.{Reading, input_limit}
use Rattle.script_text.specs.Parts.{Ends, HasCome}
use Rattle.cmd_shell.specs.Transcript.{RunOptions, RunProgress, Line, Transcript, IsSilent}
use Rattle.cmd_shell.specs.Runner.{EndsStreams, ScriptState, first_progress, Ran, RanLines, RanRead, StoppedAt, options_of}
use Rattle.cmd_shell.specs.LineByLine.{EndsRun, HasRun, ended_line, lines_in, progress_of, state_of}
use Rattle.cmd_shell.specs.declared.runner.LineRunner.{LineRunner}
use Rattle.cmd_shell.specs.declared.runner.Outcome.{Outcome}
use Rattle.cmd_shell.specs.declared.runner.ShellFault.{ShellFault}
use Rattle.cmd_shell.specs.declared.runner.ShellFault.TheVariants.{Read, Write}
use Rattle.cmd_shell.proofs.LinesSoFar.{RanLines-none}
use Rattle.cmd_shell.proofs.ScriptLines.{ended_lines-come, lines_in-append, lines_of-parts}
use Rattle.cmd_shell.proofs.ScriptRuns.{StoppedAt-more}

-- the state after a flush
abbrev pub flushed_state : ScriptState → Option (List ℕ) → ScriptState
flushed_state reached flushed = record { writer = flushed; world = reached.world }

-- a flush changes nothing of what has run
pub RanLines-flushed : (options : RunOptions) (first reached : ScriptState) (lines : List (List ℕ)) (after : RunProgress) (flushed : Option (List ℕ))
    → RanLines options first reached lines after → Keeps reached.writer flushed → RanLines options first (flushed_state reached flushed) lines after
RanLines-flushed options first reached lines after flushed ran kept = record {
  out = ran.out;
  reported = ran.reported;
  written = Appends-kept first.writer reached.writer flushed ran.out ran.written kept;
  world = ran.world;
}

-- a line of a closed run leaves it as it was
silent : (closed : Bool) (start : RunProgress) (said : List ℕ) (after : RunProgress) (Q : Type 0) → closed ≡ true → MatchBool closed (IsSilent start said after) Q → after ≡ start
silent true start said after Q ended one = one.1
silent false start said after Q ended one = absurd (false≢true ended)

-- the lines of an open run were read in an open run
closed_stays : (options : RunOptions) (lines : List (List ℕ)) (start : RunProgress) (out : List ℕ) (after : RunProgress)
    → Transcript options lines start out after → start.closed ≡ true → after.closed ≡ true
unfolding Transcript
closed_stays options [] start out after reported closed = ap (λ p. p.closed) reported.1 ∙ closed
closed_stays options (line ∷ lines) start out after reported closed =
    let (said, rest, middle, split, one, others) = reported in
    closed_stays options lines middle rest after others (ap (λ p. p.closed) (silent start.closed start said middle (Line options line start said middle) closed one) ∙ closed)

-- a line of an open run is read as one
opened : (closed : Bool) (P Q : Type 0) → closed ≡ false → MatchBool closed P Q → Q
opened true P Q is one = absurd (false≢true (sym is))
opened false P Q is one = one

-- the last line of an open run
record LastLine (options : RunOptions) (lines : List (List ℕ)) (start : RunProgress) (out : List ℕ) (after : RunProgress) : Type 0 where
  before : List (List ℕ)
  line : List ℕ
  split : before ++ line ∷ [] ≡ lines
  early : List ℕ
  said : List ℕ
  parts : early ++ said ≡ out
  middle : RunProgress
  reported : Transcript options before start early middle
  open_run : middle.closed ≡ false
  executed : Line options line middle said after

open_before : (options : RunOptions) (lines : List (List ℕ)) (start : RunProgress) (out : List ℕ) (after : RunProgress)
    → Transcript options lines start out after → after.closed ≡ false → start.closed ≡ false
open_before options lines start out after reported is_open =
    ⊎_elim (λ closed. absurd (false≢true (sym is_open ∙ closed_stays options lines start out after reported closed))) (λ other. other) (cases_Bool start.closed)

last_line : (options : RunOptions) (lines : List (List ℕ)) (start : RunProgress) (out : List ℕ) (after : RunProgress)
    → 0 < length lines → Transcript options lines start out after → after.closed ≡ false → LastLine options lines start out after
unfolding Transcript
last_line options [] start out after some reported is_open = absurd (omega arith)
last_line options (line ∷ []) start out after some reported is_open =
    let (said, rest, next, split, one, others) = reported in
    let at_start = open_before options (line ∷ []) start out after reported is_open in
    record {
      before = [];
      line = line;
      split = refl;
      early = [];
      said = said;
      parts = sym (split ∙ ap (λ l. said ++ l) others.0 ∙ append-nil said);
      middle = start;
      reported = (refl, refl);
      open_run = at_start;
      executed = subst (λ p. Line options line start said p) (sym others.1) (opened start.closed (IsSilent start said next) (Line options line start said next) at_start one);
    }
last_line options (line ∷ second ∷ lines) start out after some reported is_open =
    let (said, rest, next, split, one, others) = reported in
    let last = last_line options (second ∷ lines) next rest after (omega arith) others is_open in
    record {
      before = line ∷ last.before;
      line = last.line;
      split = ap (λ l. line ∷ l) last.split;
      early = said ++ last.early;
      said = last.said;
      parts = append_assoc said last.early last.said ∙ ap (λ l. said ++ l) last.parts ∙ sym split;
      middle = last.middle;
      reported = (said, last.early, next, refl, one, last.reported);
      open_run = last.open_run;
      executed = last.executed;
    }

-- if a line has printed, there is a line
some_lines : (options : RunOptions) (first reached : ScriptState) (lines : List (List ℕ)) (after : RunProgress)
    → RanLines options first reached lines after → 0 < after.accepted + after.refused → 0 < length lines
unfolding Transcript
some_lines options first reached [] after ran some = absurd (omega (arith, some, ap (λ p. p.accepted + p.refused) ran.reported.1))
some_lines options first reached (line ∷ lines) after ran some = omega arith

-- a flush failed after a line: that is the line at which the run stopped, and all that it prints
-- was written
StoppedAt-flush : (options : RunOptions) (first reached : ScriptState) (lines : List (List ℕ)) (after : RunProgress) (flushed : Option (List ℕ))
    → RanLines options first reached lines after → after.closed ≡ false → 0 < after.accepted + after.refused → Keeps reached.writer flushed
    → StoppedAt options first (flushed_state reached flushed) lines
StoppedAt-flush options first reached lines after flushed ran is_open some kept =
    let last = last_line options lines (first_progress first.world) ran.out after (some_lines options first reached lines after ran some) ran.reported is_open in
    let P : List ℕ → Type 0 = λ out. Appends first.writer flushed out in
    record {
      before = last.before;
      line = last.line;
      rest = [];
      split = last.split;
      out = last.early;
      middle = last.middle;
      reported = last.reported;
      open_run = last.open_run;
      response = last.said;
      after = after;
      executed = last.executed;
      part = last.said;
      unwritten = [];
      parts = append-nil last.said;
      written = subst P (sym last.parts) (Appends-kept first.writer reached.writer flushed ran.out ran.written kept);
      world = ran.world;
    }

-- it failed before the next read
pub StoppedAt-before : (options : RunOptions) (first reached : ScriptState) (parts more : List (List ℕ)) (next : List ℕ) (after : RunProgress) (flushed : Option (List ℕ))
    → RanLines options first reached (map ended_line parts) after → after.closed ≡ false → 0 < after.accepted + after.refused → Keeps reached.writer flushed
    → StoppedAt options first (flushed_state reached flushed) (lines_in (parts ++ next ∷ more))
StoppedAt-before options first reached parts more next after flushed ran is_open some kept =
    subst (StoppedAt options first (flushed_state reached flushed)) (sym (lines_in-append parts next more))
    (StoppedAt-more options first (flushed_state reached flushed) (map ended_line parts) (lines_in (next ∷ more))
    (StoppedAt-flush options first reached (map ended_line parts) after flushed ran is_open some kept))

-- a run that begins
pub HasRun-none : {L W H : Type 0} (contents : W → Option (List ℕ)) (state : H → HostState) (run : LineRunner L W H) → run.tally ≡ record { outcome = record { accepted = 0; refused = 0 }; closed = false }
    → HoldsLine run.line [] → run.output.now.has_failed ≡ false → HasRun contents state run run [] []
HasRun-none contents state run none held unfailed = record {
  keeps = record { options = refl; observer = refl; output = refl; writer = refl; host = refl; session = refl };
  ran = RanLines-none (options_of run.options.now) (state_of contents state run) run.tally none;
  held = held;
  open_run = ap (λ t. t.closed) none;
  unfailed = unfailed;
  observed = λ delivered undelivered. absurd (false≢true (sym undelivered ∙ delivered));
}

-- a run has ended over a script that its reader had
pub Ran-ended : {L W H : Type 0} (contents : W → Option (List ℕ)) (state : H → HostState) (first now : LineRunner L W H) (reader left : Option (List ℕ)) (ended : Result Outcome ShellFault)
    → Ends (λ parts. EndsRun contents state first now parts ended) 10 reader
    → Ran (options_of first.options.now) reader left (state_of contents state first) (state_of contents state now) ended
Ran-ended contents state first now reader left (Ok outcome) ends =
    let (after, ran, accepted, refused, unfailed) = ends.here.ran in
    record {
      script = ends.input;
      all = ends.all;
      after = after;
      ran = subst (λ (l : List (List ℕ)). RanLines (options_of first.options.now) (state_of contents state first) (state_of contents state now) l after) (sym (lines_of-parts ends.input)) ran;
      accepted = accepted;
      refused = refused;
    }
Ran-ended contents state first now reader left (Err fault) ends =
    subst (λ (f : ShellFault). Ran (options_of first.options.now) reader left (state_of contents state first) (state_of contents state now) (Err f)) (sym ends.here.ran.0)
    (record {
      script = ends.input;
      all = ends.all;
      stopped = subst (StoppedAt (options_of first.options.now) (state_of contents state first) (state_of contents state now)) (sym (lines_of-parts ends.input)) ends.here.ran.1;
    })

-- reading failed, or passed a limit
pub RanRead-by : {L W H : Type 0} (contents : W → Option (List ℕ)) (state : H → HostState) (first now : LineRunner L W H) (reader left : Option (List ℕ)) (consumed : List ℕ)
    → Consumes reader left consumed → HasCome (HasRun contents state first now) 10 (take input_limit consumed)
    → RanRead (options_of first.options.now) reader left (state_of contents state first) (state_of contents state now)
RanRead-by contents state first now reader left consumed lost come =
    let after = progress_of now.tally (world_of (state now.host.now) now.session.now) in
    record {
      consumed = consumed;
      lost = lost;
      after = after;
      ran = subst (λ (l : List (List ℕ)). RanLines (options_of first.options.now) (state_of contents state first) (state_of contents state now) l after)
          (sym (ended_lines-come (HasRun contents state first now) (take input_limit consumed) come)) come.here.ran;
      open_run = come.here.open_run;
    }

-- a run that has ended without a failed read
pub EndsWith-ended : {L W H : Type 0} (contents : W → Option (List ℕ)) (state : H → HostState) (first now : LineRunner L W H) (parts : List (List ℕ)) (ended : Result Outcome ShellFault) (input : Reading)
    → EndsRun contents state first now parts ended → input.has_failed ≡ false → EndsStreams ended input now.output.now.has_failed
EndsWith-ended contents state first now parts (Ok outcome) input ends read = let (after, ran, accepted, refused, unfailed) = ends.ran in (read, unfailed)
EndsWith-ended contents state first now parts (Err fault) input ends read =
    subst (λ (f : ShellFault). EndsStreams (Err f) input now.output.now.has_failed) (sym ends.ran.0) (read, ends.ran.2)

-- what the output shows of a run that has ended
pub written_by : {L W H : Type 0} (contents : W → Option (List ℕ)) (state : H → HostState) (first now : LineRunner L W H) (parts : List (List ℕ)) (ended : Result Outcome ShellFault)
    → EndsRun contents state first now parts ended → OnOk ended (now.output.now.has_failed ≡ false)
written_by contents state first now parts (Ok outcome) ends = let (after, ran, accepted, refused, unfailed) = ends.ran in unfailed
written_by contents state first now parts (Err fault) ends = tt

pub failed_by : {L W H : Type 0} (contents : W → Option (List ℕ)) (state : H → HostState) (first now : LineRunner L W H) (parts : List (List ℕ)) (ended : Result Outcome ShellFault)
    → EndsRun contents state first now parts ended → ended ≡ Err Write → now.output.now.has_failed ≡ true
failed_by contents state first now parts (Ok outcome) ends is = cc
failed_by contents state first now parts (Err fault) ends is = ends.ran.2

-- it has not ended because its script cannot be read
pub never_read : {L W H : Type 0} (contents : W → Option (List ℕ)) (state : H → HostState) (first now : LineRunner L W H) (parts : List (List ℕ)) (ended : Result Outcome ShellFault) (P : Type 0)
    → EndsRun contents state first now parts ended → ended ≡ Err Read → P
never_read contents state first now parts (Ok outcome) P ends is = cc
never_read contents state first now parts (Err fault) P ends is = let other : fault ≡ Write = ends.ran.0 in cc
