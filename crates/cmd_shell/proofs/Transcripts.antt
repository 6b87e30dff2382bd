-- Transcripts that go on line by line.
use Rattle.std.proofs.Common.{◌≡◌, ℕ, ◌+◌, List, [], ◌∷◌, ◌++◌, Bool, true, false, Option, None, Some, refl, sym, ap, ◌∙◌, subst, append_assoc, append-nil, if◌then◌else◌, ◌||◌}
use Rattle.std.specs.Prelude.{MatchBool, MatchOption}
use Rattle.script_lines.specs.Act.{printed_bytes, Act, Ending, Does, LineResponse, World}
use Rattle.script_lines.specs.Line.{act_of_line, IsSkipped, IsExecuted}
use Rattle.script_lines.specs.Status.{is_accepted}
use Rattle.cmd_shell.specs.Transcript.{ends_script, RunOptions, RunProgress, Line, Transcript, IsSilent, counted_progress}

-- a line that prints is one of the open run
executed_by : (options : RunOptions) (asked : Option (Act Ending)) (progress : RunProgress) (response : LineResponse) (world : World)
    → MatchOption asked ⊥ (λ act. Does act progress.world response world)
    → MatchOption asked (IsSilent progress (printed_bytes response) (counted_progress options.refusals progress response world))
    (λ act. (said : LineResponse) × (left : World)
    × Does act progress.world said left × (printed_bytes response ≡ printed_bytes said) × (counted_progress options.refusals progress response world ≡ counted_progress options.refusals progress said left))
executed_by options None progress response world done = absurd done
executed_by options (Some act) progress response world done = (response, world, done, refl, refl)

pub Line-executed : (options : RunOptions) (line : List ℕ) (progress : RunProgress) (response : LineResponse) (world : World)
    → IsExecuted options.home progress.world.history line progress.world response world
    → Line options line progress (printed_bytes response) (counted_progress options.refusals progress response world)
unfolding Line
Line-executed options line progress response world done = executed_by options (act_of_line options.home progress.world.history line) progress response world done

-- a line that is skipped is silent
skipped_by : (options : RunOptions) (asked : Option (Act Ending)) (progress : RunProgress) → asked ≡ None
    → MatchOption asked (IsSilent progress [] progress)
    (λ act. (said : LineResponse) × (left : World)
    × Does act progress.world said left × ([] ≡ printed_bytes said) × (progress ≡ counted_progress options.refusals progress said left))
skipped_by options None progress none = (refl, refl)
skipped_by options (Some act) progress none = cc

pub Line-skipped : (options : RunOptions) (line : List ℕ) (progress : RunProgress) → act_of_line options.home progress.world.history line ≡ None
    → Line options line progress [] progress
unfolding Line
Line-skipped options line progress none = skipped_by options (act_of_line options.home progress.world.history line) progress none

-- what a line says in an open run
open_line : (closed : Bool) (P Q : Type 0) → closed ≡ false → Q → MatchBool closed P Q
open_line true P Q opened q = cc
open_line false P Q opened q = q

-- what a line says in a closed one
closed_line : (closed : Bool) (P Q : Type 0) → closed ≡ true → P → MatchBool closed P Q
closed_line true P Q ended p = p
closed_line false P Q ended p = cc

-- one line more
pub Transcript-line : (options : RunOptions) (lines : List (List ℕ)) (line : List ℕ) (start : RunProgress) (out said : List ℕ) (middle after : RunProgress)
    → Transcript options lines start out middle → middle.closed ≡ false → Line options line middle said after
    → Transcript options (lines ++ line ∷ []) start (out ++ said) after
unfolding Transcript
Transcript-line options [] line start out said middle after reported opened more =
    let P : RunProgress → Type 0 = λ p. Line options line p said after in
    let same : middle ≡ start = reported.1 in (
      said,
      [],
      after,
      ap (λ l. l ++ said) reported.0 ∙ sym (append-nil said),
      open_line start.closed (IsSilent start said after) (Line options line start said after) (ap (λ p. p.closed) (sym same) ∙ opened) (subst P same more),
      (refl, refl),
    )
Transcript-line options (first ∷ lines) line start out said middle after reported opened more =
    let (said_first, rest, next, split, one, others) = reported in (
      said_first,
      rest ++ said,
      next,
      ap (λ l. l ++ said) split ∙ append_assoc said_first rest said,
      one,
      Transcript-line options lines line next rest said middle after others opened more,
    )

-- after the run's end lines are silent
pub Transcript-silent : (options : RunOptions) (lines : List (List ℕ)) (start : RunProgress) → start.closed ≡ true → Transcript options lines start [] start
unfolding Transcript
Transcript-silent options [] start ended = (refl, refl)
Transcript-silent options (line ∷ lines) start ended = (
  [],
  [],
  start,
  refl,
  closed_line start.closed (IsSilent start [] start) (Line options line start [] start) ended (refl, refl),
  Transcript-silent options lines start ended,
)

-- the lines after the run's end change nothing
pub Transcript-closed : (options : RunOptions) (lines more : List (List ℕ)) (start : RunProgress) (out : List ℕ) (after : RunProgress)
    → Transcript options lines start out after → after.closed ≡ true → Transcript options (lines ++ more) start out after
unfolding Transcript
Transcript-closed options [] more start out after reported ended =
    let P : RunProgress → Type 0 = λ p. Transcript options more start [] p in
    let Q : List ℕ → Type 0 = λ l. Transcript options more start l after in
    subst Q (sym reported.0) (subst P (sym reported.1) (Transcript-silent options more start (ap (λ p. p.closed) (sym reported.1) ∙ ended)))
Transcript-closed options (line ∷ lines) more start out after reported ended =
    let (said, rest, next, split, one, others) = reported in
    (said, rest, next, split, one, Transcript-closed options lines more next rest after others ended)

-- the run after a line that has printed: one more line is counted
pub Transcript-executed : (options : RunOptions) (lines : List (List ℕ)) (line : List ℕ) (start : RunProgress) (out : List ℕ) (world after : World)
    (accepted refused accepted' refused' : ℕ) (closed' : Bool) (response : LineResponse)
    → Transcript options lines start out (record { world = world; closed = false; accepted = accepted; refused = refused })
    → IsExecuted options.home world.history line world response after
    → closed' ≡ (response.closes || ends_script options.refusals response.status)
    → accepted' ≡ accepted + (if is_accepted response.status then 1 else 0)
    → refused' ≡ refused + (if is_accepted response.status then 0 else 1)
    → Transcript options (lines ++ line ∷ []) start (out ++ printed_bytes response)
    (record { world = after; closed = closed'; accepted = accepted'; refused = refused' })
Transcript-executed options lines line start out world after accepted refused accepted' refused' closed' response reported done closes more_accepted more_refused =
    let middle : RunProgress = record { world = world; closed = false; accepted = accepted; refused = refused } in
    rw (closes, more_accepted, more_refused)
    (Transcript-line options lines line start out (printed_bytes response) middle (counted_progress options.refusals middle response after) reported refl (Line-executed options line middle response after done))

-- the run after a line that was skipped: nothing is printed
pub Transcript-skipped : (options : RunOptions) (lines : List (List ℕ)) (line : List ℕ) (start : RunProgress) (out : List ℕ) (world after : World) (accepted refused : ℕ)
    → Transcript options lines start out (record { world = world; closed = false; accepted = accepted; refused = refused })
    → IsSkipped options.home world.history line world after
    → Transcript options (lines ++ line ∷ []) start out (record { world = after; closed = false; accepted = accepted; refused = refused })
Transcript-skipped options lines line start out world after accepted refused reported skipped =
    let at : World → RunProgress = λ w. record { world = w; closed = false; accepted = accepted; refused = refused } in
    let P : List ℕ → Type 0 = λ l. Transcript options (lines ++ line ∷ []) start l (at world) in
    let Q : World → Type 0 = λ w. Transcript options (lines ++ line ∷ []) start out (at w) in
    subst Q (sym skipped.1)
    (subst P (append-nil out) (Transcript-line options lines line start out [] (at world) (at world) reported refl (Line-skipped options line (at world) skipped.0)))
