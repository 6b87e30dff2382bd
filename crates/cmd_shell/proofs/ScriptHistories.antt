-- what the lines of a script leave of the history
use Rattle.std.proofs.Common.{◌≡◌, ℕ, ◌<◌, List, [], ◌∷◌, ◌+◌, ◌==◌, length, Bool, true, false, Option, None, Some, Result, Ok, Err, refl, sym, ap, ◌∙◌, subst, ◌⊎◌, inl, inr, arith, if◌then◌else◌}
use Rattle.std.specs.Prelude.{zero, suc, ◌&&◌, not, All, Contains, IfOk, MatchBool, MatchOption, MatchResult, IfSome, nat_lt, nat_le, ok_or, codes}
use Rattle.std.specs.List.{list_any}
use Rattle.std.specs.Option.{option_map_or}
use Rattle.std.proofs.lemmas.Bool.{eqb-true, eqb-false, or_parts, and_parts}
use Rattle.std.proofs.lemmas.Bool.Decides.{nat_tests}
use Rattle.std.proofs.lemmas.List.Elements.{All-nil, All-cons, All-head, All-tail}
use Rattle.d64_image.specs.Disk.{AreBytes}
use Rattle.d64_files.specs.Pattern.{is_pattern}
use Rattle.d64_files.specs.declared.kind.Kind.TheVariants.{Prg}
use Rattle.d64_dos.specs.Change.{Change}
use Rattle.d64_dos.specs.Change as changes
use Rattle.d64_dos.specs.Command.{reply_to, refusal_of}
use Rattle.d64_dos.specs.Reading.{directory_refusal, read_refusal}
use Rattle.d64_dos.specs.declared.refusal.Refusal.{Refusal}
use Rattle.d64_history.specs.History.{History, present_image, undone_history, redone_history}
use Rattle.d64_undo.specs.Request.{Asked, Apply, Undo, Redo, Step, Run}
use Rattle.d64_undo.specs.SoundHistory.{HoldsSoundDisks, KeepsDisksSound}
use Rattle.d64_undo.proofs.SoundHistories.{step-sound}
use Rattle.d64_effects.specs.Laws.{AreTwoBytes}
use Rattle.d64_files.specs.Label.{holds_any_of}
use Rattle.d64_files.specs.Name.{IsName, is_name, forbidden_in_names}
use Rattle.host_storage.specs.declared.host.HostFault.{HostFault}
use Rattle.cbm_text.proofs.FileBytes.{file_small}
use Rattle.cbm_text.proofs.NormalLines.{small_bytes}
use Rattle.script_lines.specs.BasicFiles.{program_start}
use Rattle.d64_undo.specs.declared.request.RequestOutcome.{RequestOutcome}
use Rattle.d64_undo.specs.declared.request.RequestOutcome.TheVariants.{Accepted, Undone, Redone}
use Rattle.script_text.specs.RawLines.{text_of, is_too_long, is_skipped}
use Rattle.script_text.specs.Words.{words_of_line}
use Rattle.petscii.specs.Spelling.{spelling}
use Rattle.script_lines.specs.Act.{printed_bytes, Act, Give, Refuse, Then, Call, Text, Fetch, Store, Crunch, Expand, Room, CallGives, bytes_given, Ending, Does, LineResponse, World, ◌>>=◌, value_or_refusal, need, each_text, plain_response}
use Rattle.host_storage.specs.Files.{HostState}
use Rattle.script_lines.specs.Arguments.{host_in, block_argument, at_comma, can_be_id, name_and_kind_in, name_and_kind_of}
use Rattle.script_lines.specs.ArgumentCounts.{no_argument, one_argument, at_most_one, argument_and, some_arguments}
use Rattle.script_lines.specs.LineCommand.{command_named}
use Rattle.script_lines.specs.declared.line_command.LineCommand.{LineCommand}
use Rattle.script_lines.specs.declared.line_command.LineCommand.TheVariants as commands
use Rattle.script_lines.proofs.LineCommands.{command_named-name}
use Rattle.script_lines.specs.FoundFile.{found_name, can_name_file}
use Rattle.script_lines.specs.Line.{refuse_by, leave, run, act_for, act_of_words, act_of_line, name_parts, read_to, save_act, undo_act, redo_act}
use Rattle.cmd_shell.specs.ScriptLaws.{IsReachedIn, ScriptsAreRuns, IsBlockWrite, ScriptsKeepDisksSound}
use Rattle.script_commands.specs.declared.observer.Refusals.{Refusals}
use Rattle.cmd_shell.specs.Transcript.{RunOptions, RunProgress, Line, Transcript, IsSilent, counted_progress}
use Rattle.script_lines.specs.declared.status.Status.{Status}
use Rattle.script_lines.specs.declared.status.Status.TheVariants.{LongLine, UnknownCommand}

-- what is known of the bytes that a call gives, whatever the host does
abbrev Known : Call → List ℕ → Type 0
Known (Text test word) bytes = AreBytes bytes × (test bytes ≡ true)
Known (Fetch name limit) bytes = AreBytes bytes
Known (Store name stored) bytes = Unit {0}
Known (Crunch text) bytes = AreBytes bytes
Known (Expand file) bytes = Unit {0}
Known Room bytes = Unit {0}

fetched-known : (fetched : Result (List ℕ) HostFault) (bytes : List ℕ) → IfOk fetched AreBytes → Ok bytes ≡ bytes_given (λ bytes. bytes) fetched → AreBytes bytes
fetched-known (Ok others) bytes small same = let is : bytes ≡ others = cc in subst AreBytes (sym is) small
fetched-known (Err fault) bytes small same = absurd cc

given-known : (call : Call) (old : HostState) (bytes : List ℕ) (new : HostState) → CallGives call old (Ok bytes) new → Known call bytes
given-known (Text test word) old bytes new (spelled, same) = (small_bytes bytes word spelled.0, spelled.1)
given-known (Fetch name limit) old bytes new (fetched, fetches, is) = fetched-known fetched bytes fetches.bytes is
given-known (Store name stored) old bytes new gives = tt
given-known (Crunch text) old bytes new (crunches, same) = file_small program_start text bytes (omega arith) crunches
given-known (Expand file) old bytes new gives = tt
given-known Room old bytes new gives = tt

-- a byte that a test does not find is not among others
absent : (byte : ℕ) (others : List ℕ) → list_any (λ f. f == byte) others ≡ false → ¬ (Contains others byte)
absent byte [] none (k, within, is) = absurd (omega arith)
absent byte (other ∷ others) none (zero, within, is) = eqb-false other byte (or_parts _ _ none).0 is
absent byte (other ∷ others) none (suc k, within, is) = absent byte others (or_parts _ _ none).1 (k, omega arith, is)

none_forbidden : (forbidden bytes : List ℕ) → holds_any_of forbidden bytes ≡ false → All (λ b. ¬ (Contains forbidden b)) bytes
none_forbidden forbidden [] none = All-nil (λ b. ¬ (Contains forbidden b))
none_forbidden forbidden (byte ∷ bytes) none =
    let both = or_parts (list_any (λ f. f == byte) forbidden) (holds_any_of forbidden bytes) none in
    All-cons (λ b. ¬ (Contains forbidden b)) byte bytes (absent byte forbidden both.0) (none_forbidden forbidden bytes both.1)

-- bytes that pass the tests are a name, or an id
name-made : (bytes : List ℕ) → AreBytes bytes × (is_name bytes ≡ true) → IsName bytes
name-made bytes (small, passes) =
    let outer = and_parts (nat_lt 0 (length bytes) && nat_le (length bytes) 16) (not (holds_any_of forbidden_in_names bytes)) passes in
    let inner = and_parts (nat_lt 0 (length bytes)) (nat_le (length bytes) 16) outer.0 in
    let some = inner.0 in
    let short = inner.1 in
    let test = outer.1 in
    record {
      not_empty = grind (arith, nat_tests);
      short = grind (arith, nat_tests);
      allowed = none_forbidden forbidden_in_names bytes (not-true (holds_any_of forbidden_in_names bytes) test);
      in_range = small;
    }
  where
    not-true : (b : Bool) → not b ≡ true → b ≡ false
    not-true true is = absurd cc
    not-true false is = refl

id-made : (bytes : List ℕ) → AreBytes bytes × (can_be_id bytes ≡ true) → AreTwoBytes bytes
id-made bytes (small, passes) =
    let two = (and_parts (length bytes == 2) (not (holds_any_of forbidden_in_names bytes)) passes).0 in
    (eqb-true (length bytes) 2 two, small)

-- one request at most leads from one history to another, and it is one of these
abbrev IsStepFrom : (Asked → Type 0) → History → History → Type 0
IsStepFrom IsOne before after = (after ≡ before) ⊎ ((request : Asked) × (outcome : RequestOutcome) × IsOne request × Step before request outcome after)

-- each history that an act may leave is one step at most from that before it
abbrev Leads : (Asked → Type 0) → History → Act Ending → Type 0
Leads IsOne history (Give ending) = IsStepFrom IsOne history ending.history
Leads IsOne history (Refuse status) = Unit {0}
Leads IsOne history (Then call next) = (bytes : List ℕ) → Known call bytes → Leads IsOne history (next bytes)

-- after any act, it holds if it holds of the rest
after_any : {A : Type 0} (IsOne : Asked → Type 0) (history : History) (act : Act A) (next : A → Act Ending)
    → ((value : A) → Leads IsOne history (next value)) → Leads IsOne history (act >>= next)
after_any IsOne history (Give value) next each = each value
after_any IsOne history (Refuse status) next each = tt
after_any IsOne history (Then call more) next each = λ bytes known. after_any IsOne history (more bytes) next each

-- after what was found
after_found : {A : Type 0} (IsOne : Asked → Type 0) (history : History) (found : Option A) (status : Status) (next : A → Act Ending)
    → ((value : A) → found ≡ Some value → Leads IsOne history (next value)) → Leads IsOne history (value_or_refusal (ok_or found status) >>= next)
after_found IsOne history (Some value) status next each = each value refl
after_found IsOne history None status next each = tt

-- after a test that passed
after_need : (IsOne : Asked → Type 0) (history : History) (test : Bool) (status : Status) (next : Unit {0} → Act Ending)
    → (test ≡ true → Leads IsOne history (next tt)) → Leads IsOne history (need test status >>= next)
after_need IsOne history true status next passed = passed refl
after_need IsOne history false status next passed = tt

-- if no refusal applies
after_allowed : (IsOne : Asked → Type 0) (history : History) (refusal : Option Refusal) (next : Unit {0} → Act Ending)
    → (refusal ≡ None → Leads IsOne history (next tt)) → Leads IsOne history (refuse_by refusal >>= next)
after_allowed IsOne history None next none = none refl
after_allowed IsOne history (Some refusal) next none = tt

-- a command is one request
run-leads : (IsOne : Asked → Type 0) (history : History) (change : Change) → IsOne (Apply change) → Leads IsOne history (run history change)
run-leads IsOne history change one =
    after_allowed IsOne history (refusal_of (present_image history) change) _
    (λ none bytes known. inr (Apply change, Accepted (reply_to (present_image history) change), one, (none, refl, refl)))

-- undo is one
undo-leads : (IsOne : Asked → Type 0) (history : History) → IsOne Undo → Leads IsOne history (undo_act history)
undo-leads IsOne history one =
    after_need IsOne history (nat_lt 0 history.cursor) _ (λ _. leave (undone_history history))
    (λ passed. let some : 0 < history.cursor = grind (arith, nat_tests) in inr (Undo, Undone, one, (some, refl)))

-- and so is redo
redo-leads : (IsOne : Asked → Type 0) (history : History) → IsOne Redo → Leads IsOne history (redo_act history)
redo-leads IsOne history one =
    after_need IsOne history (nat_lt (history.cursor + 1) (length history.images)) _ (λ _. leave (redone_history history))
    (λ passed. let some : history.cursor + 1 < length history.images = grind (arith, nat_tests) in inr (Redo, Redone, one, (some, refl)))

-- a name of the disk is one request
name-leads : (IsOne : Asked → Type 0) (history : History) (word : List ℕ) (parts : Option (List ℕ × List ℕ))
    → ((name : List ℕ) (id : Option (List ℕ)) → IsName name → IfSome id AreTwoBytes → IsOne (Apply (changes.Name name id)))
    → Leads IsOne history (name_parts history word parts)
name-leads IsOne history word None one = λ name named. run-leads IsOne history (changes.Name name None) (one name None (name-made name named) tt)
name-leads IsOne history word (Some parts) one =
    λ name named id known. run-leads IsOne history (changes.Name name (Some id)) (one name (Some id) (name-made name named) (id-made id known))

-- a file that is read leaves the history
read-leads : (IsOne : Asked → Type 0) (history : History) (pattern : List ℕ) (host : Option (List ℕ)) → Leads IsOne history (read_to history pattern host)
read-leads IsOne history pattern None =
    after_any IsOne history (refuse_by (read_refusal (present_image history) pattern)) _
    (λ _ bytes known. after_any IsOne history (need (can_name_file (spelling (found_name (present_image history) pattern))) _) _ (λ _ stored known. inl refl))
read-leads IsOne history pattern (Some host) =
    after_any IsOne history (value_or_refusal (host_in host)) _
    (λ name. after_any IsOne history (refuse_by (read_refusal (present_image history) pattern)) _ (λ _ stored known. inl refl))

-- an image that is saved leaves it too
save-leads : (IsOne : Asked → Type 0) (home : Option (List ℕ)) (history : History) (host : Option (List ℕ)) → Leads IsOne history (save_act home history host)
save-leads IsOne None history None = tt
save-leads IsOne (Some home) history None = λ stored known. inl refl
save-leads IsOne home history (Some host) = after_any IsOne history (value_or_refusal (host_in host)) _ (λ name stored known. inl refl)

-- each command asks for one request at most: one that keeps disks sound, except for a block write
command-leads : (IsOne : Asked → Type 0) (home : Option (List ℕ)) (history : History) (command : LineCommand) (arguments : List (List ℕ))
    → ((request : Asked) → KeepsDisksSound request → IsOne request) → (command ≡ commands.BlockWrite → (request : Asked) → IsOne request)
    → Leads IsOne history (act_for home history command arguments)
command-leads IsOne home history commands.Block arguments keeps writes =
    after_any IsOne history (argument_and one_argument arguments) _
    (λ place. after_any IsOne history (value_or_refusal (block_argument (present_image history) place.0 place.1)) _ (λ at. inl refl))
command-leads IsOne home history commands.BlockRead arguments keeps writes =
    after_any IsOne history (argument_and (argument_and one_argument) arguments) _
    (λ w. after_any IsOne history (value_or_refusal (host_in w.0)) _
    (λ name. after_any IsOne history (value_or_refusal (block_argument (present_image history) w.1.0 w.1.1)) _ (λ at stored known. inl refl)))
command-leads IsOne home history commands.BlockWrite arguments keeps writes =
    after_any IsOne history (argument_and (argument_and one_argument) arguments) _
    (λ w. after_any IsOne history (value_or_refusal (host_in w.0)) _
    (λ name. after_any IsOne history (value_or_refusal (block_argument (present_image history) w.1.0 w.1.1)) _
    (λ at bytes known. after_any IsOne history (need (length bytes == 256) _) _
    (λ _. run-leads IsOne history (changes.BlockWrite at bytes) (writes refl _)))))
command-leads IsOne home history commands.Crunch arguments keeps writes =
    after_any IsOne history (argument_and at_most_one arguments) _
    (λ w. after_any IsOne history (value_or_refusal (host_in w.0)) _
    (λ source name named text fetched file crunched.
    run-leads IsOne history (changes.Write name Prg file) (keeps _ (refl, (name-made name named, crunched)))))
command-leads IsOne home history commands.Delete arguments keeps writes =
    after_any IsOne history (some_arguments arguments) _
    (λ w. after_any IsOne history (each_text is_pattern w) _
    (λ patterns. run-leads IsOne history (changes.Delete patterns) (keeps _ (refl, tt))))
command-leads IsOne home history commands.Format arguments keeps writes =
    after_any IsOne history (one_argument arguments) _
    (λ w. after_any IsOne history (value_or_refusal (ok_or (at_comma w) _)) _
    (λ parts name named id known. run-leads IsOne history (changes.Format name id) (keeps _ (refl, (name-made name named, id-made id known)))))
command-leads IsOne home history commands.ListHistory arguments keeps writes =
    after_any IsOne history (no_argument arguments) _ (λ _ bytes known. inl refl)
command-leads IsOne home history commands.Keep arguments keeps writes =
    after_any IsOne history (one_argument arguments) _
    (λ w. after_any IsOne history (value_or_refusal (host_in w)) _ (λ name made known stored kept. inl refl))
command-leads IsOne home history commands.ListDirectory arguments keeps writes =
    after_any IsOne history (no_argument arguments) _
    (λ _. after_any IsOne history (refuse_by (directory_refusal (present_image history))) _ (λ _ bytes known. inl refl))
command-leads IsOne home history commands.Name arguments keeps writes =
    after_any IsOne history (one_argument arguments) _
    (λ w. name-leads IsOne history w (at_comma w) (λ name id named two. keeps _ (refl, (named, two))))
command-leads IsOne home history commands.Petcat arguments keeps writes =
    after_any IsOne history (one_argument arguments) _
    (λ w pattern known. after_any IsOne history (refuse_by (read_refusal (present_image history) pattern)) _ (λ _ listing given. inl refl))
command-leads IsOne home history commands.Quit arguments keeps writes = after_any IsOne history (no_argument arguments) _ (λ _. inl refl)
command-leads IsOne home history commands.Read arguments keeps writes =
    after_any IsOne history (argument_and at_most_one arguments) _ (λ w pattern known. read-leads IsOne history pattern w.1)
command-leads IsOne home history commands.Redo arguments keeps writes =
    after_any IsOne history (no_argument arguments) _ (λ _. redo-leads IsOne history (keeps _ tt))
command-leads IsOne home history commands.Rename arguments keeps writes =
    after_any IsOne history (argument_and one_argument arguments) _
    (λ w old named new renamed. run-leads IsOne history (changes.Rename old new) (keeps _ (refl, (name-made old named, name-made new renamed))))
command-leads IsOne home history commands.Save arguments keeps writes =
    after_any IsOne history (at_most_one arguments) _ (λ w. save-leads IsOne home history w)
command-leads IsOne home history commands.ShowText arguments keeps writes =
    after_any IsOne history (one_argument arguments) _
    (λ w pattern known. after_any IsOne history (refuse_by (read_refusal (present_image history) pattern)) _ (λ _ bytes given. inl refl))
command-leads IsOne home history commands.Undelete arguments keeps writes =
    after_any IsOne history (one_argument arguments) _
    (λ w. after_any IsOne history (value_or_refusal (name_and_kind_in w)) _
    (λ file name named. run-leads IsOne history (changes.Undelete name file.1) (keeps _ (refl, name-made name named))))
command-leads IsOne home history commands.Undo arguments keeps writes =
    after_any IsOne history (no_argument arguments) _ (λ _. undo-leads IsOne history (keeps _ tt))
command-leads IsOne home history commands.Validate arguments keeps writes =
    after_any IsOne history (no_argument arguments) _ (λ _. run-leads IsOne history changes.Validate (keeps _ (refl, tt)))
command-leads IsOne home history commands.Write arguments keeps writes =
    after_any IsOne history (argument_and at_most_one arguments) _
    (λ w. after_any IsOne history (value_or_refusal (host_in w.0)) _
    (λ source. after_any IsOne history (value_or_refusal (name_and_kind_of w.0 w.1)) _
    (λ file name named bytes fetched.
    run-leads IsOne history (changes.Write name file.1 bytes) (keeps _ (refl, (name-made name named, fetched))))))

-- and so does the command that a name finds, if it finds one
found-leads : (IsOne : Asked → Type 0) (home : Option (List ℕ)) (history : History) (found : Option LineCommand) (arguments : List (List ℕ))
    → ((request : Asked) → KeepsDisksSound request → IsOne request) → (found ≡ Some commands.BlockWrite → (request : Asked) → IsOne request)
    → Leads IsOne history (option_map_or (λ command. act_for home history command arguments) found (Refuse UnknownCommand))
found-leads IsOne home history None arguments keeps writes = tt
found-leads IsOne home history (Some command) arguments keeps writes =
    command-leads IsOne home history command arguments keeps (λ is. writes (ap Some is))

-- and so does each line
words-lead : (IsOne : Asked → Type 0) (home : Option (List ℕ)) (history : History) (words : List (List ℕ))
    → ((request : Asked) → KeepsDisksSound request → IsOne request)
    → ((more : List (List ℕ)) → words ≡ codes "bwrite" ∷ more → (request : Asked) → IsOne request)
    → Leads IsOne history (act_of_words home history words)
words-lead IsOne home history [] keeps writes = tt
words-lead IsOne home history (name ∷ arguments) keeps writes =
    found-leads IsOne home history (command_named name) arguments keeps
    (λ is. writes arguments (ap (λ (name : List ℕ). name ∷ arguments) (command_named-name name commands.BlockWrite is)))

-- a line that is too long, one that is skipped, or one that asks for an act
one_of : (IsOne : Asked → Type 0) (history : History) (long skipped : Bool) (act : Act Ending) → Leads IsOne history act
    → IfSome (if long then Some (Refuse LongLine) else (if skipped then None else Some act)) (Leads IsOne history)
one_of IsOne history true skipped act leads = tt
one_of IsOne history false true act leads = tt
one_of IsOne history false false act leads = leads

-- a request that a line may ask for: one that keeps disks sound, unless the line is a block write
abbrev AsksIn : List ℕ → Asked → Type 0
AsksIn line request = IsBlockWrite line ⊎ KeepsDisksSound request

line-leads : (options : RunOptions) (history : History) (line : List ℕ) → IfSome (act_of_line options.home history line) (Leads (AsksIn line) history)
unfolding act_of_line
line-leads options history line =
    one_of (AsksIn line) history (is_too_long line) (is_skipped (text_of line)) _
    (after_found (AsksIn line) history (words_of_line (text_of line)) _ _
    (λ words cut. words-lead (AsksIn line) options.home history words (λ request keeps. inr keeps)
    (λ more is request. inl (record { words = more; cut = cut ∙ ap Some is }))))

-- if a call can be refused, what follows it leads
given-leads : (IsOne : Asked → Type 0) (history : History) (call : Call) (next : List ℕ → Act Ending) (given : Result (List ℕ) Status) (host : HostState) (world : World) (response : LineResponse) (left : World)
    → world.history ≡ history → CallGives call world.host given host
    → ((bytes : List ℕ) → Known call bytes → Does (next bytes) (record { host = host; history = world.history }) response left → IsStepFrom IsOne history left.history)
    → MatchResult given
    (λ bytes. Does (next bytes) (record { host = host; history = world.history }) response left)
    (λ status. (response ≡ plain_response status) × (left ≡ record { host = host; history = world.history }))
    → IsStepFrom IsOne history left.history
given-leads IsOne history call next (Ok bytes) host world response left here gives each does = each bytes (given-known call world.host bytes host gives) does
given-leads IsOne history call next (Err status) host world response left here gives each does = inl (ap (λ (w : World). w.history) does.1 ∙ here)

-- what is done leads if the act leads
done-leads : (IsOne : Asked → Type 0) (history : History) (act : Act Ending) (world : World) (response : LineResponse) (left : World)
    → world.history ≡ history → Leads IsOne history act → Does act world response left → IsStepFrom IsOne history left.history
unfolding Does
done-leads IsOne history (Give ending) world response left here leads does =
    subst (IsStepFrom IsOne history) (sym (ap (λ (w : World). w.history) does.1)) leads
done-leads IsOne history (Refuse status) world response left here leads does = inl (ap (λ (w : World). w.history) does.1 ∙ here)
done-leads IsOne history (Then call next) world response left here leads (inl does) =
    let (given, host, gives, rest) = does in
    given-leads IsOne history call next given host world response left here gives
    (λ bytes known. done-leads IsOne history (next bytes) (record { host = host; history = world.history }) response left here (leads bytes known)) rest
done-leads IsOne history (Then call next) world response left here leads (inr does) = inl (ap (λ (w : World). w.history) does.1 ∙ here)

-- a line of an open run
asked-leads : (refusals : Refusals) (IsOne : Asked → Type 0) (history : History) (asked : Option (Act Ending)) (progress : RunProgress) (out : List ℕ) (left : RunProgress)
    → progress.world.history ≡ history → IfSome asked (Leads IsOne history)
    → MatchOption asked
    (IsSilent progress out left)
    (λ act. (response : LineResponse) × (world : World)
    × Does act progress.world response world × (out ≡ printed_bytes response) × (left ≡ counted_progress refusals progress response world))
    → IsStepFrom IsOne history left.world.history
asked-leads refusals IsOne history None progress out left here leads silent = inl (ap (λ (p : RunProgress). p.world.history) silent.1 ∙ here)
asked-leads refusals IsOne history (Some act) progress out left here leads done =
    let (response, world, does, prints, counts) = done in
    subst (IsStepFrom IsOne history) (sym (ap (λ (p : RunProgress). p.world.history) counts))
    (done-leads IsOne history act progress.world response world here leads does)

-- a line of a run
one_line : (options : RunOptions) (line : List ℕ) (closed : Bool) (progress : RunProgress) (out : List ℕ) (left : RunProgress)
    → MatchBool closed (IsSilent progress out left) (Line options line progress out left)
    → IsStepFrom (AsksIn line) progress.world.history left.world.history
unfolding Line
one_line options line true progress out left silent = inl (ap (λ (p : RunProgress). p.world.history) silent.1)
one_line options line false progress out left said =
    let history = progress.world.history in
    asked-leads options.refusals (AsksIn line) history (act_of_line options.home history line) progress out left refl (line-leads options history line) said

-- ---- the laws

-- one step more
step_more : (IsOne : Asked → Type 0) (count all : ℕ) (before between left : History) → all ≡ count + 1 → IsStepFrom IsOne before between
    → IsReachedIn count between left → IsReachedIn all before left
step_more IsOne count all before between left more (inl same) reached = record {
  requests = reached.requests;
  outcomes = reached.outcomes;
  few = let few = reached.few in omega arith;
  run = subst (λ (h : History). Run h reached.requests reached.outcomes left) same reached.run;
}
step_more IsOne count all before between left more (inr step) reached =
    let (request, outcome, is, one) = step in
    record {
      requests = request ∷ reached.requests;
      outcomes = outcome ∷ reached.outcomes;
      few = let few = reached.few in omega arith;
      run = (between, (one, reached.run));
    }

-- what the lines of a script leave of the history is what a run of requests leaves
pub scripts-are_runs : ScriptsAreRuns
unfolding Transcript
scripts-are_runs options [] progress out left silent = record {
  requests = [];
  outcomes = [];
  few = omega arith;
  run = ap (λ (p : RunProgress). p.world.history) silent.1;
}
scripts-are_runs options (line ∷ lines) progress out left reported =
    let (said, more, middle, split, one, others) = reported in
    step_more (AsksIn line) (length lines) (length (line ∷ lines)) progress.world.history middle.world.history left.world.history (omega arith)
    (one_line options line progress.closed progress said middle one)
    (scripts-are_runs options lines middle more left others)

-- a line that is no block write leaves sound disks
line-sound : (line : List ℕ) (before after : History) → ¬ (IsBlockWrite line) → IsStepFrom (AsksIn line) before after
    → HoldsSoundDisks before → HoldsSoundDisks after
line-sound line before after other (inl same) holds = subst HoldsSoundDisks (sym same) holds
line-sound line before after other (inr (request, outcome, inl is, step)) holds = absurd (other is)
line-sound line before after other (inr (request, outcome, inr keeps, step)) holds = step-sound before request outcome after step keeps holds

-- and so do lines without block writes
pub scripts-keep_disks_sound : ScriptsKeepDisksSound
unfolding Transcript
scripts-keep_disks_sound options [] progress out left silent none holds =
    subst (λ (p : RunProgress). HoldsSoundDisks p.world.history) (sym silent.1) holds
scripts-keep_disks_sound options (line ∷ lines) progress out left reported none holds =
    let (said, more, middle, split, one, others) = reported in
    scripts-keep_disks_sound options lines middle more left others (All-tail (λ l. ¬ (IsBlockWrite l)) line lines none)
    (line-sound line progress.world.history middle.world.history (All-head (λ l. ¬ (IsBlockWrite l)) line lines none)
    (one_line options line progress.closed progress said middle one) holds)
