-- Arguments in text form: the bytes that they stand for, and the effect of reading them.
use Rattle.std.proofs.Common.{◌≡◌, ℕ, ◌+◌, ◌<◌, ◌⊎◌, List, [], ◌∷◌, ◌++◌, length, map, take, drop, get_or, Bor, Bool, true, false, Ok, Err, inl, inr, refl, sym, ap, ◌∙◌, arith}
use Rattle.std.proofs.lemmas.List.{take_more, drop_more, take-append-drop, length-map, get_or-map}
use Rattle.std.proofs.lemmas.List.Elements.{AllZip-push}
use Rattle.std.specs.List.{AllZip}
use Rattle.petscii.specs.TextForm.{IsTextOf, HasOneReading}
use Rattle.petscii.specs.TextFault.{IsTextOutOfMemory, IsFirstTextFault, HasNoFaultIfRead}
use Rattle.petscii.specs.declared.fault.TextFault.{TextFault}
use Rattle.petscii.specs.declared.fault.TextFault.TheVariants.{UnknownName, OpenBrace, BadByte, Memory}
use Rattle.script_lines.specs.declared.status.Status.{Status}
use Rattle.script_lines.specs.declared.status.Status.TheVariants.{OutOfMemory}
use Rattle.script_lines.specs.Act.{Act, Give, Then, ◌>>=◌, Text, each_text, Does, Ending, IsSpelled, LineResponse, World, plain_response}
use Rattle.host_storage.specs.Files.{HostState}
use Rattle.d64_history.specs.History.{History}
use Rattle.script_lines.proofs.Acts.{Does-given, Does-grouped}
use Rattle.script_lines.specs.Arguments.{status_of_text}
use Rattle.script_lines.specs.ArgumentTexts.{Reads, ReadsEach}

-- an argument that has a fault stands for no bytes
first_fault : (argument : List ℕ) (fault : TextFault) → HasNoFaultIfRead argument → IsFirstTextFault argument fault
    → (bytes : List ℕ) → IsSpelled (λ b. true) argument bytes → ⊥
first_fault argument fault none first bytes spelled = none bytes fault spelled.0 first

-- a fault of the argument, as the result of reading it
pub Reads-fault : (argument : List ℕ) (fault : TextFault) → HasNoFaultIfRead argument → IsTextOutOfMemory fault ⊎ IsFirstTextFault argument fault
    → Reads (λ bytes. true) argument (Err (status_of_text fault))
Reads-fault argument (UnknownName place) none (inl memory) = absurd memory
Reads-fault argument (UnknownName place) none (inr first) = inl (refl, first_fault argument (UnknownName place) none first)
Reads-fault argument (OpenBrace place) none (inl memory) = absurd memory
Reads-fault argument (OpenBrace place) none (inr first) = inl (refl, first_fault argument (OpenBrace place) none first)
Reads-fault argument (BadByte place) none (inl memory) = absurd memory
Reads-fault argument (BadByte place) none (inr first) = inl (refl, first_fault argument (BadByte place) none first)
Reads-fault argument (Memory error) none fault = inr refl

-- the bytes that an argument stands for do not pass a test, so no bytes of it do
pub not_spelled : (test : List ℕ → Bool) (argument bytes : List ℕ) → HasOneReading argument → IsTextOf bytes argument → test bytes ≡ false
    → (others : List ℕ) → IsSpelled test argument others → ⊥
not_spelled test argument bytes one read fails others spelled =
    let same : others ≡ bytes = one others bytes spelled.0 read in
    let passes : test bytes ≡ true = ap test (sym same) ∙ spelled.1 in
    cc

-- an argument was read, and what its bytes ask for was done
pub Does-read : (test : List ℕ → Bool) (argument : List ℕ) (next : List ℕ → Act Ending) (bytes : List ℕ) (host : HostState) (history : History)
    (response : LineResponse) (after : World)
    → Reads test argument (Ok bytes) → Does (next bytes) (record { host = host; history = history }) response after
    → Does (Then (Text test argument) next) (record { host = host; history = history }) response after
Does-read test argument next bytes host history response after read done = Does-given (Text test argument) next bytes host host history response after (read, refl) done

-- an argument was not read
pub Does-unread : (test : List ℕ → Bool) (argument : List ℕ) (next : List ℕ → Act Ending) (status : Status) (host : HostState) (history : History)
    → Reads test argument (Err status)
    → Does (Then (Text test argument) next) (record { host = host; history = history }) (plain_response status) (record { host = host; history = history })
unfolding Does
Does-unread test argument next status host history (inl bad) = inl (Err status, host, (bad.0, bad.1, refl), (refl, refl))
Does-unread test argument next status host history (inr memory) = inr (ap plain_response memory, refl)

-- one more argument was read
pub ReadsEach-more : (test : List ℕ → Bool) (arguments : List (Bor (List ℕ))) (place : ℕ) (argument : Bor (List ℕ)) (texts : List (List ℕ)) (bytes : List ℕ)
    → place < length arguments → AllZip (IsSpelled test) (take place (map (λ argument. argument.now) arguments)) texts → IsSpelled test (get_or arguments place argument).now bytes
    → AllZip (IsSpelled test) (take (place + 1) (map (λ argument. argument.now) arguments)) (texts ++ bytes ∷ [])
ReadsEach-more test arguments place argument texts bytes inside read next =
    let lists = map (λ (argument : Bor (List ℕ)). argument.now) arguments in
    let at : get_or lists place argument.now ≡ (get_or arguments place argument).now = get_or-map (λ (argument : Bor (List ℕ)). argument.now) arguments place argument argument.now inside in
    let more : take (place + 1) lists ≡ take place lists ++ get_or lists place argument.now ∷ [] = take_more lists place argument.now (omega (arith, length-map arguments (λ (argument : Bor (List ℕ)). argument.now))) in
    rw (more, at) (AllZip-push (IsSpelled test) (take place lists) texts _ bytes read next)

-- an argument was not read
pub ReadsEach-stopped : (test : List ℕ → Bool) (arguments : List (Bor (List ℕ))) (place : ℕ) (argument : Bor (List ℕ)) (texts : List (List ℕ)) (status : Status)
    → place < length arguments → AllZip (IsSpelled test) (take place (map (λ argument. argument.now) arguments)) texts → Reads test (get_or arguments place argument).now (Err status)
    → ReadsEach test (map (λ argument. argument.now) arguments) (Err status)
ReadsEach-stopped test arguments place argument texts status inside read stopped =
    let lists = map (λ (argument : Bor (List ℕ)). argument.now) arguments in
    let at : get_or lists place argument.now ≡ (get_or arguments place argument).now = get_or-map (λ (argument : Bor (List ℕ)). argument.now) arguments place argument argument.now inside in
    let whole : lists ≡ take place lists ++ get_or lists place argument.now ∷ drop (place + 1) lists =
    sym (take-append-drop place lists) ∙ ap (λ rest. take place lists ++ rest) (drop_more lists place argument.now (omega (arith, length-map arguments (λ (argument : Bor (List ℕ)). argument.now)))) in
    (take place lists, texts, (get_or arguments place argument).now, drop (place + 1) lists, rw at at whole, read, stopped)

-- memory was out after an argument was read
pub ReadsEach-no_room : (test : List ℕ → Bool) (arguments : List (Bor (List ℕ))) (place : ℕ) (argument : Bor (List ℕ)) (texts : List (List ℕ)) (bytes : List ℕ)
    → place < length arguments → AllZip (IsSpelled test) (take place (map (λ argument. argument.now) arguments)) texts → IsSpelled test (get_or arguments place argument).now bytes
    → ReadsEach test (map (λ argument. argument.now) arguments) (Err OutOfMemory)
ReadsEach-no_room test arguments place argument texts bytes inside read next = ReadsEach-stopped test arguments place argument texts OutOfMemory inside read (inr refl)

-- arguments were read from left to right, and what their bytes ask for was done
pub Does-read_each : (test : List ℕ → Bool) (arguments texts : List (List ℕ)) (next : List (List ℕ) → Act Ending) (host : HostState) (history : History)
    (response : LineResponse) (after : World)
    → AllZip (IsSpelled test) arguments texts → Does (next texts) (record { host = host; history = history }) response after
    → Does (each_text test arguments >>= next) (record { host = host; history = history }) response after
Does-read_each test [] [] next host history response after read done = done
Does-read_each test [] (bytes ∷ texts) next host history response after read done = absurd read
Does-read_each test (argument ∷ arguments) [] next host history response after read done = absurd read
Does-read_each test (argument ∷ arguments) (bytes ∷ texts) next host history response after read done =
    Does-read test argument _ bytes host history response after read.0
    (Does-grouped (each_text test arguments) (λ more. Give (bytes ∷ more)) next _ response after
    (Does-read_each test arguments texts (λ more. next (bytes ∷ more)) host history response after read.1 done))

-- arguments were read from left to right up to one that was not
pub Does-unread_after : (test : List ℕ → Bool) (before texts : List (List ℕ)) (argument : List ℕ) (more : List (List ℕ)) (next : List (List ℕ) → Act Ending)
    (status : Status) (host : HostState) (history : History)
    → AllZip (IsSpelled test) before texts → Reads test argument (Err status)
    → Does (each_text test (before ++ argument ∷ more) >>= next) (record { host = host; history = history }) (plain_response status) (record { host = host; history = history })
Does-unread_after test [] [] argument more next status host history read bad = Does-unread test argument _ status host history bad
Does-unread_after test [] (bytes ∷ texts) argument more next status host history read bad = absurd read
Does-unread_after test (first ∷ before) [] argument more next status host history read bad = absurd read
Does-unread_after test (first ∷ before) (bytes ∷ texts) argument more next status host history read bad =
    Does-read test first _ bytes host history _ _ read.0
    (Does-grouped (each_text test (before ++ argument ∷ more)) (λ rest. Give (bytes ∷ rest)) next _ _ _
    (Does-unread_after test before texts argument more (λ rest. next (bytes ∷ rest)) status host history read.1 bad))

-- one of the arguments was not read
pub Does-unread_each : (test : List ℕ → Bool) (arguments : List (List ℕ)) (next : List (List ℕ) → Act Ending) (status : Status) (host : HostState) (history : History)
    → ReadsEach test arguments (Err status)
    → Does (each_text test arguments >>= next) (record { host = host; history = history }) (plain_response status) (record { host = host; history = history })
Does-unread_each test arguments next status host history (before, texts, argument, more, is, read, bad) =
    rw is (Does-unread_after test before texts argument more next status host history read bad)
