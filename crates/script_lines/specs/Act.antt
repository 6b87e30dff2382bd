-- What a line asks for, as an act of one step after another, and how an act is done.
use Rattle.std.specs.Prelude.{◌≡◌, ℕ, List, [], ◌∷◌, ◌++◌, Bool, true, false, if◌then◌else◌, Result, MatchResult, Ok, Err, IfOk, ◌⊎◌}
use Rattle.d64_image.specs.Disk.{Bytes, AreBytes}
use Rattle.petscii.specs.TextForm.{IsTextOf}
use Rattle.host_storage.specs.Files.{HostState}
use Rattle.host_storage.specs.Host.{Fetches, Stores, CountsDevice}
use Rattle.d64_history.specs.History.{History}
use Rattle.host_storage.specs.declared.host.HostFault.{HostFault}
use Rattle.host_storage.specs.declared.host.HostFault.TheVariants.{Memory}
use Rattle.script_lines.specs.BasicFiles.{Crunches, Expands}
use Rattle.script_lines.specs.Status.{status_line}
use Rattle.script_lines.specs.declared.status.Status.{Status}
use Rattle.script_lines.specs.declared.status.Status.TheVariants.{BadName, HostFile, OutOfMemory}

-- the response to a line: output, status, and whether it ends the run
pub record LineResponse : Type 0 where
  pub output : Bytes
  pub status : Status
  pub closes : Bool

-- a status with no output
abbrev pub plain_response : Status → LineResponse
plain_response status = record { output = []; status = status; closes = false }

-- a response's output, then its status line
abbrev pub printed_bytes : LineResponse → Bytes
printed_bytes response = response.output ++ status_line response.status

-- what the script works on: host and history
pub record World : Type 0 where
  pub host : HostState
  pub history : History

abbrev pub world_of : HostState → History → World
world_of host history = record { host = host; history = history }

-- a call, which gives bytes or fails, whatever the session is
pub data Call : Type 0 where
  -- the bytes of an argument in text form, if they pass a test
  Text : (Bytes → Bool) → Bytes → Call
  -- a host file of at most n bytes
  Fetch : Bytes → ℕ → Call
  -- bytes stored under a name of the host; it gives no bytes
  Store : Bytes → Bytes → Call
  -- the program file of a BASIC text
  Crunch : Bytes → Call
  -- the text of a program file
  Expand : Bytes → Call
  -- room for what comes next; it gives no bytes
  Room : Call

-- an act gives a value, is refused with a status, or makes a call and goes on with what that gives
pub data Act (A : Type 0) : Type 0 where
  Give : A → Act A
  Refuse : Status → Act A
  Then : Call → (Bytes → Act A) → Act A

-- one act, and then the act for its value
infixl 10 ◌>>=◌
abbrev pub ◌>>=◌ : {A B : Type 0} → Act A → (A → Act B) → Act B
Give value >>= next = next value
Refuse status >>= next = Refuse status
Then call more >>= next = Then call (λ bytes. more bytes >>= next)

-- one act, and then another
infixl 10 ◌>>◌
abbrev pub ◌>>◌ : {A B : Type 0} → Act A → Act B → Act B
act >> next = act >>= (λ _. next)

-- the value that was read, or the refusal of its fault
abbrev pub value_or_refusal : {A : Type 0} → Result A Status → Act A
value_or_refusal (Ok value) = Give value
value_or_refusal (Err status) = Refuse status

-- refused unless a test passes
abbrev pub need : Bool → Status → Act (Unit {0})
need test status = if test then Give tt else Refuse status

-- a call alone, and what it gives
abbrev pub ask : Call → Act Bytes
ask what = Then what Give

-- the bytes of arguments in text form, from left to right
abbrev pub each_text : (Bytes → Bool) → List Bytes → Act (List Bytes)
each_text test [] = Give []
each_text test (argument ∷ arguments) = do
  bytes ← ask (Text test argument)
  more ← each_text test arguments
  Give (bytes ∷ more)

-- the response to an accepted line, and the history after it
pub record Ending : Type 0 where
  pub response : LineResponse
  pub history : History

-- an argument is the text form of bytes that pass a test
abbrev pub IsSpelled : (Bytes → Bool) → Bytes → Bytes → Type 0
IsSpelled test argument bytes = IsTextOf bytes argument × (test bytes ≡ true)

-- what a host can return for a fetch, always bytes, and what it exposes then
pub record FetchesFile (old : HostState) (name : Bytes) (limit : ℕ) (fetched : Result Bytes HostFault) (new : HostState) : Type 0 where
  pub response : Fetches old.files name limit fetched
  pub bytes : IfOk fetched AreBytes
  pub counted : CountsDevice old.failures new.failures fetched
  pub kept : new.files ≡ old.files

-- the same for a store
pub record StoresFile (old : HostState) (name bytes : Bytes) (stored : Result (Unit {0}) HostFault) (new : HostState) : Type 0 where
  pub response : Stores old.files name bytes stored new.files
  pub counted : CountsDevice old.failures new.failures stored

-- the status of a fault of the host
abbrev pub status_of_fault : HostFault → Status
status_of_fault (Memory error) = OutOfMemory
status_of_fault fault = HostFile fault

-- what the host gave, or its fault's status
abbrev pub bytes_given : {A : Type 0} → (A → Bytes) → Result A HostFault → Result Bytes Status
bytes_given bytes (Ok value) = Ok (bytes value)
bytes_given bytes (Err fault) = Err (status_of_fault fault)

-- what a call can give, and what the host exposes then
abbrev pub CallGives : Call → HostState → Result Bytes Status → HostState → Type 0
CallGives (Text test argument) old (Ok bytes) new = IsSpelled test argument bytes × (new ≡ old)
CallGives (Text test argument) old (Err status) new = (status ≡ BadName) × ((bytes : Bytes) → IsSpelled test argument bytes → ⊥) × (new ≡ old)
CallGives (Fetch name limit) old given new =
    (fetched : Result Bytes HostFault) × FetchesFile old name limit fetched new × (given ≡ bytes_given (λ bytes. bytes) fetched)
CallGives (Store name bytes) old given new =
    (stored : Result (Unit {0}) HostFault) × StoresFile old name bytes stored new × (given ≡ bytes_given (λ _. []) stored)
CallGives (Crunch text) old given new = Crunches text given × (new ≡ old)
CallGives (Expand file) old given new = Expands file given × (new ≡ old)
CallGives Room old given new = (given ≡ Ok []) × (new ≡ old)

-- an act of a line from one world to another, with a response; before each call memory may be out
unfoldable pub Does : Act Ending → World → LineResponse → World → Type 0
Does (Give ending) world response after = (response ≡ ending.response) × (after ≡ record world { history = ending.history })
Does (Refuse status) world response after = (response ≡ plain_response status) × (after ≡ world)
Does (Then call next) world response after =
    ((given : Result Bytes Status) × (host : HostState) × CallGives call world.host given host
    × MatchResult given
    (λ bytes. Does (next bytes) (record world { host = host }) response after)
    (λ status. (response ≡ plain_response status) × (after ≡ record world { host = host })))
    ⊎ ((response ≡ plain_response OutOfMemory) × (after ≡ world))
