-- Acts, done step by step.
use Rattle.std.proofs.Common.{◌≡◌, ℕ, List, Option, Some, None, Ok, Err, inl, inr, refl, subst}
use Rattle.d64_dos.specs.Refusal.{cause_of}
use Rattle.d64_dos.specs.declared.refusal.Refusal.{Refusal}
use Rattle.d64_dos.specs.declared.refusal.Refusal.TheVariants.{NotClosed, NotFound, Exists, WrongType, Directory, Lost, DiskFull, Memory}
use Rattle.script_lines.specs.declared.status.Status.{Status}
use Rattle.script_lines.specs.declared.status.Status.TheVariants.{OutOfMemory}
use Rattle.script_lines.specs.Act.{Act, Give, Refuse, Then, ◌>>=◌, Call, CallGives, Does, Ending, LineResponse, World, plain_response}
use Rattle.host_storage.specs.Files.{HostState}
use Rattle.d64_history.specs.History.{History}
use Rattle.script_lines.specs.Line.{refuse_by, status_of_refusal}

-- a call gave bytes, and what follows them was done
pub Does-given : (call : Call) (next : List ℕ → Act Ending) (bytes : List ℕ) (old new : HostState) (history : History) (response : LineResponse) (after : World)
    → CallGives call old (Ok bytes) new → Does (next bytes) (record { host = new; history = history }) response after
    → Does (Then call next) (record { host = old; history = history }) response after
unfolding Does
Does-given call next bytes old new history response after gives done = inl (Ok bytes, new, gives, done)

-- a call was refused
pub Does-refused : (call : Call) (next : List ℕ → Act Ending) (status : Status) (old new : HostState) (history : History)
    → CallGives call old (Err status) new
    → Does (Then call next) (record { host = old; history = history }) (plain_response status) (record { host = new; history = history })
unfolding Does
Does-refused call next status old new history gives = inl (Err status, new, gives, (refl, refl))

-- the steps of an act are done however they are grouped
pub Does-grouped : {A B : Type 0} (act : Act A) (next : A → Act B) (last : B → Act Ending) (world : World) (response : LineResponse) (after : World)
    → Does (act >>= (λ value. next value >>= last)) world response after → Does (act >>= next >>= last) world response after
unfolding Does
Does-grouped (Give value) next last world response after done = done
Does-grouped (Refuse status) next last world response after done = done
Does-grouped (Then call more) next last world response after (inl (Ok bytes, host, gives, done)) =
    inl (Ok bytes, host, gives, Does-grouped (more bytes) next last _ response after done)
Does-grouped (Then call more) next last world response after (inl (Err status, host, gives, done)) = inl (Err status, host, gives, done)
Does-grouped (Then call more) next last world response after (inr memory) = inr memory

-- an act is refused
pub Does-refuse : (status : Status) (world : World) → Does (Refuse status) world (plain_response status) world
unfolding Does
Does-refuse status world = (refl, refl)

-- before a call memory may be out
pub Does-no_memory : (call : Call) (next : List ℕ → Act Ending) (world : World) → Does (Then call next) world (plain_response OutOfMemory) world
unfolding Does
Does-no_memory call next world = inr (refl, refl)

-- an act is refused by its cause
by_cause : (refusal : Refusal) (cause : Option Refusal) (act : Act Ending) (world : World) → Some refusal ≡ cause
    → Does (refuse_by cause >>= (λ _. act)) world (plain_response (status_of_refusal refusal)) world
unfolding Does
by_cause refusal cause act world is =
    subst (λ (c : Option Refusal). Does (refuse_by c >>= (λ _. act)) world (plain_response (status_of_refusal refusal)) world) is (refl, refl)

-- if nothing refuses an act, it is done
pub Does-refuse_by : (cause : Option Refusal) (act : Act Ending) (world : World) (response : LineResponse) (after : World)
    → None ≡ cause → Does act world response after → Does (refuse_by cause >>= (λ _. act)) world response after
Does-refuse_by cause act world response after none done = subst (λ (c : Option Refusal). Does (refuse_by c >>= (λ _. act)) world response after) none done

-- an act that begins with a call is refused by its cause, or since memory is out
pub Does-not_allowed : (refusal : Refusal) (cause : Option Refusal) (call : Call) (next : List ℕ → Act Ending) (world : World) → cause_of refusal ≡ cause
    → Does (refuse_by cause >>= (λ _. Then call next)) world (plain_response (status_of_refusal refusal)) world
Does-not_allowed NotClosed cause call next world is = by_cause NotClosed cause (Then call next) world is
Does-not_allowed NotFound cause call next world is = by_cause NotFound cause (Then call next) world is
Does-not_allowed Exists cause call next world is = by_cause Exists cause (Then call next) world is
Does-not_allowed WrongType cause call next world is = by_cause WrongType cause (Then call next) world is
Does-not_allowed (Directory fault) cause call next world is = by_cause (Directory fault) cause (Then call next) world is
Does-not_allowed Lost cause call next world is = by_cause Lost cause (Then call next) world is
Does-not_allowed DiskFull cause call next world is = by_cause DiskFull cause (Then call next) world is
Does-not_allowed Memory cause call next world is = Does-refuse_by cause (Then call next) world (plain_response OutOfMemory) world is (Does-no_memory call next world)
