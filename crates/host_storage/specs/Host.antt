-- What a host can return for a fetch and a store, and how it counts its failures.
use Rattle.std.specs.Prelude.{◌≡◌, ◌≢◌, ℕ, ◌+◌, ◌-◌, min, ◌^◌, ◌<◌, ◌≤◌, ⊤, List, length, Option, Some, None, option_map, IsSomeAnd, Result, Ok, Err, Vec}
use Rattle.std.specs.FinMap.{get, insert}
use Rattle.host_storage.specs.Files.{Files}
use Rattle.host_storage.specs.declared.host.HostFault.{HostFault}
use Rattle.host_storage.specs.declared.host.HostFault.TheVariants.{Missing, Device, TooLong, Memory}

-- a fault's number in status lines
abbrev pub fault_number : HostFault → ℕ
fault_number Missing = 1
fault_number Device = 2
fault_number TooLong = 3
fault_number (Memory error) = 4

-- the result of a fetch, with the bytes as a list
abbrev pub fetched_bytes : {A : Type 0} → Result (Vec ℕ A) HostFault → Result (List ℕ) HostFault
fetched_bytes (Ok bytes) = Ok bytes.items
fetched_bytes (Err fault) = Err fault

-- the result of a fetch that fills a buffer, which then has the bytes
abbrev pub filled_bytes : {A B : Type 0} → Result B HostFault → Vec ℕ A → Result (List ℕ) HostFault
filled_bytes (Ok done) bytes = Ok bytes.items
filled_bytes (Err fault) bytes = Err fault

-- what a fetch of a name can return if these are the files: the file, of at most `limit` bytes;
-- that it is missing, or longer; and in any case the device's fault or out of memory
abbrev pub FetchesOf : Files → List ℕ → ℕ → Result (List ℕ) HostFault → Type 0
FetchesOf files name limit (Ok bytes) = (get files name ≡ Some bytes) × (length bytes ≤ limit)
FetchesOf files name limit (Err Missing) = get files name ≡ None
FetchesOf files name limit (Err TooLong) = IsSomeAnd (get files name) (λ bytes. limit < length bytes)
FetchesOf files name limit (Err Device) = ⊤
FetchesOf files name limit (Err (Memory error)) = ⊤

-- what a fetch can return; if no files are exposed, success still has at most `limit` bytes
abbrev pub Fetches : Option Files → List ℕ → ℕ → Result (List ℕ) HostFault → Type 0
Fetches (Some files) name limit returned = FetchesOf files name limit returned
Fetches None name limit (Ok bytes) = length bytes ≤ limit
Fetches None name limit (Err fault) = ⊤

-- the result of an opening, with the bytes that the file has left, as far as it exposes them
abbrev pub opened_bytes : {F : Type 0} → (F → Option (List ℕ)) → Result F HostFault → Result (Option (List ℕ)) HostFault
opened_bytes remaining (Ok file) = Ok (remaining file)
opened_bytes remaining (Err fault) = Err fault

-- what an opening of a name can return if these are the files: all bytes of the file, which it
-- exposes; that it is not there; and in place of either the device's fault or that memory is out
abbrev pub OpensOf : Files → List ℕ → Result (Option (List ℕ)) HostFault → Type 0
OpensOf files name (Ok rest) = IsSomeAnd rest (λ bytes. get files name ≡ Some bytes)
OpensOf files name (Err Missing) = get files name ≡ None
OpensOf files name (Err TooLong) = ⊥
OpensOf files name (Err Device) = ⊤
OpensOf files name (Err (Memory error)) = ⊤

-- what an opening can return: no file is too long for it
abbrev pub Opens : Option Files → List ℕ → Result (Option (List ℕ)) HostFault → Type 0
Opens (Some files) name returned = OpensOf files name returned
Opens None name returned = returned ≢ Err TooLong

-- whether a fault can come whatever the files are
abbrev pub IsOfDeviceOrMemory : HostFault → Type 0
IsOfDeviceOrMemory Device = ⊤
IsOfDeviceOrMemory (Memory error) = ⊤
IsOfDeviceOrMemory Missing = ⊥
IsOfDeviceOrMemory TooLong = ⊥

-- what a store can return, and the files after it, if exposed: after success only the named file
-- has new bytes; after a fault, which is the device's or out of memory, no file has changed
abbrev pub Stores : {A : Type 0} → Option Files → List ℕ → List ℕ → Result A HostFault → Option Files → Type 0
Stores files name bytes (Ok done) after = after ≡ option_map (λ all. insert all name bytes) files
Stores files name bytes (Err fault) after = (after ≡ files) × IsOfDeviceOrMemory fault

-- a count of failures with one more, up to the greatest of 64 bits
abbrev pub one_more_failure : ℕ → ℕ
one_more_failure count = min (count + 1) (2 ^ 64 - 1)

-- the count after a call: only the device's fault adds one
abbrev pub failures_after : {A : Type 0} → ℕ → Result A HostFault → ℕ
failures_after count (Err Device) = one_more_failure count
failures_after count returned = count

-- the count rises by one exactly for the device's fault, up to its greatest value
abbrev pub CountsDevice : {A : Type 0} → ℕ → ℕ → Result A HostFault → Type 0
CountsDevice before after returned = after ≡ failures_after before returned

-- the fault that a call returned, unless memory was out
abbrev pub host_fault_of : {A : Type 0} → Result A HostFault → Option HostFault
host_fault_of (Ok value) = None
host_fault_of (Err Missing) = Some Missing
host_fault_of (Err Device) = Some Device
host_fault_of (Err TooLong) = Some TooLong
host_fault_of (Err (Memory error)) = None
