-- The view of a host in memory, and why its calls fail.
use Rattle.std.specs.Prelude.{zero, suc, refl, ℕ, ◌-◌, ◌==◌, nat_lt, List, map, length, if◌then◌else◌, Option, Some, None, String, Vec, string_bytes}
use Rattle.std.specs.FinMap.{contains_key, get, from_entries, code}
use Rattle.std.specs.Coded.{Coded, code_by, coded×, coded_list, coded_ℕ}
use Rattle.host_storage.specs.Files.{Files}
use Rattle.host_storage.specs.Folders.{is_at}
use Rattle.host_storage.specs.Host.{one_more_failure}
use Rattle.host_storage.specs.declared.host.FolderFault.{FolderFault}
use Rattle.host_storage.specs.declared.host.FolderFault.TheVariants as making
use Rattle.host_storage.specs.declared.host.HostFault.{HostFault}
use Rattle.host_storage.specs.declared.host.HostFault.TheVariants.{Missing, Device, TooLong}

-- the view of a host in memory: its files, the number of the call from now on that will fail, where
-- 1 is the next and 0 is no call, and how many have failed
pub record MemoryFiles : Type 0 where
  pub files : Files
  pub countdown : ℕ
  pub failures : ℕ

-- stored as the triple of its fields
abbrev pub memory_files_code : Coded MemoryFiles
memory_files_code =
    code_by (Files × (ℕ × ℕ)) (coded× (code (coded_list coded_ℕ) (coded_list coded_ℕ)) (coded× coded_ℕ coded_ℕ))
    (λ host. (host.files, (host.countdown, host.failures)))
    (λ fields. record { files = fields.0; countdown = fields.1.0; failures = fields.1.1 })
    (λ host. refl)

-- the files of the entries of a map from texts to bytes
abbrev pub files_of_entries : {A B : Type 0} → List (String A × Vec ℕ B) → Files
files_of_entries entries = from_entries (map (λ entry. (string_bytes entry.0, entry.1.items)) entries)

-- the effect of a fetch or a store on a host beside the files: the countdown falls, and if it was 1
-- the call fails, and the count of failures rises, up to the greatest number of 64 bits
abbrev pub after_call : MemoryFiles → MemoryFiles
after_call host = record host {
  countdown = host.countdown - 1;
  failures = if host.countdown == 1 then one_more_failure host.failures else host.failures;
}

-- the countdown after some fetches and stores
abbrev pub countdown_after : ℕ → ℕ → ℕ
countdown_after zero countdown = countdown
countdown_after (suc calls) countdown = countdown_after calls (countdown - 1)

-- why the content of a name cannot be fetched: there is no file, or it is longer than the limit
abbrev pub refusal_of_fetch : Option (List ℕ) → ℕ → Option HostFault
refusal_of_fetch None limit = Some Missing
refusal_of_fetch (Some bytes) limit = if nat_lt limit (length bytes) then Some TooLong else None

-- why a fetch fails, unless memory is out: it is the call that was to fail, or else because of the
-- file itself
abbrev pub fetch_refusal : MemoryFiles → List ℕ → ℕ → Option HostFault
fetch_refusal host name limit = if host.countdown == 1 then Some Device else refusal_of_fetch (get host.files name) limit

-- why opening a name fails, unless memory is out: it is the call that was to fail, or there is no
-- file
abbrev pub open_refusal : MemoryFiles → List ℕ → Option HostFault
open_refusal host name =
    if host.countdown == 1 then Some Device else if contains_key host.files name then None else Some Missing

-- why a store fails, unless memory is out
abbrev pub store_refusal : MemoryFiles → Option HostFault
store_refusal host = if host.countdown == 1 then Some Device else None

-- why appending bytes to the file at a path fails, unless memory is out: it is the call that was to
-- fail, or there is no file
abbrev pub extending_refusal : MemoryFiles → List ℕ → Option FolderFault
extending_refusal host path =
    if host.countdown == 1 then Some making.Device else if contains_key host.files path then None else Some making.Device

-- why making something at a path fails, unless memory is out: it is the call that was to fail, or
-- something is there
abbrev pub making_refusal : MemoryFiles → List ℕ → Option FolderFault
making_refusal host path =
    if host.countdown == 1 then Some making.Device else if is_at host.files path then Some making.Exists else None
