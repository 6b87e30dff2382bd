-- What BASIC texts and programs give to an act.
use Rattle.std.proofs.Common.{ℕ, ◌⊎◌, List, inl, inr, refl}
use Rattle.cbm_text.specs.BasicText.{IsFirstBasicFault, IsBasicOutOfMemory}
use Rattle.cbm_text.specs.declared.fault.BasicFault.{BasicFault}
use Rattle.cbm_text.specs.declared.fault.BasicFault.TheVariants.{NoNumber, NumberTooLarge, Text, TokenByte, ZeroByte, TooLong, Memory}
use Rattle.d64_history.specs.History.{History}
use Rattle.script_lines.specs.Act.{Act, Then, Crunch, Does, Ending, plain_response}
use Rattle.host_storage.specs.Files.{HostState}
use Rattle.script_lines.specs.BasicFiles.{program_start, status_of_basic}
use Rattle.script_lines.proofs.Acts.{Does-refused, Does-no_memory}

-- a text was refused for its first fault
refused : (text : List ℕ) (next : List ℕ → Act Ending) (fault : BasicFault) (host : HostState) (history : History)
    → IsFirstBasicFault program_start text fault
    → Does (Then (Crunch text) next) (record { host = host; history = history }) (plain_response (status_of_basic fault)) (record { host = host; history = history })
refused text next fault host history first = Does-refused (Crunch text) next (status_of_basic fault) host host history ((fault, first, refl), refl)

-- a text was refused for its first fault, or since memory is out
pub Does-uncrunched : (text : List ℕ) (next : List ℕ → Act Ending) (fault : BasicFault) (host : HostState) (history : History)
    → IsBasicOutOfMemory fault ⊎ IsFirstBasicFault program_start text fault
    → Does (Then (Crunch text) next) (record { host = host; history = history }) (plain_response (status_of_basic fault)) (record { host = host; history = history })
Does-uncrunched text next fault host history (inr first) = refused text next fault host history first
Does-uncrunched text next (NoNumber line) host history (inl memory) = absurd memory
Does-uncrunched text next (NumberTooLarge line) host history (inl memory) = absurd memory
Does-uncrunched text next (Text line fault) host history (inl memory) = absurd memory
Does-uncrunched text next (TokenByte line) host history (inl memory) = absurd memory
Does-uncrunched text next (ZeroByte line) host history (inl memory) = absurd memory
Does-uncrunched text next (TooLong line) host history (inl memory) = absurd memory
Does-uncrunched text next (Memory error) host history (inl memory) = Does-no_memory (Crunch text) next _
