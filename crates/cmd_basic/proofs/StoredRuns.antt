-- Runs of tools that store their results, by what their steps leave.
use Rattle.std.proofs.Common.{◌≡◌, ℕ, List, [], ◌++◌, length, take, Option, Some, None, Result, Ok, Err, inl, inr, refl, sym, ap, ◌∙◌, ◌-◌, nat_le, cond, false, codes, append_assoc}
use Rattle.std.specs.List.{flat_map}
use Rattle.cbm_text.specs.declared.faulty_text.FaultyLine.{FaultyLine}
use Rattle.host_storage.specs.Input.{IsUnreadable, Reading}
use Rattle.host_storage.specs.Output.{Account}
use Rattle.host_storage.specs.Files.{HostState}
use Rattle.host_storage.specs.declared.host.HostFault.{HostFault}
use Rattle.host_storage.specs.declared.host.HostFault.TheVariants as files
use Rattle.program_console.specs.Outside.{Outside, outside_of}
use Rattle.out_messages.specs.Words.{counted_text}
use Rattle.cmd_basic.specs.RefusedText.{faulty_line, more_lines, most_refused_lines, refused_text}
use Rattle.cmd_basic.specs.ToolRuns.{EndedToolTo, RanToolOn, ReportsStored, TakesInput}
use Rattle.cmd_basic.specs.Tools.{HasStored, Refuses, outcome_of_store, fault_of_store}
use Rattle.cmd_basic.specs.declared.tools.Tool.{Tool}
use Rattle.cmd_basic.specs.declared.tools.Tool.TheVariants.{Petcat, Crunch}
use Rattle.cmd_basic.specs.declared.tools.ToolFault.{ToolFault}
use Rattle.cmd_basic.specs.declared.tools.ToolFault.TheVariants.{Read, Write, Memory, Text, NotBasic}

-- what a tool has done on the input or a file it has done whatever is reported of it
pub ran_reported : {A : Type 0} (tool : Tool) (name : Option (List ℕ)) (old : Outside) (reader : Option (List ℕ)) (reading : Reading) (output before after : Account) (host : HostState) (outcome : Result A ToolFault)
    → RanToolOn tool name old (outside_of reader reading output before host) outcome → RanToolOn tool name old (outside_of reader reading output after host) outcome
ran_reported tool None old reader reading output before after host outcome ran = ran
ran_reported tool (Some name) old reader reading output before after host outcome ran = ran

-- a tool has not had its input, and stored nothing
pub ended_without_input : (tool : Tool) (name : Option (List ℕ)) (target : List ℕ) (old new : Outside) (status : ℕ) (fault : ToolFault)
    → TakesInput name old.reader new.reader old.host new.host (Err fault) → new.output ≡ old.output → (name ≡ None → fault ≡ Read → IsUnreadable new.reading)
    → ReportsStored {A = Unit {0}} tool name [] target new.host.files (Err fault) old.error new.error status → EndedToolTo tool name target old new status
ended_without_input tool name target old new status fault takes output due reports = (
  Err fault,
  Err fault,
  record { host = new.host; takes = takes; stores = (refl, refl); output = output },
  (λ none unread. due none (same_fault (Err fault) fault Read refl unread)),
  reports,
)
  where
    same_fault : (outcome : Result (Unit {0}) ToolFault) (a b : ToolFault) → outcome ≡ Err a → outcome ≡ Err b → a ≡ b
    same_fault outcome a b is other = cc

-- it has had its input, and stored what it made of it, or not
pub ended_with_input : (tool : Tool) (name : Option (List ℕ)) (target : List ℕ) (old new : Outside) (host : HostState) (status : ℕ) (bytes : List ℕ) (outcome : Result (Unit {0}) ToolFault)
    → TakesInput name old.reader new.reader old.host host (Ok bytes) → HasStored tool bytes target host new.host outcome → (outcome ≡ Err Read → ⊥)
    → new.output ≡ old.output → ReportsStored tool name bytes target new.host.files outcome old.error new.error status
    → EndedToolTo tool name target old new status
ended_with_input tool name target old new host status bytes outcome takes stored unread output reports = (
  Ok bytes,
  outcome,
  record { host = host; takes = takes; stores = stored; output = output },
  (λ none is. absurd (unread is)),
  reports,
)

-- no tool refuses its input by a fault of reading
pub refuses_not_read : (tool : Tool) (input : List ℕ) (fault : ToolFault) → Refuses tool input fault → fault ≡ Read → ⊥
refuses_not_read Petcat input Read refuses is = refuses
refuses_not_read (Crunch start) input Read refuses is = refuses
refuses_not_read tool input Write refuses is = cc
refuses_not_read tool input (Memory error) refuses is = cc
refuses_not_read tool input (NotBasic fault) refuses is = cc
refuses_not_read tool input (Text fault) refuses is = cc

-- and no store is refused by one
pub store_not_read : (fault : HostFault) → fault_of_store fault ≡ Read → ⊥
store_not_read (files.Memory error) is = cc
store_not_read files.Missing is = cc
store_not_read files.Device is = cc
store_not_read files.TooLong is = cc

-- nor does a run that had its input
pub stored_not_read : (tool : Tool) (input target : List ℕ) (old new : HostState) (outcome : Result (Unit {0}) ToolFault) → HasStored tool input target old new outcome → outcome ≡ Err Read → ⊥
stored_not_read tool input target old new outcome (inl (output, makes, stored, stores, is)) read = not_read stored (sym is ∙ read)
  where
    not_read : (stored : Result (Unit {0}) HostFault) → outcome_of_store stored ≡ Err Read → ⊥
    not_read (Ok done) is = cc
    not_read (Err fault) is = store_not_read fault cc
stored_not_read tool input target old new outcome (inr (fault, refuses, is, kept)) read = refuses_not_read tool input fault refuses cc

-- what is printed of faulty lines, part by part
pub refused_parts : (name : Option (List ℕ)) (all kept : List FaultyLine) (count : ℕ) (none lines out : List ℕ) → none ≡ [] → lines ≡ none ++ flat_map (faulty_line name) kept
    → out ≡ lines ++ more_lines count → kept ≡ take most_refused_lines all → count ≡ length all → out ≡ refused_text name all
unfolding refused_text
refused_parts name all kept count none lines out empty added more first counted =
    more
    ∙ ap (λ (l : List ℕ). l ++ more_lines count) (added ∙ ap (λ (o : List ℕ). o ++ flat_map (faulty_line name) kept) empty ∙ ap (λ (ls : List FaultyLine). flat_map (faulty_line name) ls) first)
    ∙ ap (λ (n : ℕ). flat_map (faulty_line name) (take most_refused_lines all) ++ more_lines n) counted

-- how many are not printed, part by part
pub more_parts : (count : ℕ) (old first second out : List ℕ) → nat_le count most_refused_lines ≡ false → first ≡ old ++ codes "    and "
    → second ≡ first ++ counted_text (count - most_refused_lines) (codes "more faulty line") → out ≡ second ++ codes "\n" → out ≡ old ++ more_lines count
unfolding more_lines
more_parts count old first second out many begun counted ended =
    let number = counted_text (count - most_refused_lines) (codes "more faulty line") in
    ended ∙ ap (λ (o : List ℕ). o ++ codes "\n") (counted ∙ ap (λ (o : List ℕ). o ++ number) begun)
    ∙ append_assoc (old ++ codes "    and ") number (codes "\n")
    ∙ append_assoc old (codes "    and ") (number ++ codes "\n")
    ∙ ap (λ t. old ++ cond t [] (codes "    and " ++ (number ++ codes "\n"))) (sym many)
