use Rattle.std.proofs.Common.{◌≡◌, rules, ℕ, List, true, false, Some, None, Err, ap, subst, Bor}
use Rattle.std.specs.Prelude.{option_map}
use Rattle.std.specs.Str.{is_utf8}
use Rattle.std.proofs.lemmas.Bool.{false_from_ne_true}
use Rattle.std.proofs.lemmas.Str.{is_utf8-from_IsUtf8, IsUtf8-from_is_utf8}
use Rattle.d64_survey.specs.Dump.{wrong_dump_length}
use Rattle.d64_survey.specs.declared.dump.DumpFault.{DumpFault}
use Rattle.d64_g64.proofs.Dumps.{no_part}
use Rattle.cmd_extract.specs.Work.{Work, EndsWork}
use Rattle.cmd_extract.specs.Unpacking.{unread_outcome, wrong_length_outcome as reported_length, task_work, task_of}
use Rattle.cmd_extract.proofs.Steps.{stops, ends_with}
use Rattle.cmd_extract.proofs.GivenFiles.{given_none, given_no_text, given_text}
use Rattle.cmd_extract.proofs.unpacker.Unpacker.unpack.Goals as goal

pub returns-in-None-clause-done : goal.returns-in-None-clause-done
returns-in-None-clause-done g c =
    let host = g.H.Host.state c.args.host.now in
    let setup = c.args.self.now.setup in
    let name = c.args.name.now in
    let given : option_map (λ (b : Bor (List ℕ)). b.now) c.args.bytes ≡ None = search rules in
    subst (λ (w : Work). EndsWork c.report_unread.result c.report_unread.new.buffer w host host) (given_none setup name _ given)
    (ends_with c.report_unread.result c.report_unread.new.buffer (unread_outcome setup name) host c.report_unread.ensures)

pub returns-in-Err-clause-done : goal.returns-in-Err-clause-done
returns-in-Err-clause-done g c =
    let host = g.H.Host.state c.args.host.now in
    let setup = c.args.self.now.setup in
    let name = c.args.name.now in
    let given : option_map (λ (b : Bor (List ℕ)). b.now) c.args.bytes ≡ Some c.in-Some.bytes.now = search rules in
    let no_text : is_utf8 name ≡ false = false_from_ne_true (is_utf8 name) (λ passes. c.in-Err.ensures.cases.0 (IsUtf8-from_is_utf8 name passes)) in
    subst (λ (w : Work). EndsWork c.report_unread-in-Err.result c.report_unread-in-Err.new.buffer w host host) (given_no_text setup name _ c.in-Some.bytes.now given no_text)
    (ends_with c.report_unread-in-Err.result c.report_unread-in-Err.new.buffer (unread_outcome setup name) host c.report_unread-in-Err.ensures)

pub returns-in-Ok-refill_from-clause-done : goal.returns-in-Ok-refill_from-clause-done
returns-in-Ok-refill_from-clause-done g c =
    let old = g.H.Host.state c.args.host.now in
    let new = g.H.Host.state c.unpack_dump.new.host in
    let setup = c.args.self.now.setup in
    let name = c.args.name.now in
    let bytes = c.in-Some.bytes.now in
    let given : option_map (λ (b : Bor (List ℕ)). b.now) c.args.bytes ≡ Some bytes = search rules in
    let text : is_utf8 name ≡ true = is_utf8-from_IsUtf8 name c.in-Ok.ensures.cases.1 in
    let dump = c.in-Ok-refill_from.ensures.filled in
    subst (λ (w : Work). EndsWork c.unpack_dump.result c.unpack_dump.new.buffer w old new) (given_text setup name _ bytes _ given text dump)
    (subst (λ (n : List ℕ). EndsWork c.unpack_dump.result c.unpack_dump.new.buffer (task_work (task_of setup n c.refill_from.new.dump)) old new) c.in-Ok.ensures.cases.0 c.unpack_dump.ensures.done)

pub returns-in-Err-WrongLength-clause-done : goal.returns-in-Err-WrongLength-clause-done
returns-in-Err-WrongLength-clause-done g c =
    let host = g.H.Host.state c.args.host.now in
    let setup = c.args.self.now.setup in
    let name = c.args.name.now in
    let bytes = c.in-Some.bytes.now in
    let given : option_map (λ (b : Bor (List ℕ)). b.now) c.args.bytes ≡ Some bytes = search rules in
    let text : is_utf8 name ≡ true = is_utf8-from_IsUtf8 name c.in-Ok.ensures.cases.1 in
    let none = (no_part _ _ _ _ (ap (λ (f : DumpFault). wrong_dump_length {A = Unit {0}} (Err f)) c.in-Err-WrongLength.field-0-is) c.in-Err-WrongLength.ensures.refused) in
    subst (λ (w : Work). EndsWork c.report_wrong_length.result c.report_wrong_length.new.buffer w host host) (given_text setup name _ bytes _ given text none)
    (ends_with c.report_wrong_length.result c.report_wrong_length.new.buffer (reported_length setup name bytes) host c.report_wrong_length.ensures)

pub returns-in-Err-Memory-clause-done : goal.returns-in-Err-Memory-clause-done
returns-in-Err-Memory-clause-done g c = stops _ _
