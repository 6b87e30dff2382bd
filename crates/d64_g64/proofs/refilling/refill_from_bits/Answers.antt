use Rattle.std.proofs.Common.{◌≡◌, Bool, Some, None, length, sym, ap, ◌∙◌}
use Rattle.std.specs.Prelude.{if◌then◌else◌}
use Rattle.d64_g64.specs.File.{is_g64}
use Rattle.d64_g64.specs.Dump.{g64_dump}
use Rattle.d64_g64.proofs.Dumps.{same_dump, some_length}
use Rattle.d64_g64.proofs.GoodDumps.{is_dump}
use Rattle.d64_g64.proofs.Refilled.{on_ok, not_bad}
use Rattle.d64_g64.proofs.refilling.refill_from_bits.Goals as goal

pub returns-in-Ok-clause-refused : goal.returns-in-Ok-clause-refused
returns-in-Ok-clause-refused c =
    let file = c.args.file.now in
    let bytes = c.deref.result.now in
    let some = some_length (g64_dump file) bytes (is_dump file) (sym (c.deref.ensures.value ∙ c.in-Ok.ensures.dump)) in
    c.refill.ensures.refused
    ∙ ap (λ (b : Bool). if b then None else Some (length bytes)) some
    ∙ sym (ap (λ (b : Bool). if b then None else Some (length file)) (not_bad (is_g64 file) c.in-Ok.ensures.refused))

pub returns-in-Ok-clause-filled : goal.returns-in-Ok-clause-filled
returns-in-Ok-clause-filled c =
    let file = c.args.file.now in
    on_ok c.refill.result _ _ (c.refill.new.self ≡ g64_dump file) c.refill.ensures.filled c.refill.ensures.dump
    (λ kept is. same_dump c.refill.new.self (g64_dump file) is (is_dump file) (kept ∙ c.deref.ensures.value ∙ c.in-Ok.ensures.dump))
