use Rattle.std.proofs.Common.{◌≡◌, ◌++◌, ◌-◌, Some, List, ℕ, length, drop, ap, ap₂, sym, ◌∙◌, subst, arith}
use Rattle.std.proofs.lemmas.Result.{err_from_is_err_and}
use Rattle.d64_history.specs.Resuming.{given_bytes, Fails}
use Rattle.d64_history.specs.ResumeFault.{parts_at}
use Rattle.d64_history.proofs.Given.{given_on, fails_early, ends-then, ends-within, ends-drop}
use Rattle.d64_history.proofs.resuming.Resuming.read_on.Goals as goal

-- a fault in the start, for which there are enough bytes
pub returns-in_err-parts-clause-refused : goal.returns-in_err-parts-clause-refused
returns-in_err-parts-clause-refused c =
    let p = err_from_is_err_and c.from_residual.result c.from_residual.ensures.1 in
    let all : given_bytes c.take.result c.as_slice.result.now ≡ c.args.self.now = ap₂ given_bytes c.take.ensures.value c.as_slice.ensures.value ∙ c.self.view_is in
    let enough = c.if-len-lt-HELD_BYTES.false in
    let len = c.len.ensures in
    let long = c.as_slice.ensures.len in
    rw (p.1, p.2)
    (λ more. subst (λ (bytes : List ℕ). Fails c.in_err-parts.field-0.0 (parts_at (bytes ++ more))) all (c.in_err-parts.ensures.early (omega arith) more))

-- or in a record
pub returns-in_err-after-clause-refused : goal.returns-in_err-after-clause-refused
returns-in_err-after-clause-refused c =
    let p = err_from_is_err_and c.from_residual-in_err-after.result c.from_residual-in_err-after.ensures.1 in
    let all : given_bytes c.take.result c.as_slice.result.now ≡ c.args.self.now = ap₂ given_bytes c.take.ensures.value c.as_slice.ensures.value ∙ c.self.view_is in
    let f = c.in_err-after.ensures.fault in
    let read = given_on c.in_ok-parts.parts c.read_records.new.parts c.in_ok-parts.after.now f.0 c.in_err-after.ensures.same f.1 ∙ c.in_ok-parts.ensures.given ∙ all in
    rw (p.1, p.2)
    (λ more. subst (λ (bytes : List ℕ). Fails c.in_err-after.field-0.0 (parts_at (bytes ++ more))) read
    (fails_early c.in_err-after.field-0.0 c.read_records.new.parts f.0 more c.in_err-after.ensures.started f.2 f.3 f.4))

-- what is left is an end of the bytes
pub overflow_sub-taken : goal.overflow_sub-taken
overflow_sub-taken c =
    let within = ends-within c.as_slice.result.now c.in_ok-after.after.now
    (ends-then c.as_slice.result.now c.in_ok-parts.after.now c.in_ok-after.after.now c.in_ok-parts.ensures.end c.in_ok-after.ensures.end) in
    let long = c.as_slice.ensures.len in
    let len = c.len-2.ensures in
    omega arith

pub returns-clause-given : goal.returns-clause-given
returns-clause-given c =
    let all : given_bytes c.take.result c.as_slice.result.now ≡ c.args.self.now = ap₂ given_bytes c.take.ensures.value c.as_slice.ensures.value ∙ c.self.view_is in
    let end = ends-then c.as_slice.result.now c.in_ok-parts.after.now c.in_ok-after.after.now c.in_ok-parts.ensures.end c.in_ok-after.ensures.end in
    let long = c.as_slice.ensures.len in
    let len = c.len-2.ensures in
    let left : c.drop_front.new.bytes.items ≡ c.in_ok-after.after.now =
    c.drop_front.ensures ∙ ap (drop (c.len-2.result - length c.in_ok-after.after.now)) (sym c.as_slice.ensures.value)
    ∙ ends-drop c.as_slice.result.now c.in_ok-after.after.now (c.len-2.result - length c.in_ok-after.after.now) end (omega arith) in
    ap (given_bytes (Some c.read_records.new.parts)) left
    ∙ given_on c.in_ok-parts.parts c.read_records.new.parts c.in_ok-parts.after.now c.in_ok-after.after.now c.in_ok-after.ensures.same c.in_ok-after.ensures.read
    ∙ c.in_ok-parts.ensures.given ∙ all
