use Rattle.std.proofs.Common.{◌≡◌, ◌≤◌, ◌++◌, List, ℕ, Bor, Option, Some, Result, Ok, Err, [], length, sym, subst, arith}
use Rattle.std.specs.Prelude.{IfOk, IfErr}
use Rattle.d64_image.specs.Disk.{AreBytes}
use Rattle.d64_history.specs.Resuming.{given_bytes, Fails, Gives, IsStarted, IsEndOf, start_at, start_seen}
use Rattle.d64_history.specs.ResumeFault.{parts_at}
use Rattle.d64_history.specs.declared.file_parts.FileParts.{FileParts}
use Rattle.d64_history.specs.declared.resume_fault.ResumeFault.{ResumeFault}
use Rattle.d64_history.proofs.Given.{are-bytes, ends-same, start_ends, started_from, start_fails, start_fails_last}
use Rattle.d64_history.proofs.resuming.started.Goals as goal

-- the parts before the records, and the bytes after them
abbrev Start : Type 0
Start = FileParts × Bor (List ℕ)

-- what was read of these bytes
abbrev IsRead : List ℕ → Result Start ResumeFault → Type 0
IsRead bytes read = Gives (λ (x : Start). (start_seen x.0, x.1.now)) read (start_at bytes)

begun : (bytes : List ℕ) (read : Result Start ResumeFault) → AreBytes bytes → IsRead bytes read → IfOk read (λ (x : Start). x.0.records ≡ [])
    → IfOk read (λ (x : Start). IsStarted x.0)
begun bytes (Ok x) are is none = (started_from bytes x.1.now x.0 are is none).0
begun bytes (Err fault) are is none = tt

given : (bytes : List ℕ) (read : Result Start ResumeFault) → AreBytes bytes → IsRead bytes read → IfOk read (λ (x : Start). x.0.records ≡ [])
    → IfOk read (λ (x : Start). given_bytes (Some x.0) x.1.now ≡ bytes)
given bytes (Ok x) are is none = (started_from bytes x.1.now x.0 are is none).1
given bytes (Err fault) are is none = tt

ends : (bytes : List ℕ) (read : Result Start ResumeFault) → AreBytes bytes → IsRead bytes read → IfOk read (λ (x : Start). IsEndOf x.1.now bytes)
ends bytes (Ok x) are is = start_ends bytes x.1.now x.0 are is
ends bytes (Err fault) are is = tt

fails : (bytes : List ℕ) (read : Result Start ResumeFault) → IsRead bytes read → IfErr read (λ fault. Fails fault (parts_at bytes))
fails bytes (Ok x) is = tt
fails bytes (Err fault) is = start_fails_last fault bytes is

fails_early : (bytes : List ℕ) (read : Result Start ResumeFault) → 196629 ≤ length bytes → IsRead bytes read
    → IfErr read (λ fault. (more : List ℕ) → Fails fault (parts_at (bytes ++ more)))
fails_early bytes (Ok x) enough is = tt
fails_early bytes (Err fault) enough is = λ more. start_fails fault bytes more enough is

pub returns-in-None-clause-started : goal.returns-in-None-clause-started
returns-in-None-clause-started c =
    begun c.args.rest.now c.read_start.result (are-bytes c.args.rest.now c.type_inv.rest) c.read_start.ensures.start c.read_start.ensures.none

pub returns-in-None-clause-given : goal.returns-in-None-clause-given
returns-in-None-clause-given c =
    subst (λ (parts : Option FileParts). IfOk c.read_start.result (λ (x : Start). given_bytes (Some x.0) x.1.now ≡ given_bytes parts c.args.rest.now)) (sym c.in-None.is)
    (given c.args.rest.now c.read_start.result (are-bytes c.args.rest.now c.type_inv.rest) c.read_start.ensures.start c.read_start.ensures.none)

pub returns-in-None-clause-end : goal.returns-in-None-clause-end
returns-in-None-clause-end c =
    ends c.args.rest.now c.read_start.result (are-bytes c.args.rest.now c.type_inv.rest) c.read_start.ensures.start

pub returns-in-Some-clause-end : goal.returns-in-Some-clause-end
returns-in-Some-clause-end c = ends-same c.args.rest.now

-- a fault in the start
pub returns-in-None-clause-fault : goal.returns-in-None-clause-fault
returns-in-None-clause-fault c =
    subst (λ (parts : Option FileParts). IfErr c.read_start.result (λ fault. Fails fault (parts_at (given_bytes parts c.args.rest.now)))) (sym c.in-None.is)
    (fails c.args.rest.now c.read_start.result c.read_start.ensures.start)

-- whatever comes after it
pub returns-in-None-clause-early : goal.returns-in-None-clause-early
returns-in-None-clause-early c enough =
    subst (λ (parts : Option FileParts). IfErr c.read_start.result (λ fault. (more : List ℕ) → Fails fault (parts_at (given_bytes parts c.args.rest.now ++ more)))) (sym c.in-None.is)
    (fails_early c.args.rest.now c.read_start.result (omega arith) c.read_start.ensures.start)
