-- bytes without a fault are the file of a session
use Rattle.std.proofs.Common.{◌≡◌, ℕ, ◌&&◌, Bool, true, false, cond, not, nat_eq, List, [], ◌∷◌, length, reverse, take, drop, Option, Some, None, Result, Ok, Err, refl, sym, ap, ◌∙◌, subst}
use Rattle.std.specs.List.{All, filter, list_all}
use Rattle.std.specs.Cmp.Lexicographic.{pointwise}
use Rattle.std.proofs.lemmas.List.Elements.{All-head, All-tail, All-take, All-drop, All-weaker}
use Rattle.d64_image.specs.Disk.{AreBytes}
use Rattle.d64_image.specs.Image.{sector_at}
use Rattle.d64_image.specs.Patch.{Kept, RisesBetween, restored_image, changed_blocks, trimmed_blocks, HaveBlocks}
use Rattle.d64_image.proofs.Patches.{length-restored_image, trimmed_blocks-changed_blocks}
use Rattle.d64_history.specs.Held.{history_of}
use Rattle.d64_history.specs.Records.{LeadAlong, AreRecords}
use Rattle.d64_history.specs.SessionFile.{file_of, IsSession}
use Rattle.d64_history.specs.ResumeFault.{◌>>=◌, Parts, parts_at, all_differ, differ_along, lead_both_ways, session_at, fault_in, first_resume_fault, resume_fault_number, reported_by, resume_refused_by}
use Rattle.d64_history.specs.Resuming.{Fails, Gives}
use Rattle.d64_history.specs.SessionFileLaws.{FaultlessAreFiles, KeptIsResumed}
use Rattle.d64_history.specs.declared.resume_fault.ResumeFault.{ResumeFault}
use Rattle.d64_history.specs.declared.resume_fault.ResumeFault.TheVariants.{NotSession, Truncated, Trailing, BadCursor, BadRecord, Memory}
use Rattle.d64_history.proofs.Leads.{All-turned}
use Rattle.d64_history.proofs.Sessions.{Holds}
use Rattle.d64_history.proofs.SessionFiles.{file-held, holds-session}
use Rattle.d64_history.proofs.FilesRead.{faultless, one_history}
use Rattle.d64_history.proofs.Reading.{fails_then}
use Rattle.d64_history.proofs.FilesTaken.{IsRecordOf, AreParts, parts_take, bind_ok, end_ok, ok_is}

both-true : (t u : Bool) → (t && u) ≡ true → (t ≡ true) × (u ≡ true)
both-true true u e = (refl, e)
both-true false u e = absurd cc

-- a filter that keeps all
filter-all : (p : ℕ × List ℕ → Bool) (xs : Kept) → list_all p xs ≡ true → filter p xs ≡ xs
filter-all p [] e = refl
filter-all p (x ∷ xs) e =
    let b = both-true (p x) (list_all p xs) e in
    ap (λ (t : Bool). cond t (x ∷ filter p xs) (filter p xs)) b.0 ∙ ap (λ (rest : Kept). x ∷ rest) (filter-all p xs b.1)

-- blocks that all differ are all that changed
differ-changed_blocks : (patch : Kept) (image : List (List ℕ)) → RisesBetween 0 (length image) patch → all_differ image patch ≡ true → patch ≡ changed_blocks (restored_image image patch) image
unfolding all_differ trimmed_blocks
differ-changed_blocks patch image rises e =
    sym (filter-all (λ (x : ℕ × List ℕ). not (pointwise nat_eq x.1 (sector_at image x.0))) patch e) ∙ trimmed_blocks-changed_blocks patch image rises

-- and so records whose blocks all differ lead away from an image
differ-lead : (records : List Kept) (image : List (List ℕ)) (blocks : ℕ) → length image ≡ blocks → All (IsRecordOf blocks 0) records
    → differ_along image records ≡ true → LeadAlong image records
unfolding LeadAlong differ_along
differ-lead [] image blocks long each e = tt
differ-lead (patch ∷ patches) image blocks long each e =
    let b = both-true (all_differ image patch) (differ_along (restored_image image patch) patches) e in
    let is = All-head (IsRecordOf blocks 0) patch patches each in (
      differ-changed_blocks patch image (subst (λ (n : ℕ). RisesBetween 0 n patch) (sym long) is.0) b.0,
      differ-lead patches (restored_image image patch) blocks (length-restored_image patch image ∙ long) (All-tail (IsRecordOf blocks 0) patch patches each) b.1,
    )

pub are-records : (records : List Kept) (image : List (List ℕ)) (done : ℕ) → All (IsRecordOf (length image) 0) records
    → lead_both_ways image done records ≡ true → AreRecords records image done
unfolding AreRecords
are-records records image done each e =
    let is = IsRecordOf (length image) 0 in
    let b = both-true (differ_along image (reverse (take done records))) (differ_along image (drop done records)) e in (
      differ-lead (reverse (take done records)) image (length image) refl (All-turned is (take done records) (All-take is done records each)) b.0,
      differ-lead (drop done records) image (length image) refl (All-drop is done records each) b.1,
    )

-- what a session is that has the parts of a file
pub record IsResumed (bytes : List ℕ) (parts : Parts) : Type 0 where
  pub session : IsSession (history_of parts.records parts.image parts.done)
  pub file : file_of (history_of parts.records parts.image parts.done) ≡ bytes

pub resumed : (bytes : List ℕ) (parts : Parts) → AreParts bytes parts → lead_both_ways parts.image parts.done parts.records ≡ true → IsResumed bytes parts
resumed bytes parts are e =
    let history = history_of parts.records parts.image parts.done in
    let leads = are-records parts.records parts.image parts.done are.each e in
    let blocks : All HaveBlocks parts.records =
    All-weaker (IsRecordOf (length parts.image) 0) HaveBlocks (λ patch is. is.1) parts.records are.each in
    let holds : Holds parts.records parts.image parts.done history = record { within = are.within; lead = leads; is = refl } in
    record { session = holds-session holds are.count are.image blocks; file = sym (file-held holds) ∙ are.file }

-- the parts that were read without fault
pub session_take : (bytes : List ℕ) (parts : Parts) → AreBytes bytes → session_at bytes ≡ Ok parts → IsResumed bytes parts
unfolding session_at
session_take bytes parts are e =
    let a = bind_ok (parts_at bytes) (λ read. cond (lead_both_ways read.image read.done read.records) (Ok read) (Err BadRecord)) parts e in
    let g = end_ok (lead_both_ways a.0.image a.0.done a.0.records) BadRecord (Ok a.0) parts a.2 in
    subst (IsResumed bytes) (ok_is a.0 parts g.1) (resumed bytes a.0 (parts_take bytes a.0 are a.1) g.0)

no-fault : (reading : Result Parts ResumeFault) → fault_in reading ≡ None → (parts : Parts) × (reading ≡ Ok parts)
no-fault (Ok parts) e = (parts, refl)
no-fault (Err fault) e = absurd cc

-- bytes without a fault are the file of a history
pub files : FaultlessAreFiles
files bytes are e =
    let read = no-fault (session_at bytes) e in
    let is = session_take bytes read.0 are read.1 in
    (history_of read.0.records read.0.image read.0.done, is.session, is.file)

only-memory : (fault : ResumeFault) → reported_by fault None ≡ None → resume_fault_number fault ≡ 6
only-memory NotSession e = absurd cc
only-memory Truncated e = absurd cc
only-memory Trailing e = absurd cc
only-memory BadCursor e = absurd cc
only-memory BadRecord e = absurd cc
only-memory (Memory error) e = refl

-- what was kept is resumed
pub kept-resumed : KeptIsResumed
kept-resumed history (Ok session) is outcome = one_history session history outcome.session is outcome.file
kept-resumed history (Err fault) is outcome =
    only-memory fault (subst (λ (first : Option ResumeFault). reported_by fault first ≡ first) (faultless history is) outcome.refused)

-- the fault that was returned is the one that was found
pub refused-by : {Value Part : Type 0} (seen : Value → Part) (result : Result Value ResumeFault) (reading : Result Part ResumeFault)
    → Gives seen result reading → resume_refused_by result (fault_in reading) ≡ fault_in reading
refused-by seen (Ok value) reading e = sym (ap fault_in e)
refused-by seen (Err NotSession) reading e = sym (ap fault_in e)
refused-by seen (Err Truncated) reading e = sym (ap fault_in e)
refused-by seen (Err Trailing) reading e = sym (ap fault_in e)
refused-by seen (Err BadCursor) reading e = sym (ap fault_in e)
refused-by seen (Err BadRecord) reading e = sym (ap fault_in e)
refused-by seen (Err (Memory error)) reading e = refl

-- what was a fault of the parts is one of the session
pub session_fails : (fault : ResumeFault) (bytes : List ℕ) → Fails fault (parts_at bytes) → reported_by fault (first_resume_fault bytes) ≡ first_resume_fault bytes
unfolding session_at
session_fails fault bytes e =
    let history : Result Parts ResumeFault = Err fault in
    refused-by (λ (parts : Parts). parts) history (session_at bytes)
    (fails_then fault (parts_at bytes) (λ parts. cond (lead_both_ways parts.image parts.done parts.records) (Ok parts) (Err BadRecord)) e)

-- the test of the blocks
tested : (bytes : List ℕ) (parts : Parts) (t : Bool) → parts_at bytes ≡ Ok parts → lead_both_ways parts.image parts.done parts.records ≡ t
    → session_at bytes ≡ cond t (Ok parts) (Err BadRecord)
unfolding session_at
tested bytes parts t e f =
    ap (λ (r : Result Parts ResumeFault). r >>= λ read. cond (lead_both_ways read.image read.done read.records) (Ok read) (Err BadRecord)) e
    ∙ ap (λ (u : Bool). cond u (Ok parts) (Err BadRecord)) f

pub no_difference : (bytes : List ℕ) (parts : Parts) → parts_at bytes ≡ Ok parts → lead_both_ways parts.image parts.done parts.records ≡ false
    → Some BadRecord ≡ first_resume_fault bytes
no_difference bytes parts e f = sym (ap fault_in (tested bytes parts false e f))

pub all_difference : (bytes : List ℕ) (parts : Parts) → parts_at bytes ≡ Ok parts → lead_both_ways parts.image parts.done parts.records ≡ true
    → None ≡ first_resume_fault bytes
all_difference bytes parts e f = sym (ap fault_in (tested bytes parts true e f))
