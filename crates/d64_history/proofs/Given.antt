-- what was given of a session file, and what is read of it
use Rattle.std.proofs.Common.{◌≡◌, ℕ, Fits, w8, zero, suc, ◌+◌, ◌-◌, ◌<◌, ◌≤◌, ◌^◌, ◌⊎◌, ◌==◌, cond, Bool, true, false, Option, Some, None, List, [], ◌∷◌, ◌++◌, length, get_or, drop, Result, Ok, Err, refl, sym, ap, ap₂, ◌∙◌, subst, inl, inr, arith, append_assoc, eqb-true}
use Rattle.std.specs.Int.{w64, to_le_bytes}
use Rattle.std.specs.List.{All, flat_map}
use Rattle.std.proofs.lemmas.List.{append-nil, length-append, drop_at, nil_from_length}
use Rattle.std.proofs.lemmas.List.Elements.{All-nil, All-head, All-tail, All-from_get_or}
use Rattle.d64_image.specs.Disk.{Disk, AreBytes}
use Rattle.d64_image.specs.Image.{IsImage, tracks_of, bytes_of}
use Rattle.d64_image.specs.Patch.{Kept, IsPatchOf, HaveBlocks}
use Rattle.d64_history.specs.SessionFile.{magic, record_file, file_with}
use Rattle.d64_history.specs.ResumeFault.{◌>>=◌, ReadPart, image_at, counts_at, record_file_at, records_at, Parts, parts_at}
use Rattle.d64_history.specs.Resuming.{Fails, start_file, start_at, start_seen, IsStarted, IsEndOf, given_bytes}
use Rattle.d64_history.specs.declared.file_parts.FileParts.{FileParts}
use Rattle.d64_history.specs.declared.resume_fault.ResumeFault.{ResumeFault}
use Rattle.d64_history.specs.declared.resume_fault.ResumeFault.TheVariants.{Trailing}
use Rattle.d64_history.proofs.Leads.{IsRecord}
use Rattle.d64_history.proofs.FilesRead.{shown_again, counts_again, record_again}
use Rattle.d64_history.proofs.FilesTaken.{AreParts, image_takes, counts_take, bind_ok, ok_is}
use Rattle.d64_history.proofs.Pieces.{KnownBy, before_rest, image_known, image_taken, counts_known, record_known, then_known}
use Rattle.d64_history.proofs.Reading.{with_front, fails_then}

-- the start of a file is read again
pub start_again : (image : List (List ℕ)) (done count : ℕ) (rest : List ℕ) → IsImage image → done ≤ count → count < 2 ^ 64
    → start_at (start_file image done count ++ rest) ≡ Ok ((image, (done, count)), rest)
start_again image done count rest is within h =
    let first = to_le_bytes w64 done in
    let second = to_le_bytes w64 count in
    ap (λ (xs : List ℕ). start_at (magic ++ tracks_of (length image) ∷ xs))
    (append_assoc (bytes_of image ++ first) second rest ∙ append_assoc (bytes_of image) first (second ++ rest))
    ∙ rw (shown_again image (first ++ (second ++ rest)) is, counts_again done count rest within h) refl

-- and is the front of what it was read from
pub start_takes : (bytes : List ℕ) (x : (Disk × (ℕ × ℕ)) × List ℕ) → AreBytes bytes → start_at bytes ≡ Ok x
    → (bytes ≡ start_file x.0.0 x.0.1.0 x.0.1.1 ++ x.1) × IsImage x.0.0 × (x.0.1.0 ≤ x.0.1.1) × (x.0.1.1 < 2 ^ 64)
start_takes bytes x are e =
    let image = bind_ok (image_at bytes) (λ image. counts_at image.1 >>= λ counts. Ok ((image.0, counts.0), counts.1)) x e in
    let counts = bind_ok (counts_at image.0.1) (λ counts. Ok ((image.0.0, counts.0), counts.1)) x image.2 in
    let same : ((image.0.0, counts.0.0), counts.0.1) ≡ x = ok_is ((image.0.0, counts.0.0), counts.0.1) x counts.2 in
    let shown = image_takes bytes image.0 are image.1 in
    let counted = counts_take image.0.1 counts.0 shown.0.left counts.1 in
    let done = to_le_bytes w64 counts.0.0.0 in
    let count = to_le_bytes w64 counts.0.0.1 in
    let front = bytes_of image.0.0 in
    let parts : bytes ≡ start_file image.0.0 counts.0.0.0 counts.0.0.1 ++ counts.0.1 =
    shown.0.parts
    ∙ ap (λ (rest : List ℕ). magic ++ tracks_of (length image.0.0) ∷ (front ++ rest)) (counted.0.parts ∙ append_assoc done count counts.0.1)
    ∙ ap (λ (rest : List ℕ). magic ++ tracks_of (length image.0.0) ∷ rest)
    (sym (append_assoc (front ++ done) count counts.0.1 ∙ append_assoc front done (count ++ counts.0.1))) in
    subst (λ (y : (Disk × (ℕ × ℕ)) × List ℕ). (bytes ≡ start_file y.0.0 y.0.1.0 y.0.1.1 ++ y.1) × IsImage y.0.0 × (y.0.1.0 ≤ y.0.1.1) × (y.0.1.1 < 2 ^ 64)) same
    (parts, shown.1, counted.1, counted.2)

-- this many bytes are enough to know it
abbrev after_image : Disk → (ℕ × ℕ) × List ℕ → ReadPart (Disk × (ℕ × ℕ))
after_image image counts = Ok ((image, counts.0), counts.1)

counts_on : (image : Disk) (more : List ℕ) (reading : ReadPart (ℕ × ℕ)) → (before_rest more reading >>= after_image image) ≡ before_rest more (reading >>= after_image image)
counts_on image more (Ok x) = refl
counts_on image more (Err fault) = refl

pub start_known : KnownBy 196629 start_at
start_known bytes more h =
    then_known 196613 196613 16 image_at (λ image rest. counts_at rest >>= after_image image) image_known image_taken
    (λ image rest more h. ap (λ (r : ReadPart (ℕ × ℕ)). r >>= after_image image) (counts_known rest more h) ∙ counts_on image more (counts_at rest))
    (omega arith) bytes more (omega arith)

-- ---- the records

none_on : (reading : ReadPart (List Kept)) → reading ≡ with_front [] reading
none_on (Ok x) = refl
none_on (Err fault) = refl

one_on : (patch : Kept) (patches : List Kept) (reading : ReadPart (List Kept))
    → (with_front patches reading >>= λ others. Ok (patch ∷ others.0, others.1)) ≡ with_front (patch ∷ patches) reading
one_on patch patches (Ok x) = refl
one_on patch patches (Err fault) = refl

-- those that were read are read again, and then the others
pub records_again_on : (records : List Kept) (blocks n : ℕ) (rest : List ℕ) → blocks ≤ 768 → All (IsRecord blocks) records
    → records_at blocks (length records + n) (flat_map record_file records ++ rest) ≡ with_front records (records_at blocks n rest)
unfolding records_at
records_again_on [] blocks n rest few each =
    let same : 0 + n ≡ n = omega arith in
    ap (λ (k : ℕ). records_at blocks k rest) same ∙ none_on (records_at blocks n rest)
records_again_on (patch ∷ patches) blocks n rest few each =
    let more : suc (length patches) + n ≡ suc (length patches + n) = omega arith in
    ap (λ (k : ℕ). records_at blocks k (flat_map record_file (patch ∷ patches) ++ rest)) more
    ∙ ap (records_at blocks (suc (length patches + n))) (append_assoc (record_file patch) (flat_map record_file patches) rest)
    ∙ rw (
      record_again patch blocks (flat_map record_file patches ++ rest) few (All-head (IsRecord blocks) patch patches each),
      records_again_on patches blocks n rest few (All-tail (IsRecord blocks) patch patches each),
    )
    (one_on patch patches (records_at blocks n rest))

-- all parts, read from the start and the records
abbrev ended : Disk → ℕ → List Kept × List ℕ → Result Parts ResumeFault
ended image done read = cond (length read.1 == 0) (Ok (record { image = image; done = done; records = read.0 })) (Err Trailing)

abbrev after_start : (Disk × (ℕ × ℕ)) × List ℕ → Result Parts ResumeFault
after_start start = records_at (length start.0.0) start.0.1.1 start.1 >>= ended start.0.0 start.0.1.0

starts_on : (i : Disk × List ℕ) (counts : ReadPart (ℕ × ℕ))
    → (counts >>= λ c. records_at (length i.0) c.0.1 c.1 >>= ended i.0 c.0.0) ≡ ((counts >>= after_image i.0) >>= after_start)
starts_on i (Ok x) = refl
starts_on i (Err fault) = refl

starts : (image : ReadPart Disk)
    → (image >>= λ i. counts_at i.1 >>= λ c. records_at (length i.0) c.0.1 c.1 >>= ended i.0 c.0.0)
    ≡ ((image >>= λ i. counts_at i.1 >>= after_image i.0) >>= after_start)
starts (Ok x) = starts_on x (counts_at x.1)
starts (Err fault) = refl

pub parts_from_start : (bytes : List ℕ) → parts_at bytes ≡ (start_at bytes >>= after_start)
unfolding parts_at
parts_from_start bytes = starts (image_at bytes)

-- what is still read of a file of which this much was read
abbrev pub left_of : Disk → ℕ → List Kept → List Kept × List ℕ → Result Parts ResumeFault
left_of image done records read = ended image done (records ++ read.0, read.1)

front_left : (image : Disk) (done : ℕ) (records : List Kept) (reading : ReadPart (List Kept))
    → (with_front records reading >>= ended image done) ≡ (reading >>= left_of image done records)
front_left image done records (Ok x) = refl
front_left image done records (Err fault) = refl

size_few : (image : Disk) → IsImage image → length image ≤ 768
size_few image is = elim is.0 [
  | inl fewer ↦ omega arith
  | inr all ↦ omega arith
]

pub parts_given : (image : Disk) (done count : ℕ) (records : List Kept) (rest : List ℕ) → IsImage image → done ≤ count → count < 2 ^ 64
    → All (IsRecord (length image)) records → length records ≤ count
    → parts_at (start_file image done count ++ (flat_map record_file records ++ rest))
    ≡ (records_at (length image) (count - length records) rest >>= left_of image done records)
parts_given image done count records rest is within h each some =
    let sum : count ≡ length records + (count - length records) = omega arith in
    let few : length image ≤ 768 = size_few image is in
    parts_from_start (start_file image done count ++ (flat_map record_file records ++ rest))
    ∙ ap (λ (r : ReadPart (Disk × (ℕ × ℕ))). r >>= after_start) (start_again image done count (flat_map record_file records ++ rest) is within h)
    ∙ ap (λ (k : ℕ). records_at (length image) k (flat_map record_file records ++ rest) >>= ended image done) sum
    ∙ ap (λ (r : ReadPart (List Kept)). r >>= ended image done) (records_again_on records (length image) (count - length records) rest few each)
    ∙ front_left image done records (records_at (length image) (count - length records) rest)

-- ---- faults

-- a fault that is met in the start, whatever comes after it
pub start_fails : (fault : ResumeFault) (bytes more : List ℕ) → 196629 ≤ length bytes → Fails fault (start_at bytes) → Fails fault (parts_at (bytes ++ more))
start_fails fault bytes more enough e =
    subst (Fails fault) (sym (parts_from_start (bytes ++ more)
    ∙ ap (λ (r : ReadPart (Disk × (ℕ × ℕ))). r >>= after_start) (start_known bytes more enough)))
    (fails_then fault (before_rest more (start_at bytes)) after_start
    (fails_then fault (start_at bytes) (λ read. Ok (read.0, read.1 ++ more)) e))

pub start_fails_last : (fault : ResumeFault) (bytes : List ℕ) → Fails fault (start_at bytes) → Fails fault (parts_at bytes)
start_fails_last fault bytes e = subst (Fails fault) (sym (parts_from_start bytes)) (fails_then fault (start_at bytes) after_start e)

-- a fault that is met in a record
records_fail : (fault : ResumeFault) (blocks left : ℕ) (bytes : List ℕ) → 0 < left → Fails fault (record_file_at blocks bytes) → Fails fault (records_at blocks left bytes)
unfolding records_at
records_fail fault blocks zero bytes h e = absurd (omega arith)
records_fail fault blocks (suc left) bytes h e =
    fails_then fault (record_file_at blocks bytes) (λ first. records_at blocks left first.1 >>= λ others. Ok (first.0 ∷ others.0, others.1)) e

pub record_fails_last : (fault : ResumeFault) (image : Disk) (done count : ℕ) (records : List Kept) (rest : List ℕ) → IsImage image → done ≤ count → count < 2 ^ 64
    → All (IsRecord (length image)) records → length records < count → Fails fault (record_file_at (length image) rest)
    → Fails fault (parts_at (start_file image done count ++ (flat_map record_file records ++ rest)))
record_fails_last fault image done count records rest is within h each some e =
    subst (Fails fault) (sym (parts_given image done count records rest is within h each (omega arith)))
    (fails_then fault (records_at (length image) (count - length records) rest) (left_of image done records)
    (records_fail fault (length image) (count - length records) rest (omega arith) e))

pub record_fails : (fault : ResumeFault) (image : Disk) (done count : ℕ) (records : List Kept) (rest more : List ℕ) → IsImage image → done ≤ count → count < 2 ^ 64
    → All (IsRecord (length image)) records → length records < count → 198148 ≤ length rest → Fails fault (record_file_at (length image) rest)
    → Fails fault (parts_at (start_file image done count ++ (flat_map record_file records ++ (rest ++ more))))
record_fails fault image done count records rest more is within h each some enough e =
    let few : length image ≤ 768 = size_few image is in
    record_fails_last fault image done count records (rest ++ more) is within h each some
    (subst (Fails fault) (sym (record_known (length image) rest more (omega arith)))
    (fails_then fault (record_file_at (length image) rest) (λ read. Ok (read.0, read.1 ++ more)) e))

-- ---- the end

all_read : (image : Disk) (done : ℕ) (records : List Kept) (rest : List ℕ) → IsImage image → done ≤ length records → length records < 2 ^ 64
    → All (IsRecord (length image)) records
    → parts_at (start_file image done (length records) ++ (flat_map record_file records ++ rest)) ≡ left_of image done records ([], rest)
unfolding records_at
all_read image done records rest is within h each =
    let none : length records - length records ≡ 0 = omega arith in
    parts_given image done (length records) records rest is within h each (omega arith)
    ∙ ap (λ (k : ℕ). records_at (length image) k rest >>= left_of image done records) none

-- bytes after the last record
pub trailing : (image : Disk) (done : ℕ) (records : List Kept) (rest : List ℕ) → IsImage image → done ≤ length records → length records < 2 ^ 64
    → All (IsRecord (length image)) records → (length rest == 0) ≡ false
    → parts_at (start_file image done (length records) ++ (flat_map record_file records ++ rest)) ≡ Err Trailing
trailing image done records rest is within h each more =
    all_read image done records rest is within h each
    ∙ ap (λ (t : Bool). let r : Result Parts ResumeFault = cond t (Ok (record { image = image; done = done; records = records ++ [] })) (Err Trailing) in r) more

-- no byte is missing
pub whole : (image : Disk) (done : ℕ) (records : List Kept) (rest : List ℕ) → IsImage image → done ≤ length records → length records < 2 ^ 64
    → All (IsRecord (length image)) records → (length rest == 0) ≡ true
    → parts_at (start_file image done (length records) ++ (flat_map record_file records ++ rest)) ≡ Ok (record { image = image; done = done; records = records })
whole image done records rest is within h each none =
    all_read image done records rest is within h each
    ∙ ap₂ (λ (t : Bool) (rs : List Kept). let r : Result Parts ResumeFault = cond t (Ok (record { image = image; done = done; records = rs })) (Err Trailing) in r)
    none (append-nil records)

-- ---- by the parts that were read

pub are-bytes : (bytes : List ℕ) → ((i : ℕ) → Fits w8 (get_or bytes i 0)) → AreBytes bytes
are-bytes bytes fit = All-from_get_or (λ (b : ℕ). b < 256) bytes 0 (λ i h. omega (arith, fit i))

pub each_record : (parts : FileParts) → IsStarted parts → All (IsRecord (length parts.image)) parts.records
each_record parts s = λ k d h. (s.patches k d h, s.blocks k d h)

-- the start was read
pub started_from : (bytes after : List ℕ) (parts : FileParts) → AreBytes bytes → start_at bytes ≡ Ok (start_seen parts, after) → parts.records ≡ []
    → IsStarted parts × (given_bytes (Some parts) after ≡ bytes)
started_from bytes after parts are e none =
    let s = start_takes bytes (start_seen parts, after) are e in
    let few = ap (λ (ps : List Kept). length ps) none in (
      record {
        image = s.1;
        done = s.2;
        count = s.3;
        within = omega arith;
        patches = subst (All (IsPatchOf parts.image)) (sym none) (All-nil (IsPatchOf parts.image));
        blocks = subst (All HaveBlocks) (sym none) (All-nil HaveBlocks);
      },
      ap (λ (ps : List Kept). start_file parts.image parts.done parts.count ++ (flat_map record_file ps ++ after)) none ∙ sym s.0,
    )

pub start_ends : (bytes after : List ℕ) (parts : FileParts) → AreBytes bytes → start_at bytes ≡ Ok (start_seen parts, after) → IsEndOf after bytes
start_ends bytes after parts are e = (start_file parts.image parts.done parts.count, (start_takes bytes (start_seen parts, after) are e).0)

pub ends-same : (bytes : List ℕ) → IsEndOf bytes bytes
ends-same bytes = ([], refl)

pub ends-then : (a b c : List ℕ) → IsEndOf b a → IsEndOf c b → IsEndOf c a
ends-then a b c p q = (p.0 ++ q.0, p.1 ∙ ap (λ (xs : List ℕ). p.0 ++ xs) q.1 ∙ sym (append_assoc p.0 q.0 c))

pub ends-within : (bytes rest : List ℕ) → IsEndOf rest bytes → length rest ≤ length bytes
ends-within bytes rest p =
    let long = ap (λ (xs : List ℕ). length xs) p.1 ∙ length-append p.0 rest in
    omega arith

pub ends-drop : (bytes rest : List ℕ) (taken : ℕ) → IsEndOf rest bytes → taken ≡ length bytes - length rest → drop taken bytes ≡ rest
ends-drop bytes rest taken p e =
    let long = ap (λ (xs : List ℕ). length xs) p.1 ∙ length-append p.0 rest in
    ap (drop taken) p.1 ∙ drop_at p.0 rest taken (omega arith)

-- records were read of what was given
pub given_on : (old new : FileParts) (bytes rest : List ℕ) → start_seen new ≡ start_seen old
    → flat_map record_file old.records ++ bytes ≡ flat_map record_file new.records ++ rest → given_bytes (Some new) rest ≡ given_bytes (Some old) bytes
given_on old new bytes rest same text =
    ap₂ (λ (start : Disk × (ℕ × ℕ)) (xs : List ℕ). start_file start.0 start.1.0 start.1.1 ++ xs) same (sym text)

-- more was given
pub given_more : (parts : Option FileParts) (rest more : List ℕ) → given_bytes parts (rest ++ more) ≡ given_bytes parts rest ++ more
given_more None rest more = refl
given_more (Some parts) rest more =
    sym (append_assoc (start_file parts.image parts.done parts.count) (flat_map record_file parts.records ++ rest) more
    ∙ ap (λ (xs : List ℕ). start_file parts.image parts.done parts.count ++ xs) (append_assoc (flat_map record_file parts.records) rest more))

pub fails_last : (fault : ResumeFault) (parts : FileParts) (rest : List ℕ) → IsStarted parts → length parts.records < parts.count
    → Fails fault (record_file_at (length parts.image) rest) → Fails fault (parts_at (given_bytes (Some parts) rest))
fails_last fault parts rest s some e = record_fails_last fault parts.image parts.done parts.count parts.records rest s.image s.done s.count (each_record parts s) some e

pub fails_early : (fault : ResumeFault) (parts : FileParts) (rest more : List ℕ) → IsStarted parts → length parts.records < parts.count
    → 198148 ≤ length rest → Fails fault (record_file_at (length parts.image) rest) → Fails fault (parts_at (given_bytes (Some parts) rest ++ more))
fails_early fault parts rest more s some enough e =
    subst (λ (bytes : List ℕ). Fails fault (parts_at bytes)) (given_more (Some parts) rest more)
    (record_fails fault parts.image parts.done parts.count parts.records rest more s.image s.done s.count (each_record parts s) some enough e)

-- all records were read
counted_all : (parts : FileParts) (rest : List ℕ) → length parts.records ≡ parts.count
    → given_bytes (Some parts) rest ≡ start_file parts.image parts.done (length parts.records) ++ (flat_map record_file parts.records ++ rest)
counted_all parts rest all =
    ap (λ (n : ℕ). start_file parts.image parts.done n ++ (flat_map record_file parts.records ++ rest)) (sym all)

pub trails : (parts : FileParts) (rest : List ℕ) → IsStarted parts → length parts.records ≡ parts.count → (length rest == 0) ≡ false
    → parts_at (given_bytes (Some parts) rest) ≡ Err Trailing
trails parts rest s all more =
    let done = s.done in
    let count = s.count in
    ap parts_at (counted_all parts rest all) ∙ trailing parts.image parts.done parts.records rest s.image (omega arith) (omega arith) (each_record parts s) more

pub all_parts : (parts : FileParts) (rest : List ℕ) → IsStarted parts → length parts.records ≡ parts.count → (length rest == 0) ≡ true
    → parts_at (given_bytes (Some parts) rest) ≡ Ok (record { image = parts.image; done = parts.done; records = parts.records })
all_parts parts rest s all none =
    let done = s.done in
    let count = s.count in
    ap parts_at (counted_all parts rest all) ∙ whole parts.image parts.done parts.records rest s.image (omega arith) (omega arith) (each_record parts s) none

-- a file that was read to its end
abbrev pub parts_seen : FileParts → Parts
parts_seen parts = record { image = parts.image; done = parts.done; records = parts.records }

pub record WholeFile (bytes : List ℕ) (parts : FileParts) : Type 0 where
  pub read : parts_at bytes ≡ Ok (parts_seen parts)
  pub are : AreParts bytes (parts_seen parts)

file_whole : (image : Disk) (done : ℕ) (records : List Kept)
    → file_with image done records ≡ start_file image done (length records) ++ (flat_map record_file records ++ [])
unfolding file_with
file_whole image done records =
    let front = (bytes_of image ++ to_le_bytes w64 done) ++ to_le_bytes w64 (length records) in
    ap (λ (xs : List ℕ). magic ++ tracks_of (length image) ∷ (front ++ xs)) (sym (append-nil (flat_map record_file records)))

every : (parts : FileParts) (after : List ℕ) → (length parts.records ≡ parts.count) ⊎ (length after < 0) → length parts.records ≡ parts.count
every parts after all = elim all [
  | inl whole ↦ whole
  | inr less ↦ absurd (omega arith)
]

pub whole_file : (parts : Option FileParts) (old new : FileParts) (bytes rest after : List ℕ) → given_bytes (Some old) rest ≡ given_bytes parts bytes
    → start_seen new ≡ start_seen old → flat_map record_file old.records ++ rest ≡ flat_map record_file new.records ++ after
    → IsStarted new → (length new.records ≡ new.count) ⊎ (length after < 0) → (length after == 0) ≡ true → WholeFile (given_bytes parts bytes) new
whole_file parts old new bytes rest after is same text s all none =
    let count : length new.records ≡ new.count = every new after all in
    let within = s.done in
    let limit = s.count in
    let nothing : after ≡ [] = nil_from_length after (eqb-true (length after) 0 none) in
    let bytes_are : given_bytes (Some new) after ≡ given_bytes parts bytes = given_on old new rest after same text ∙ is in
    record {
      read = ap parts_at (sym bytes_are) ∙ all_parts new after s count none;
      are = record {
        image = s.image;
        within = omega arith;
        count = omega arith;
        each = each_record new s;
        file =
            file_whole new.image new.done new.records
            ∙ ap₂ (λ (n : ℕ) (xs : List ℕ). start_file new.image new.done n ++ (flat_map record_file new.records ++ xs)) count (sym nothing)
            ∙ bytes_are;
      };
    }

pub file_trails : (parts : Option FileParts) (old new : FileParts) (bytes rest after : List ℕ) → given_bytes (Some old) rest ≡ given_bytes parts bytes
    → start_seen new ≡ start_seen old → flat_map record_file old.records ++ rest ≡ flat_map record_file new.records ++ after
    → IsStarted new → (length new.records ≡ new.count) ⊎ (length after < 0) → (length after == 0) ≡ false → parts_at (given_bytes parts bytes) ≡ Err Trailing
file_trails parts old new bytes rest after is same text s all more =
    ap parts_at (sym (given_on old new rest after same text ∙ is)) ∙ trails new after s (every new after all) more
