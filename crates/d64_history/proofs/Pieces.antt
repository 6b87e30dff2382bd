-- what is read from the first bytes of a file is read from all of them, if there are enough
use Rattle.std.proofs.Common.{◌≡◌, ℕ, zero, suc, ◌+◌, ◌-◌, ◌*◌, ◌<◌, ◌≤◌, ◌||◌, ◌==◌, Bool, true, false, cond, not, nat_lt, Option, Some, None, List, [], ◌∷◌, ◌++◌, length, take, drop, Result, Ok, Err, refl, sym, ap, ap₂, ◌∙◌, subst, inl, inr, arith}
use Rattle.std.specs.Int.{Width, w16, w64, byte_len, from_le_bytes}
use Rattle.std.proofs.lemmas.Bool.{cases_lt}
use Rattle.std.proofs.lemmas.Bool.Decides.{nat_tests}
use Rattle.std.proofs.lemmas.List.{length-append, length-drop, take-append-le, drop-append-le}
use Rattle.d64_image.specs.declared.image.TheConstants.{BLOCK_BYTES}
use Rattle.d64_image.specs.Disk.{Disk}
use Rattle.d64_image.specs.Image.{blocks_of}
use Rattle.d64_image.specs.Patch.{Kept}
use Rattle.std.specs.Simd.{first_chunks}
use Rattle.d64_history.specs.SessionFile.{magic}
use Rattle.d64_history.specs.ResumeFault.{◌>>=◌, ReadPart, bytes_at, number_at, after_magic, or_not_session, block_count_at, image_at, counts_at, index_at, read_block_at, blocks_at, record_file_at}
use Rattle.d64_history.specs.declared.resume_fault.ResumeFault.{ResumeFault}
use Rattle.d64_history.specs.declared.resume_fault.ResumeFault.TheVariants.{NotSession, Truncated, BadCursor, BadRecord}
use Rattle.d64_history.proofs.FilesTaken.{bind_ok, guard_ok, end_ok, ok_is}

-- what is read, with bytes after it
abbrev pub before_rest : {A : Type 0} → List ℕ → ReadPart A → ReadPart A
before_rest more reading = reading >>= λ read. Ok (read.0, read.1 ++ more)

-- this many bytes are enough to know what is read
abbrev pub KnownBy : {A : Type 0} → ℕ → (List ℕ → ReadPart A) → Type 0
KnownBy enough read = (bytes more : List ℕ) → enough ≤ length bytes → read (bytes ++ more) ≡ before_rest more (read bytes)

-- at most this many bytes are taken
abbrev pub Takes : {A : Type 0} → ℕ → (List ℕ → ReadPart A) → Type 0
Takes most read = (bytes : List ℕ) (x : _ × List ℕ) → read bytes ≡ Ok x → length bytes ≤ most + length x.1

bytes_known : (n : ℕ) → KnownBy n (bytes_at n)
bytes_known n bytes more h =
    let long = length-append bytes more in
    let one : nat_lt (length bytes) n ≡ false = grind (arith, nat_tests) in
    let all : nat_lt (length (bytes ++ more)) n ≡ false = grind (arith, nat_tests) in
    ap (λ (t : Bool). cond t (Err Truncated) (Ok (take n (bytes ++ more), drop n (bytes ++ more)))) all
    ∙ ap₂ (λ (xs ys : List ℕ). let r : ReadPart (List ℕ) = Ok (xs, ys) in r) (take-append-le n bytes more h) (drop-append-le n bytes more h)
    ∙ sym (ap (λ (t : Bool). before_rest more (cond t (Err Truncated) (Ok (take n bytes, drop n bytes)))) one)

bytes_taken : (n : ℕ) → Takes n (bytes_at n)
bytes_taken n bytes x e =
    let g = guard_ok (nat_lt (length bytes) n) Truncated (Ok (take n bytes, drop n bytes)) x e in
    let rest : drop n bytes ≡ x.1 = ap (λ (p : List ℕ × List ℕ). p.1) (ok_is (take n bytes, drop n bytes) x g.1) in
    let left = length-drop n bytes in
    let same = ap (λ (xs : List ℕ). length xs) rest in
    omega arith

-- one part after another
then_step : {A B : Type 0} (more : List ℕ) (m : ℕ) (next : A → List ℕ → ReadPart B) (reading : ReadPart A)
    → ((x : A × List ℕ) → reading ≡ Ok x → m ≤ length x.1) → ((a : A) → KnownBy m (next a))
    → (before_rest more reading >>= λ r. next r.0 r.1) ≡ before_rest more (reading >>= λ r. next r.0 r.1)
then_step more m next (Ok x) long known = known x.0 x.1 more (long x refl)
then_step more m next (Err fault) long known = refl

pub then_known : {A B : Type 0} (n k m : ℕ) (read : List ℕ → ReadPart A) (next : A → List ℕ → ReadPart B) → KnownBy n read → Takes k read
    → ((a : A) → KnownBy m (next a)) → n ≤ k + m → KnownBy (k + m) (λ bytes. read bytes >>= λ r. next r.0 r.1)
then_known n k m read next known takes after h bytes more enough =
    ap (λ (r : ReadPart _). r >>= λ x. next x.0 x.1) (known bytes more (omega arith))
    ∙ then_step more m next (read bytes) (λ x e. let t = takes bytes x e in omega arith) after

digits_on : (width : Width) (more : List ℕ) (reading : ReadPart (List ℕ))
    → (before_rest more reading >>= λ digits. Ok (from_le_bytes width digits.0, digits.1))
    ≡ before_rest more (reading >>= λ digits. Ok (from_le_bytes width digits.0, digits.1))
digits_on width more (Ok x) = refl
digits_on width more (Err fault) = refl

number_known : (width : Width) → KnownBy (byte_len width) (number_at width)
number_known width bytes more h =
    ap (λ (r : ReadPart (List ℕ)). r >>= λ digits. Ok (from_le_bytes width digits.0, digits.1)) (bytes_known (byte_len width) bytes more h)
    ∙ digits_on width more (bytes_at (byte_len width) bytes)

number_taken : (width : Width) → Takes (byte_len width) (number_at width)
number_taken width bytes x e =
    let digits = bind_ok (bytes_at (byte_len width) bytes) (λ digits. Ok (from_le_bytes width digits.0, digits.1)) x e in
    let rest = ap (λ (p : ℕ × List ℕ). p.1) (ok_is (from_le_bytes width digits.0.0, digits.0.1) x digits.2) in
    let taken = bytes_taken (byte_len width) bytes digits.0 digits.1 in
    let same = ap (λ (xs : List ℕ). length xs) rest in
    omega arith

guarded_ok : (t : Bool) (more : List ℕ) (x : ℕ × List ℕ)
    → cond t (Err BadRecord) (Ok (x.0, x.1 ++ more)) ≡ before_rest more (cond t (Err BadRecord) (Ok x))
guarded_ok true more x = refl
guarded_ok false more x = refl

-- the index of a block
guarded : (t : ℕ → Bool) (more : List ℕ) (reading : ReadPart ℕ)
    → (before_rest more reading >>= λ index. cond (t index.0) (Err BadRecord) (Ok index))
    ≡ before_rest more (reading >>= λ index. cond (t index.0) (Err BadRecord) (Ok index))
guarded t more (Ok x) = guarded_ok (t x.0) more x
guarded t more (Err fault) = refl

index_known : (blocks low : ℕ) → KnownBy 2 (index_at blocks low)
unfolding index_at
index_known blocks low bytes more h =
    ap (λ (r : ReadPart ℕ). r >>= λ index. cond (nat_lt index.0 low || not (nat_lt index.0 blocks)) (Err BadRecord) (Ok index)) (number_known w16 bytes more h)
    ∙ guarded (λ index. nat_lt index low || not (nat_lt index blocks)) more (number_at w16 bytes)

index_taken : (blocks low : ℕ) → Takes 2 (index_at blocks low)
unfolding index_at
index_taken blocks low bytes x e =
    let index = bind_ok (number_at w16 bytes) (λ index. cond (nat_lt index.0 low || not (nat_lt index.0 blocks)) (Err BadRecord) (Ok index)) x e in
    let g = guard_ok (nat_lt index.0.0 low || not (nat_lt index.0.0 blocks)) BadRecord (Ok index.0) x index.2 in
    let same = ap (λ (p : ℕ × List ℕ). length p.1) (ok_is index.0 x g.1) in
    let taken = number_taken w16 bytes index.0 index.1 in
    omega arith

-- it lies between the two
index_between : (blocks low : ℕ) (bytes : List ℕ) (x : ℕ × List ℕ) → index_at blocks low bytes ≡ Ok x → (low ≤ x.0) × (x.0 < blocks)
unfolding index_at
index_between blocks low bytes x e =
    let index = bind_ok (number_at w16 bytes) (λ index. cond (nat_lt index.0 low || not (nat_lt index.0 blocks)) (Err BadRecord) (Ok index)) x e in
    let g = guard_ok (nat_lt index.0.0 low || not (nat_lt index.0.0 blocks)) BadRecord (Ok index.0) x index.2 in
    let same = ap (λ (p : ℕ × List ℕ). p.0) (ok_is index.0 x g.1) in
    let t = g.0 in
    grind (arith, nat_tests)

abbrev with_index : ℕ → List ℕ × List ℕ → ReadPart (ℕ × List ℕ)
with_index index content = Ok ((index, content.0), content.1)

content_on : (index : ℕ) (more : List ℕ) (reading : ReadPart (List ℕ))
    → (before_rest more reading >>= with_index index)
    ≡ before_rest more (reading >>= with_index index)
content_on index more (Ok x) = refl
content_on index more (Err fault) = refl

-- a block, with its bytes
content_known : (index : ℕ) → KnownBy BLOCK_BYTES (λ bytes. bytes_at BLOCK_BYTES bytes >>= with_index index)
content_known index bytes more h =
    ap (λ (r : ReadPart (List ℕ)). r >>= with_index index) (bytes_known BLOCK_BYTES bytes more h)
    ∙ content_on index more (bytes_at BLOCK_BYTES bytes)

block_known : (blocks low : ℕ) → KnownBy 258 (read_block_at blocks low)
unfolding read_block_at
block_known blocks low =
    then_known 2 2 BLOCK_BYTES (index_at blocks low) (λ index bytes. bytes_at BLOCK_BYTES bytes >>= with_index index)
    (index_known blocks low) (index_taken blocks low) content_known (omega arith)

block_taken : (blocks low : ℕ) → Takes 258 (read_block_at blocks low)
unfolding read_block_at
block_taken blocks low bytes x e =
    let index = bind_ok (index_at blocks low bytes) (λ index. bytes_at BLOCK_BYTES index.1 >>= with_index index.0) x e in
    let content = bind_ok (bytes_at BLOCK_BYTES index.0.1) (with_index index.0.0) x index.2 in
    let same = ap (λ (p : (ℕ × List ℕ) × List ℕ). length p.1) (ok_is ((index.0.0, content.0.0), content.0.1) x content.2) in
    let first = index_taken blocks low bytes index.0 index.1 in
    let own = bytes_taken BLOCK_BYTES index.0.1 content.0 content.1 in
    omega arith

block_above : (blocks low : ℕ) (bytes : List ℕ) (x : (ℕ × List ℕ) × List ℕ) → read_block_at blocks low bytes ≡ Ok x → (low ≤ x.0.0) × (x.0.0 < blocks)
unfolding read_block_at
block_above blocks low bytes x e =
    let index = bind_ok (index_at blocks low bytes) (λ index. bytes_at BLOCK_BYTES index.1 >>= with_index index.0) x e in
    let content = bind_ok (bytes_at BLOCK_BYTES index.0.1) (with_index index.0.0) x index.2 in
    let same = ap (λ (p : (ℕ × List ℕ) × List ℕ). p.0.0) (ok_is ((index.0.0, content.0.0), content.0.1) x content.2) in
    subst (λ (n : ℕ). (low ≤ n) × (n < blocks)) same (index_between blocks low bytes index.0 index.1)

-- there is no block from one on that lies below it
index_fails : (blocks low : ℕ) (bytes : List ℕ) (reading : ReadPart ℕ) → blocks ≤ low → index_at blocks low bytes ≡ reading → (fault : ResumeFault) × (reading ≡ Err fault)
index_fails blocks low bytes (Ok x) h e = let within = index_between blocks low bytes x e in absurd (omega arith)
index_fails blocks low bytes (Err fault) h e = (fault, refl)

block_fails : (blocks low : ℕ) (bytes : List ℕ) (fault : ResumeFault) → index_at blocks low bytes ≡ Err fault → read_block_at blocks low bytes ≡ Err fault
unfolding read_block_at
block_fails blocks low bytes fault e = ap (λ (r : ReadPart ℕ). r >>= λ index. bytes_at BLOCK_BYTES index.1 >>= with_index index.0) e

abbrev with_first : ℕ × List ℕ → Kept × List ℕ → ReadPart Kept
with_first first others = Ok (first ∷ others.0, others.1)

first_on : (first : ℕ × List ℕ) (more : List ℕ) (reading : ReadPart Kept)
    → (before_rest more reading >>= with_first first) ≡ before_rest more (reading >>= with_first first)
first_on first more (Ok x) = refl
first_on first more (Err fault) = refl

-- the blocks after the first
others_known : (blocks count : ℕ) (more : List ℕ) (reading : ReadPart (ℕ × List ℕ))
    → ((x : (ℕ × List ℕ) × List ℕ) → reading ≡ Ok x → 2 + 258 * (blocks - (x.0.0 + 1)) ≤ length x.1)
    → ((low : ℕ) → KnownBy (2 + 258 * (blocks - low)) (blocks_at blocks count low))
    → (before_rest more reading >>= λ first. blocks_at blocks count (first.0.0 + 1) first.1 >>= with_first first.0)
    ≡ before_rest more (reading >>= λ first. blocks_at blocks count (first.0.0 + 1) first.1 >>= with_first first.0)
others_known blocks count more (Ok x) long known =
    ap (λ (r : ReadPart Kept). r >>= with_first x.0) (known (x.0.0 + 1) x.1 more (long x refl))
    ∙ first_on x.0 more (blocks_at blocks count (x.0.0 + 1) x.1)
others_known blocks count more (Err fault) long known = refl

pub blocks_known : (blocks count low : ℕ) → KnownBy (2 + 258 * (blocks - low)) (blocks_at blocks count low)
unfolding blocks_at
blocks_known blocks zero low bytes more h = refl
blocks_known blocks (suc count) low bytes more h =
    let next : (ℕ × List ℕ) × List ℕ → ReadPart Kept = λ first. blocks_at blocks count (first.0.0 + 1) first.1 >>= with_first first.0 in
    elim (cases_lt low blocks) [
      | inl below ↦
          let enough : 258 ≤ length bytes = omega arith in
          ap (λ (r : ReadPart (ℕ × List ℕ)). r >>= next) (block_known blocks low bytes more enough)
          ∙ others_known blocks count more (read_block_at blocks low bytes)
          (λ x e. let taken = block_taken blocks low bytes x e in let above = block_above blocks low bytes x e in omega arith)
          (λ other. blocks_known blocks count other)
      | inr beyond ↦
          let fails = index_fails blocks low bytes (index_at blocks low bytes) beyond refl in
          let one = block_fails blocks low bytes fails.0 fails.1 in
          let all = block_fails blocks low (bytes ++ more) fails.0
          (index_known blocks low bytes more (omega arith) ∙ ap (before_rest more) fails.1) in
          ap (λ (r : ReadPart (ℕ × List ℕ)). r >>= next) all
          ∙ sym (ap (λ (r : ReadPart (ℕ × List ℕ)). before_rest more (r >>= next)) one)
    ]

-- a record: no more blocks than the image has
pub record_known : (blocks : ℕ) → KnownBy (4 + 258 * blocks) (record_file_at blocks)
unfolding record_file_at
record_known blocks bytes more enough =
    then_known 2 2 (2 + 258 * blocks) (number_at w16) (λ count. blocks_at blocks count 0)
    (number_known w16) (number_taken w16) (λ count bytes more h. blocks_known blocks count 0 bytes more (omega arith)) (omega arith)
    bytes more (omega arith)

-- ---- the beginning

magic_on : (t : Bool) (start bytes more : List ℕ)
    → after_magic start (bytes ++ more) ≡ (after_magic start bytes >>= λ rest. Ok (rest ++ more))
    → cond t (after_magic start (bytes ++ more)) (Err NotSession) ≡ (cond t (after_magic start bytes) (Err NotSession) >>= λ rest. Ok (rest ++ more))
magic_on true start bytes more e = e
magic_on false start bytes more e = refl

magic_known : (start bytes more : List ℕ) → length start ≤ length bytes → after_magic start (bytes ++ more) ≡ (after_magic start bytes >>= λ rest. Ok (rest ++ more))
unfolding after_magic
magic_known [] bytes more h = refl
magic_known (byte ∷ start) [] more h = absurd (omega arith)
magic_known (byte ∷ start) (first ∷ bytes) more h = magic_on (first == byte) start bytes more (magic_known start bytes more (omega arith))

magic_taken : (start bytes rest : List ℕ) → after_magic start bytes ≡ Ok rest → length bytes ≡ length start + length rest
unfolding after_magic
magic_taken [] bytes rest e = let same = ap (λ (xs : List ℕ). length xs) (ok_is bytes rest e) in omega arith
magic_taken (byte ∷ start) [] rest e = absurd cc
magic_taken (byte ∷ start) (first ∷ bytes) rest e =
    let g = end_ok (first == byte) NotSession (after_magic start bytes) rest e in
    let left = magic_taken start bytes rest g.1 in
    omega arith

-- how many blocks the image has
counted_known : (count : Option ℕ) (bytes more : List ℕ)
    → (or_not_session count >>= λ blocks. let r : ReadPart ℕ = Ok (blocks, bytes ++ more) in r)
    ≡ before_rest more (or_not_session count >>= λ blocks. let r : ReadPart ℕ = Ok (blocks, bytes) in r)
counted_known (Some blocks) bytes more = refl
counted_known None bytes more = refl

count_known : KnownBy 1 block_count_at
unfolding block_count_at
count_known [] more h = absurd (omega arith)
count_known (tracks ∷ bytes) more h = counted_known (blocks_of tracks) bytes more

count_within : (count : Option ℕ) (bytes : List ℕ) (x : ℕ × List ℕ) → (let r : ReadPart ℕ = (or_not_session count >>= λ blocks. Ok (blocks, bytes)) in r) ≡ Ok x
    → (count ≡ Some x.0) × (bytes ≡ x.1)
count_within (Some blocks) bytes x e = let same = ok_is (blocks, bytes) x e in (ap (λ (p : ℕ × List ℕ). Some p.0) same, ap (λ (p : ℕ × List ℕ). p.1) same)
count_within None bytes x e = absurd cc

few_of : (t u : Bool) (blocks : ℕ) → cond t (Some 683) (cond u (Some 768) None) ≡ Some blocks → blocks ≤ 768
few_of true u blocks e = let same : 683 ≡ blocks = cc in omega arith
few_of false true blocks e = let same : 768 ≡ blocks = cc in omega arith
few_of false false blocks e = absurd cc

few : (tracks blocks : ℕ) → blocks_of tracks ≡ Some blocks → blocks ≤ 768
few tracks blocks e = few_of (tracks == 35) (tracks == 40) blocks e

count_taken : (bytes : List ℕ) (x : ℕ × List ℕ) → block_count_at bytes ≡ Ok x → (length bytes ≤ 1 + length x.1) × (x.0 ≤ 768)
unfolding block_count_at
count_taken [] x e = absurd cc
count_taken (tracks ∷ bytes) x e =
    let w = count_within (blocks_of tracks) bytes x e in
    let same = ap (λ (xs : List ℕ). length xs) w.1 in
    (omega arith, few tracks x.0 w.0)

abbrev with_image : ℕ → List ℕ × List ℕ → ReadPart Disk
with_image blocks content = Ok (first_chunks BLOCK_BYTES blocks content.0, content.1)

image_on : (blocks : ℕ) (more : List ℕ) (reading : ReadPart (List ℕ)) → (before_rest more reading >>= with_image blocks) ≡ before_rest more (reading >>= with_image blocks)
image_on blocks more (Ok x) = refl
image_on blocks more (Err fault) = refl

-- the bytes of the image
content_of : ℕ × List ℕ → ReadPart Disk
content_of blocks = bytes_at (blocks.0 * BLOCK_BYTES) blocks.1 >>= with_image blocks.0

content_after : (more : List ℕ) (reading : ReadPart ℕ) → ((x : ℕ × List ℕ) → reading ≡ Ok x → x.0 * BLOCK_BYTES ≤ length x.1)
    → (before_rest more reading >>= content_of) ≡ before_rest more (reading >>= content_of)
unfolding content_of
content_after more (Ok x) long =
    ap (λ (r : ReadPart (List ℕ)). r >>= with_image x.0) (bytes_known (x.0 * BLOCK_BYTES) x.1 more (long x refl))
    ∙ image_on x.0 more (bytes_at (x.0 * BLOCK_BYTES) x.1)
content_after more (Err fault) long = refl

after_start : (more : List ℕ) (reading : Result (List ℕ) ResumeFault) → ((rest : List ℕ) → reading ≡ Ok rest → 196609 ≤ length rest)
    → ((reading >>= λ rest. Ok (rest ++ more)) >>= λ rest. block_count_at rest >>= content_of)
    ≡ before_rest more (reading >>= λ rest. block_count_at rest >>= content_of)
after_start more (Ok rest) long =
    let enough = long rest refl in
    ap (λ (r : ReadPart ℕ). r >>= content_of) (count_known rest more (omega arith))
    ∙ content_after more (block_count_at rest) (λ x e. let taken = count_taken rest x e in omega arith)
after_start more (Err fault) long = refl

-- the beginning and the image: of 768 blocks at most
pub image_known : KnownBy 196613 image_at
unfolding image_at content_of
image_known bytes more h =
    ap (λ (r : Result (List ℕ) ResumeFault). r >>= λ rest. block_count_at rest >>= content_of) (magic_known magic bytes more (omega arith))
    ∙ after_start more (after_magic magic bytes) (λ rest e. let taken = magic_taken magic bytes rest e in omega arith)

-- how many records are done, and how many there are
abbrev counted : ℕ → ℕ × List ℕ → ReadPart (ℕ × ℕ)
counted done count = cond (nat_lt count.0 done) (Err BadCursor) (Ok ((done, count.0), count.1))

counted_ok : (t : Bool) (done : ℕ) (more : List ℕ) (count : ℕ × List ℕ)
    → (let r : ReadPart (ℕ × ℕ) = cond t (Err BadCursor) (Ok ((done, count.0), count.1 ++ more)) in r)
    ≡ before_rest more (cond t (Err BadCursor) (Ok ((done, count.0), count.1)))
counted_ok true done more count = refl
counted_ok false done more count = refl

counted_on : (done : ℕ) (more : List ℕ) (reading : ReadPart ℕ) → (before_rest more reading >>= counted done) ≡ before_rest more (reading >>= counted done)
counted_on done more (Ok x) = counted_ok (nat_lt x.0 done) done more x
counted_on done more (Err fault) = refl

pub counts_known : KnownBy 16 counts_at
unfolding counts_at
counts_known bytes more h =
    then_known 8 8 8 (number_at w64) (λ done bytes. number_at w64 bytes >>= counted done) (number_known w64) (number_taken w64)
    (λ done bytes more h. ap (λ (r : ReadPart ℕ). r >>= counted done) (number_known w64 bytes more h) ∙ counted_on done more (number_at w64 bytes))
    (omega arith) bytes more (omega arith)

-- no more bytes are taken
pub image_taken : Takes 196613 image_at
unfolding image_at content_of
image_taken bytes x e =
    let start = bind_ok (after_magic magic bytes) (λ rest. block_count_at rest >>= content_of) x e in
    let count = bind_ok (block_count_at start.0) content_of x start.2 in
    let content = bind_ok (bytes_at (count.0.0 * BLOCK_BYTES) count.0.1) (with_image count.0.0) x count.2 in
    let same = ap (λ (p : Disk × List ℕ). length p.1) (ok_is (first_chunks BLOCK_BYTES count.0.0 content.0.0, content.0.1) x content.2) in
    let begun = magic_taken magic bytes start.0 start.1 in
    let counted = count_taken start.0 count.0 count.1 in
    let own = bytes_taken (count.0.0 * BLOCK_BYTES) count.0.1 content.0 content.1 in
    omega arith
