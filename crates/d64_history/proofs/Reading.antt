-- reading part after part, as the code does
use Rattle.std.proofs.Common.{◌≡◌, ℕ, suc, ◌+◌, ◌-◌, ◌<◌, ◌≤◌, ◌==◌, cond, Bool, true, false, ◌&&◌, ◌||◌, not, nat_lt, List, [], ◌∷◌, ◌++◌, length, get_or, reverse, take, drop, Result, Ok, Err, refl, sym, ap, ap₂, ◌∙◌, subst, arith, append_assoc, eq-eqb}
use Rattle.std.proofs.lemmas.Bool.{ltb-false, ltb-true, ne_eqb}
use Rattle.std.proofs.lemmas.List.{append-nil, drop_more, take_more, nil_from_length, length-reverse, length-take-le, length-drop, reverse-append}
use Rattle.std.specs.Int.{w16}
use Rattle.d64_image.specs.declared.image.TheConstants.{BLOCK_BYTES}
use Rattle.d64_image.specs.Patch.{Kept, RisesBetween, restored_image}
use Rattle.d64_history.specs.ResumeFault.{◌>>=◌, ReadPart, bytes_at, number_at, after_magic, index_at, read_block_at, blocks_at, record_file_at, records_at, all_differ, differ_along}
use Rattle.d64_history.specs.Resuming.{Fails, on_side}
use Rattle.d64_history.specs.declared.resume_fault.ResumeFault.{ResumeFault}
use Rattle.d64_history.specs.declared.resume_fault.ResumeFault.TheVariants.{NotSession, Truncated, Trailing, BadCursor, BadRecord, Memory}
use Rattle.d64_history.proofs.FilesTaken.{bind_ok, guard_ok, ok_is, either_false}

-- a fault ends the reading
pub fails_then : {A B : Type 0} (fault : ResumeFault) (reading : Result A ResumeFault) (next : A → Result B ResumeFault)
    → Fails fault reading → Fails fault (reading >>= next)
fails_then NotSession reading next e = ap (λ (r : Result _ ResumeFault). r >>= next) e
fails_then Truncated reading next e = ap (λ (r : Result _ ResumeFault). r >>= next) e
fails_then Trailing reading next e = ap (λ (r : Result _ ResumeFault). r >>= next) e
fails_then BadCursor reading next e = ap (λ (r : Result _ ResumeFault). r >>= next) e
fails_then BadRecord reading next e = ap (λ (r : Result _ ResumeFault). r >>= next) e
fails_then (Memory error) reading next e = tt

-- and is the result
pub fails_out : {A : Type 0} (fault decided : ResumeFault) (reading : Result A ResumeFault) → decided ≡ fault → Fails fault reading → Fails decided reading
fails_out fault decided reading e f = subst (λ (x : ResumeFault). Fails x reading) (sym e) f

-- one byte more of the beginning
magic_step : (start : List ℕ) (i first : ℕ) (rest after : List ℕ) → i < length start → rest ≡ first ∷ after
    → after_magic (drop i start) rest ≡ cond (first == get_or start i 0) (after_magic (drop (i + 1) start) after) (Err NotSession)
unfolding after_magic
magic_step start i first rest after h e = ap₂ (λ (s r : List ℕ). after_magic s r) (drop_more start i 0 h) e

pub magic_right : (start : List ℕ) (i first : ℕ) (rest after : List ℕ) → i < length start → rest ≡ first ∷ after → first ≡ get_or start i 0
    → after_magic (drop i start) rest ≡ after_magic (drop (i + 1) start) after
magic_right start i first rest after h e same =
    magic_step start i first rest after h e
    ∙ ap (λ (t : Bool). cond t (after_magic (drop (i + 1) start) after) (Err NotSession)) (eq-eqb first (get_or start i 0) same)

pub magic_wrong : (start : List ℕ) (i first : ℕ) (rest after : List ℕ) → i < length start → rest ≡ first ∷ after → (first ≡ get_or start i 0 → ⊥)
    → after_magic (drop i start) rest ≡ Err NotSession
magic_wrong start i first rest after h e other =
    magic_step start i first rest after h e
    ∙ ap (λ (t : Bool). cond t (after_magic (drop (i + 1) start) after) (Err NotSession)) (ne_eqb first (get_or start i 0) other)

pub magic_ends : (start rest : List ℕ) (i : ℕ) → i < length start → length rest ≡ 0 → after_magic (drop i start) rest ≡ Err Truncated
unfolding after_magic
magic_ends start rest i h none = ap₂ (λ (s r : List ℕ). after_magic s r) (drop_more start i 0 h) (nil_from_length rest none)

-- ---- records that lead away

-- a record with a block that doesn't differ
pub differ_ends : (list records : List Kept) (image : List (List ℕ)) (patch : Kept) → list ≡ patch ∷ records
    → false ≡ all_differ image patch → false ≡ differ_along image list
unfolding differ_along
differ_ends list records image patch is e =
    ap (λ (t : Bool). t && differ_along (restored_image image patch) records) e ∙ sym (ap (differ_along image) is)

-- a record whose blocks differ
pub differ_on : (list records : List Kept) (image : List (List ℕ)) (patch : Kept) → list ≡ patch ∷ records
    → true ≡ all_differ image patch → differ_along (restored_image image patch) records ≡ differ_along image list
unfolding differ_along
differ_on list records image patch is e =
    ap (λ (t : Bool). t && differ_along (restored_image image patch) records) e ∙ sym (ap (differ_along image) is)

pub differ_all : (list : List Kept) (image : List (List ℕ)) → length list ≡ 0 → true ≡ differ_along image list
unfolding differ_along
differ_all list image none = sym (ap (differ_along image) (nil_from_length list none))

-- ---- records on one side of a place

pub length-on_side : (is_back : Bool) (records : List Kept) (n : ℕ) → n ≤ length records
    → length (on_side is_back records n) ≡ cond is_back n (length records - n)
length-on_side true records n h = length-reverse (take n records) ∙ length-take-le n records h
length-on_side false records n h = length-drop n records

-- the first of those before it
pub back-next : (records : List Kept) (n r : ℕ) → r + 1 ≡ n → n ≤ length records
    → on_side true records n ≡ get_or records r [] ∷ on_side true records r
back-next records n r is h =
    ap (λ (k : ℕ). reverse (take k records)) (sym is)
    ∙ ap reverse (take_more records r [] (omega arith))
    ∙ reverse-append (take r records) (get_or records r [] ∷ [])

-- and of those after it
pub on-next : (records : List Kept) (n next : ℕ) → next ≡ n + 1 → n < length records
    → on_side false records n ≡ get_or records n [] ∷ on_side false records next
on-next records n next is h = drop_more records n [] h ∙ ap (λ (k : ℕ). get_or records n [] ∷ drop k records) (sym is)

-- ---- loops over what is counted

-- what was read before, and what is still read
abbrev pub with_front : {A : Type 0} → List A → ReadPart (List A) → ReadPart (List A)
with_front front reading = reading >>= λ read. Ok (front ++ read.0, read.1)

regroup : {A : Type 0} (front : List A) (one : A) (reading : ReadPart (List A))
    → with_front front (reading >>= λ read. Ok (one ∷ read.0, read.1)) ≡ with_front (front ++ one ∷ []) reading
regroup front one (Ok read) = ap (λ (list : List _). Ok (list, read.1)) (sym (append_assoc front (one ∷ []) read.0))
regroup front one (Err fault) = refl

-- a record more
pub records_on : (front : List Kept) (blocks count i : ℕ) (bytes : List ℕ) (one : Kept) (after : List ℕ) (total : ReadPart (List Kept)) → i < count
    → record_file_at blocks bytes ≡ Ok (one, after) → with_front front (records_at blocks (count - i) bytes) ≡ total
    → with_front (front ++ one ∷ []) (records_at blocks (count - (i + 1)) after) ≡ total
unfolding records_at
records_on front blocks count i bytes one after total h read so_far =
    let k : count - i ≡ suc (count - (i + 1)) = omega arith in
    let next : with_front front (records_at blocks (count - i) bytes) ≡ with_front (front ++ one ∷ []) (records_at blocks (count - (i + 1)) after) =
    rw (k, read) (regroup front one (records_at blocks (count - (i + 1)) after)) in
    sym next ∙ so_far

-- a fault in a record
pub records_end : (fault : ResumeFault) (front : List Kept) (blocks count i : ℕ) (bytes : List ℕ) (total : ReadPart (List Kept)) → i < count
    → Fails fault (record_file_at blocks bytes) → with_front front (records_at blocks (count - i) bytes) ≡ total → Fails fault total
unfolding records_at
records_end fault front blocks count i bytes total h read so_far =
    let k : count - i ≡ suc (count - (i + 1)) = omega arith in
    let one : Fails fault (records_at blocks (suc (count - (i + 1))) bytes) =
    fails_then fault (record_file_at blocks bytes) (λ first. records_at blocks (count - (i + 1)) first.1 >>= λ others. Ok (first.0 ∷ others.0, others.1)) read in
    let all : Fails fault (with_front front (records_at blocks (suc (count - (i + 1))) bytes)) =
    fails_then fault (records_at blocks (suc (count - (i + 1))) bytes) (λ list. Ok (front ++ list.0, list.1)) one in
    subst (λ (r : ReadPart (List Kept)). Fails fault r) (ap (λ (n : ℕ). with_front front (records_at blocks n bytes)) (sym k) ∙ so_far) all

pub records_all_read : (front : List Kept) (blocks count i : ℕ) (bytes : List ℕ) (total : ReadPart (List Kept)) → count ≤ i
    → with_front front (records_at blocks (count - i) bytes) ≡ total → total ≡ Ok (front, bytes)
unfolding records_at
records_all_read front blocks count i bytes total h so_far =
    let k : count - i ≡ 0 = omega arith in
    let one : with_front front (records_at blocks (count - i) bytes) ≡ Ok (front, bytes) = rw k (ap (λ (list : List Kept). Ok (list, bytes)) (append-nil front)) in
    sym so_far ∙ one

-- a block more
pub blocks_on : (front : Kept) (blocks count i low : ℕ) (bytes : List ℕ) (one : ℕ × List ℕ) (after : List ℕ) (total : ReadPart Kept) → i < count
    → read_block_at blocks low bytes ≡ Ok (one, after) → with_front front (blocks_at blocks (count - i) low bytes) ≡ total
    → with_front (front ++ one ∷ []) (blocks_at blocks (count - (i + 1)) (one.0 + 1) after) ≡ total
unfolding blocks_at
blocks_on front blocks count i low bytes one after total h read so_far =
    let k : count - i ≡ suc (count - (i + 1)) = omega arith in
    let next : with_front front (blocks_at blocks (count - i) low bytes) ≡ with_front (front ++ one ∷ []) (blocks_at blocks (count - (i + 1)) (one.0 + 1) after) =
    rw (k, read) (regroup front one (blocks_at blocks (count - (i + 1)) (one.0 + 1) after)) in
    sym next ∙ so_far

-- a fault in a block
pub blocks_end : (fault : ResumeFault) (front : Kept) (blocks count i low : ℕ) (bytes : List ℕ) (total : ReadPart Kept) → i < count
    → Fails fault (read_block_at blocks low bytes) → with_front front (blocks_at blocks (count - i) low bytes) ≡ total → Fails fault total
unfolding blocks_at
blocks_end fault front blocks count i low bytes total h read so_far =
    let k : count - i ≡ suc (count - (i + 1)) = omega arith in
    let one : Fails fault (blocks_at blocks (suc (count - (i + 1))) low bytes) =
    fails_then fault (read_block_at blocks low bytes) (λ first. blocks_at blocks (count - (i + 1)) (first.0.0 + 1) first.1 >>= λ others. Ok (first.0 ∷ others.0, others.1)) read in
    let all : Fails fault (with_front front (blocks_at blocks (suc (count - (i + 1))) low bytes)) =
    fails_then fault (blocks_at blocks (suc (count - (i + 1))) low bytes) (λ list. Ok (front ++ list.0, list.1)) one in
    subst (λ (r : ReadPart Kept). Fails fault r) (ap (λ (n : ℕ). with_front front (blocks_at blocks n low bytes)) (sym k) ∙ so_far) all

pub blocks_all_read : (front : Kept) (blocks count i low : ℕ) (bytes : List ℕ) (total : ReadPart Kept) → count ≤ i
    → with_front front (blocks_at blocks (count - i) low bytes) ≡ total → total ≡ Ok (front, bytes)
unfolding blocks_at
blocks_all_read front blocks count i low bytes total h so_far =
    let k : count - i ≡ 0 = omega arith in
    let one : with_front front (blocks_at blocks (count - i) low bytes) ≡ Ok (front, bytes) = rw k (ap (λ (list : Kept). Ok (list, bytes)) (append-nil front)) in
    sym so_far ∙ one

-- blocks that lie below one lie below each above it
pub rises_higher : (patch : Kept) (low high higher : ℕ) → RisesBetween low high patch → high ≤ higher → RisesBetween low higher patch
unfolding RisesBetween
rises_higher [] low high higher r h = tt
rises_higher (entry ∷ patch) low high higher r h = let below = r.1 in (r.0, omega arith, rises_higher patch (entry.0 + 1) high higher r.2 h)

-- where a block that was read lies
index_within : (blocks low : ℕ) (bytes : List ℕ) (x : ℕ × List ℕ) → index_at blocks low bytes ≡ Ok x → (low ≤ x.0) × (x.0 < blocks)
unfolding index_at
index_within blocks low bytes x e =
    let a = bind_ok (number_at w16 bytes) (λ index. cond (nat_lt index.0 low || not (nat_lt index.0 blocks)) (Err BadRecord) (Ok index)) x e in
    let g = guard_ok (nat_lt a.0.0 low || not (nat_lt a.0.0 blocks)) BadRecord (Ok a.0) x a.2 in
    let sides = either_false (nat_lt a.0.0 low) (nat_lt a.0.0 blocks) g.0 in
    subst (λ (y : ℕ × List ℕ). (low ≤ y.0) × (y.0 < blocks)) (ok_is a.0 x g.1) (ltb-false _ _ sides.0, ltb-true _ _ sides.1)

pub block_within : (blocks low : ℕ) (bytes : List ℕ) (x : (ℕ × List ℕ) × List ℕ) → read_block_at blocks low bytes ≡ Ok x → (low ≤ x.0.0) × (x.0.0 < blocks)
unfolding read_block_at
block_within blocks low bytes x e =
    let a = bind_ok (index_at blocks low bytes) (λ index. bytes_at BLOCK_BYTES index.1 >>= λ content. Ok ((index.0, content.0), content.1)) x e in
    let b = bind_ok (bytes_at BLOCK_BYTES a.0.1) (λ content. Ok ((a.0.0, content.0), content.1)) x a.2 in
    let made : (ℕ × List ℕ) × List ℕ = ((a.0.0, b.0.0), b.0.1) in
    subst (λ (y : (ℕ × List ℕ) × List ℕ). (low ≤ y.0.0) × (y.0.0 < blocks)) (ok_is made x b.2) (index_within blocks low bytes a.0 a.1)

-- nothing was read before
whole : (reading : ReadPart Kept) → with_front [] reading ≡ reading
whole (Ok read) = refl
whole (Err fault) = refl

pub blocks_whole : (front : Kept) (blocks count low : ℕ) (bytes : List ℕ) → front ≡ [] → with_front front (blocks_at blocks (count - 0) low bytes) ≡ blocks_at blocks count low bytes
blocks_whole front blocks count low bytes e =
    let all : count - 0 ≡ count = omega arith in
    ap₂ (λ (kept : Kept) (n : ℕ). with_front kept (blocks_at blocks n low bytes)) e all ∙ whole (blocks_at blocks count low bytes)

pub rises_none : (patch : Kept) (low high : ℕ) → patch ≡ [] → RisesBetween low high patch
unfolding RisesBetween
rises_none patch low high e = subst (RisesBetween low high) (sym e) tt
