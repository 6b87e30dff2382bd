-- what is read from a session file is what the file says
use Rattle.std.proofs.Common.{◌≡◌, ℕ, zero, suc, ◌+◌, ◌*◌, ◌<◌, ◌≤◌, ◌^◌, ◌==◌, ◌||◌, Bool, true, false, cond, not, nat_lt, List, [], ◌∷◌, ◌++◌, length, get_or, take, drop, Some, None, Result, Ok, Err, refl, sym, ap, ap₂, ◌∙◌, subst, inl, inr, arith, append_assoc, eqb-true}
use Rattle.std.specs.Int.{w16, w64, byte_len, from_le_bytes, to_le_bytes}
use Rattle.std.specs.List.{All, flat_map}
use Rattle.std.specs.Simd.{first_chunks}
use Rattle.std.proofs.lemmas.Bool.{cases_lt, ltb-false, ltb-true}
use Rattle.std.proofs.lemmas.List.{take-append-drop, length-take-le, length-drop, get_or_past, append-nil, nil_from_length}
use Rattle.std.proofs.lemmas.List.Elements.{All-nil, All-cons, All-tail, All-take, All-drop}
use Rattle.std.proofs.lemmas.Nat.{le_bytes_2, le_bytes_8}
use Rattle.d64_image.specs.declared.image.TheConstants.{BLOCK_BYTES}
use Rattle.d64_image.specs.Disk.{AreBytes}
use Rattle.d64_image.specs.Image.{IsBlock, IsSize, IsImage, blocks_of, tracks_of, bytes_of}
use Rattle.d64_image.specs.Patch.{Kept, RisesBetween, HaveBlocks}
use Rattle.d64_history.specs.SessionFile.{magic, block_file, record_file, file_with}
use Rattle.d64_history.specs.ResumeFault.{◌>>=◌, bytes_at, number_at, after_magic, or_not_session, block_count_at, image_at, counts_at, index_at, read_block_at, blocks_at, record_file_at, records_at, Parts, parts_at}
use Rattle.d64_history.specs.declared.resume_fault.ResumeFault.{ResumeFault}
use Rattle.d64_history.specs.declared.resume_fault.ResumeFault.TheVariants.{NotSession, Truncated, Trailing, BadCursor, BadRecord}

each-byte : (bytes : List ℕ) → AreBytes bytes → (i : ℕ) → get_or bytes i 0 < 256
each-byte bytes are i = elim (cases_lt i (length bytes)) [
  | inl lt ↦ are i 0 lt
  | inr le ↦ rw (get_or_past bytes i 0 le) (omega arith)
]

-- the part that was read without fault, and what was read after it
pub bind_ok : {A B : Type 0} (r : Result A ResumeFault) (next : A → Result B ResumeFault) (y : B) → (r >>= next) ≡ Ok y → (x : A) × (r ≡ Ok x) × (next x ≡ Ok y)
bind_ok (Ok x) next y e = (x, refl, e)
bind_ok (Err fault) next y e = absurd cc

abbrev without_fault : {A : Type 0} → A → Result A ResumeFault
without_fault x = Ok x

pub ok_is : {A : Type 0} (x y : A) → without_fault x ≡ without_fault y → x ≡ y
ok_is x y e = cc

-- a fault that was not met
pub guard_ok : {A : Type 0} (t : Bool) (fault : ResumeFault) (r : Result A ResumeFault) (y : A) → cond t (Err fault) r ≡ Ok y → (t ≡ false) × (r ≡ Ok y)
guard_ok true fault r y e = absurd cc
guard_ok false fault r y e = (refl, e)

pub end_ok : {A : Type 0} (t : Bool) (fault : ResumeFault) (r : Result A ResumeFault) (y : A) → cond t r (Err fault) ≡ Ok y → (t ≡ true) × (r ≡ Ok y)
end_ok true fault r y e = (refl, e)
end_ok false fault r y e = absurd cc

-- what was read from the front
pub record Takes (bytes text rest : List ℕ) : Type 0 where
  pub parts : bytes ≡ text ++ rest
  pub left : AreBytes rest

Takes-then : (a x b y c : List ℕ) → Takes a x b → Takes b y c → Takes a (x ++ y) c
Takes-then a x b y c p q = record { parts = p.parts ∙ ap (λ (t : List ℕ). x ++ t) q.parts ∙ sym (append_assoc x y c); left = q.left }

-- ---- bytes and numbers

bytes_take : (n : ℕ) (bytes : List ℕ) (x : List ℕ × List ℕ) → AreBytes bytes → bytes_at n bytes ≡ Ok x
    → Takes bytes x.0 x.1 × (length x.0 ≡ n) × AreBytes x.0
bytes_take n bytes x are e =
    let g = guard_ok (nat_lt (length bytes) n) Truncated (Ok (take n bytes, drop n bytes)) x e in
    let long : n ≤ length bytes = ltb-false _ _ g.0 in
    subst (λ (y : List ℕ × List ℕ). Takes bytes y.0 y.1 × (length y.0 ≡ n) × AreBytes y.0) (ok_is (take n bytes, drop n bytes) x g.1) (
      record { parts = sym (take-append-drop n bytes); left = All-drop (λ (b : ℕ). b < 256) n bytes are },
      length-take-le n bytes long,
      All-take (λ (b : ℕ). b < 256) n bytes are,
    )

two_take : (bytes : List ℕ) (x : ℕ × List ℕ) → AreBytes bytes → number_at w16 bytes ≡ Ok x → Takes bytes (to_le_bytes w16 x.0) x.1 × (x.0 < 2 ^ 16)
two_take bytes x are e =
    let b = bind_ok (bytes_at (byte_len w16) bytes) (λ digits. Ok (from_le_bytes w16 digits.0, digits.1)) x e in
    let t = bytes_take (byte_len w16) bytes b.0 are b.1 in
    let fits = each-byte b.0.0 t.2 in
    let again = le_bytes_2 b.0.0 (from_le_bytes w16 b.0.0) t.1 fits refl in
    let made : ℕ × List ℕ = (from_le_bytes w16 b.0.0, b.0.1) in
    subst (λ (y : ℕ × List ℕ). Takes bytes (to_le_bytes w16 y.0) y.1 × (y.0 < 2 ^ 16)) (ok_is made x b.2)
    (record { parts = t.0.parts ∙ ap (λ (text : List ℕ). text ++ b.0.1) (sym again); left = t.0.left }, omega (arith, fits 0, fits 1))

eight_take : (bytes : List ℕ) (x : ℕ × List ℕ) → AreBytes bytes → number_at w64 bytes ≡ Ok x → Takes bytes (to_le_bytes w64 x.0) x.1 × (x.0 < 2 ^ 64)
eight_take bytes x are e =
    let b = bind_ok (bytes_at (byte_len w64) bytes) (λ digits. Ok (from_le_bytes w64 digits.0, digits.1)) x e in
    let t = bytes_take (byte_len w64) bytes b.0 are b.1 in
    let fits = each-byte b.0.0 t.2 in
    let again = le_bytes_8 b.0.0 (from_le_bytes w64 b.0.0) t.1 fits refl in
    let made : ℕ × List ℕ = (from_le_bytes w64 b.0.0, b.0.1) in
    subst (λ (y : ℕ × List ℕ). Takes bytes (to_le_bytes w64 y.0) y.1 × (y.0 < 2 ^ 64)) (ok_is made x b.2) (
      record { parts = t.0.parts ∙ ap (λ (text : List ℕ). text ++ b.0.1) (sym again); left = t.0.left },
      omega (arith, fits 0, fits 1, fits 2, fits 3, fits 4, fits 5, fits 6, fits 7),
    )

-- ---- records

pub either_false : (t u : Bool) → (t || not u) ≡ false → (t ≡ false) × (u ≡ true)
either_false true u e = absurd cc
either_false false true e = (refl, refl)
either_false false false e = absurd cc

-- a block that a record of an image of n blocks can have
abbrev IsEntry : ℕ → ℕ → ℕ × List ℕ → Type 0
IsEntry blocks low entry = (low ≤ entry.0) × (entry.0 < blocks) × IsBlock entry.1

index_takes : (blocks low : ℕ) (bytes : List ℕ) (x : ℕ × List ℕ) → AreBytes bytes → index_at blocks low bytes ≡ Ok x
    → Takes bytes (to_le_bytes w16 x.0) x.1 × (low ≤ x.0) × (x.0 < blocks)
unfolding index_at
index_takes blocks low bytes x are e =
    let a = bind_ok (number_at w16 bytes) (λ index. cond (nat_lt index.0 low || not (nat_lt index.0 blocks)) (Err BadRecord) (Ok index)) x e in
    let g = guard_ok (nat_lt a.0.0 low || not (nat_lt a.0.0 blocks)) BadRecord (Ok a.0) x a.2 in
    let sides = either_false (nat_lt a.0.0 low) (nat_lt a.0.0 blocks) g.0 in
    subst (λ (y : ℕ × List ℕ). Takes bytes (to_le_bytes w16 y.0) y.1 × (low ≤ y.0) × (y.0 < blocks)) (ok_is a.0 x g.1)
    ((two_take bytes a.0 are a.1).0, ltb-false _ _ sides.0, ltb-true _ _ sides.1)

block_takes : (blocks low : ℕ) (bytes : List ℕ) (x : (ℕ × List ℕ) × List ℕ) → AreBytes bytes → read_block_at blocks low bytes ≡ Ok x
    → Takes bytes (block_file x.0) x.1 × IsEntry blocks low x.0
unfolding read_block_at
block_takes blocks low bytes x are e =
    let a = bind_ok (index_at blocks low bytes) (λ index. bytes_at BLOCK_BYTES index.1 >>= λ content. Ok ((index.0, content.0), content.1)) x e in
    let b = bind_ok (bytes_at BLOCK_BYTES a.0.1) (λ content. Ok ((a.0.0, content.0), content.1)) x a.2 in
    let first = index_takes blocks low bytes a.0 are a.1 in
    let second = bytes_take BLOCK_BYTES a.0.1 b.0 first.0.left b.1 in
    let made : (ℕ × List ℕ) × List ℕ = ((a.0.0, b.0.0), b.0.1) in
    subst (λ (y : (ℕ × List ℕ) × List ℕ). Takes bytes (block_file y.0) y.1 × IsEntry blocks low y.0) (ok_is made x b.2)
    (Takes-then bytes (to_le_bytes w16 a.0.0) a.0.1 b.0.0 b.0.1 first.0 second.0, (first.1, first.2, (second.1, second.2)))

-- a record of an image of n blocks
abbrev pub IsRecordOf : ℕ → ℕ → Kept → Type 0
IsRecordOf blocks low patch = RisesBetween low blocks patch × HaveBlocks patch

rises-cons : (blocks low : ℕ) (entry : ℕ × List ℕ) (patch : Kept) → IsEntry blocks low entry → IsRecordOf blocks (entry.0 + 1) patch → IsRecordOf blocks low (entry ∷ patch)
unfolding RisesBetween
rises-cons blocks low entry patch is rest = ((is.0, is.1, rest.0), All-cons (λ (e : ℕ × List ℕ). IsBlock e.1) entry patch is.2 rest.1)

rises-nil : (blocks low : ℕ) → IsRecordOf blocks low []
unfolding RisesBetween
rises-nil blocks low = (tt, All-nil (λ (e : ℕ × List ℕ). IsBlock e.1))

blocks_take : (n blocks low : ℕ) (bytes : List ℕ) (x : Kept × List ℕ) → AreBytes bytes → blocks_at blocks n low bytes ≡ Ok x
    → Takes bytes (flat_map block_file x.0) x.1 × (length x.0 ≡ n) × IsRecordOf blocks low x.0
unfolding blocks_at
blocks_take zero blocks low bytes x are e =
    let made : Kept × List ℕ = ([], bytes) in
    subst (λ (y : Kept × List ℕ). Takes bytes (flat_map block_file y.0) y.1 × (length y.0 ≡ 0) × IsRecordOf blocks low y.0) (ok_is made x e)
    (record { parts = refl; left = are }, refl, rises-nil blocks low)
blocks_take (suc n) blocks low bytes x are e =
    let a = bind_ok (read_block_at blocks low bytes) (λ first. blocks_at blocks n (first.0.0 + 1) first.1 >>= λ others. Ok (first.0 ∷ others.0, others.1)) x e in
    let b = bind_ok (blocks_at blocks n (a.0.0.0 + 1) a.0.1) (λ others. Ok (a.0.0 ∷ others.0, others.1)) x a.2 in
    let first = block_takes blocks low bytes a.0 are a.1 in
    let second = blocks_take n blocks (a.0.0.0 + 1) a.0.1 b.0 first.0.left b.1 in
    let made : Kept × List ℕ = (a.0.0 ∷ b.0.0, b.0.1) in
    subst (λ (y : Kept × List ℕ). Takes bytes (flat_map block_file y.0) y.1 × (length y.0 ≡ suc n) × IsRecordOf blocks low y.0) (ok_is made x b.2) (
      Takes-then bytes (block_file a.0.0) a.0.1 (flat_map block_file b.0.0) b.0.1 first.0 second.0,
      ap suc second.1,
      rises-cons blocks low a.0.0 b.0.0 first.1 second.2,
    )

pub record_takes : (blocks : ℕ) (bytes : List ℕ) (x : Kept × List ℕ) → AreBytes bytes → record_file_at blocks bytes ≡ Ok x
    → Takes bytes (record_file x.0) x.1 × IsRecordOf blocks 0 x.0
unfolding record_file_at
record_takes blocks bytes x are e =
    let a = bind_ok (number_at w16 bytes) (λ count. blocks_at blocks count.0 0 count.1) x e in
    let first = two_take bytes a.0 are a.1 in
    let second = blocks_take a.0.0 blocks 0 a.0.1 x first.0.left a.2 in
    let whole = Takes-then bytes (to_le_bytes w16 a.0.0) a.0.1 (flat_map block_file x.0) x.1 first.0 second.0 in
    (subst (λ (n : ℕ). Takes bytes (to_le_bytes w16 n ++ flat_map block_file x.0) x.1) (sym second.1) whole, second.2)

records_take : (n blocks : ℕ) (bytes : List ℕ) (x : List Kept × List ℕ) → AreBytes bytes → records_at blocks n bytes ≡ Ok x
    → Takes bytes (flat_map record_file x.0) x.1 × (length x.0 ≡ n) × All (IsRecordOf blocks 0) x.0
unfolding records_at
records_take zero blocks bytes x are e =
    let made : List Kept × List ℕ = ([], bytes) in
    subst (λ (y : List Kept × List ℕ). Takes bytes (flat_map record_file y.0) y.1 × (length y.0 ≡ 0) × All (IsRecordOf blocks 0) y.0) (ok_is made x e)
    (record { parts = refl; left = are }, refl, All-nil (IsRecordOf blocks 0))
records_take (suc n) blocks bytes x are e =
    let a = bind_ok (record_file_at blocks bytes) (λ first. records_at blocks n first.1 >>= λ others. Ok (first.0 ∷ others.0, others.1)) x e in
    let b = bind_ok (records_at blocks n a.0.1) (λ others. Ok (a.0.0 ∷ others.0, others.1)) x a.2 in
    let first = record_takes blocks bytes a.0 are a.1 in
    let second = records_take n blocks a.0.1 b.0 first.0.left b.1 in
    let made : List Kept × List ℕ = (a.0.0 ∷ b.0.0, b.0.1) in
    subst (λ (y : List Kept × List ℕ). Takes bytes (flat_map record_file y.0) y.1 × (length y.0 ≡ suc n) × All (IsRecordOf blocks 0) y.0) (ok_is made x b.2) (
      Takes-then bytes (record_file a.0.0) a.0.1 (flat_map record_file b.0.0) b.0.1 first.0 second.0,
      ap suc second.1,
      All-cons (IsRecordOf blocks 0) a.0.0 b.0.0 first.1 second.2,
    )

-- ---- the beginning and the image

magic_takes : (start bytes rest : List ℕ) → AreBytes bytes → after_magic start bytes ≡ Ok rest → Takes bytes start rest
unfolding after_magic
magic_takes [] bytes rest are e = subst (λ (r : List ℕ). Takes bytes [] r) (ok_is bytes rest e) (record { parts = refl; left = are })
magic_takes (byte ∷ start) [] rest are e = absurd cc
magic_takes (byte ∷ start) (other ∷ bytes) rest are e =
    let g = end_ok (other == byte) NotSession (after_magic start bytes) rest e in
    let next = magic_takes start bytes rest (All-tail (λ (b : ℕ). b < 256) other bytes are) g.1 in
    record { parts = ap₂ (λ (b : ℕ) (bs : List ℕ). b ∷ bs) (eqb-true other byte g.0) next.parts; left = next.left }

-- a disk of n tracks
sized-by : (t u : Bool) (tracks blocks : ℕ) → (tracks == 35) ≡ t → (tracks == 40) ≡ u → or_not_session (cond t (Some 683) (cond u (Some 768) None)) ≡ Ok blocks
    → IsSize blocks × (tracks_of blocks ≡ tracks)
sized-by true u tracks blocks e f read =
    let is : 683 ≡ blocks = ok_is 683 blocks read in (inl (sym is), ap tracks_of (sym is) ∙ sym (eqb-true tracks 35 e))
sized-by false true tracks blocks e f read =
    let is : 768 ≡ blocks = ok_is 768 blocks read in (inr (sym is), ap tracks_of (sym is) ∙ sym (eqb-true tracks 40 f))
sized-by false false tracks blocks e f read = absurd cc

sized : (tracks blocks : ℕ) (image : List (List ℕ)) → or_not_session (blocks_of tracks) ≡ Ok blocks → length image ≡ blocks
    → IsSize (length image) × (tracks_of (length image) ≡ tracks)
sized tracks blocks image e long =
    subst (λ (n : ℕ). IsSize n × (tracks_of n ≡ tracks)) (sym long) (sized-by (tracks == 35) (tracks == 40) tracks blocks refl refl e)

block_count_takes : (bytes : List ℕ) (x : ℕ × List ℕ) → AreBytes bytes → block_count_at bytes ≡ Ok x
    → (tracks : ℕ) × Takes bytes (tracks ∷ []) x.1 × (or_not_session (blocks_of tracks) ≡ Ok x.0)
unfolding block_count_at
block_count_takes [] x are e = absurd cc
block_count_takes (tracks ∷ bytes) x are e =
    let b = bind_ok (or_not_session (blocks_of tracks)) (λ blocks. Ok (blocks, bytes)) x e in
    let made : ℕ × List ℕ = (b.0, bytes) in
    let both = subst (λ (y : ℕ × List ℕ). Takes (tracks ∷ bytes) (tracks ∷ []) y.1 × (or_not_session (blocks_of tracks) ≡ Ok y.0)) (ok_is made x b.2)
    (record { parts = refl; left = All-tail (λ (b : ℕ). b < 256) tracks bytes are }, b.1) in
    (tracks, both.0, both.1)

-- bytes in pieces of a block each
pub chunked : (count : ℕ) (bytes : List ℕ) → length bytes ≡ count * BLOCK_BYTES → AreBytes bytes
    → (length (first_chunks BLOCK_BYTES count bytes) ≡ count) × All IsBlock (first_chunks BLOCK_BYTES count bytes)
    × (bytes_of (first_chunks BLOCK_BYTES count bytes) ≡ bytes)
chunked zero bytes long are = (refl, All-nil IsBlock, sym (nil_from_length bytes (omega arith)))
chunked (suc count) bytes long are =
    let enough : BLOCK_BYTES ≤ length bytes = omega arith in
    let dropped = length-drop BLOCK_BYTES bytes in
    let rest = chunked count (drop BLOCK_BYTES bytes) (omega arith) (All-drop (λ (b : ℕ). b < 256) BLOCK_BYTES bytes are) in (
      ap suc rest.0,
      All-cons IsBlock (take BLOCK_BYTES bytes) (first_chunks BLOCK_BYTES count (drop BLOCK_BYTES bytes))
          (length-take-le BLOCK_BYTES bytes enough, All-take (λ (b : ℕ). b < 256) BLOCK_BYTES bytes are) rest.1,
      ap (λ (more : List ℕ). take BLOCK_BYTES bytes ++ more) rest.2 ∙ take-append-drop BLOCK_BYTES bytes,
    )

pub image_takes : (bytes : List ℕ) (x : List (List ℕ) × List ℕ) → AreBytes bytes → image_at bytes ≡ Ok x
    → Takes bytes (magic ++ tracks_of (length x.0) ∷ bytes_of x.0) x.1 × IsImage x.0
unfolding image_at
image_takes bytes x are e =
    let a = bind_ok (after_magic magic bytes)
    (λ rest. block_count_at rest >>= λ blocks. bytes_at (blocks.0 * BLOCK_BYTES) blocks.1 >>= λ content. Ok (first_chunks BLOCK_BYTES blocks.0 content.0, content.1)) x e in
    let b = bind_ok (block_count_at a.0)
    (λ blocks. bytes_at (blocks.0 * BLOCK_BYTES) blocks.1 >>= λ content. Ok (first_chunks BLOCK_BYTES blocks.0 content.0, content.1)) x a.2 in
    let c = bind_ok (bytes_at (b.0.0 * BLOCK_BYTES) b.0.1) (λ content. Ok (first_chunks BLOCK_BYTES b.0.0 content.0, content.1)) x b.2 in
    let first = magic_takes magic bytes a.0 are a.1 in
    let second = block_count_takes a.0 b.0 first.left b.1 in
    let third = bytes_take (b.0.0 * BLOCK_BYTES) b.0.1 c.0 second.1.left c.1 in
    let tracks = second.0 in
    let image = first_chunks BLOCK_BYTES b.0.0 c.0.0 in
    let pieces = chunked b.0.0 c.0.0 third.1 third.2 in
    let size = sized tracks b.0.0 image second.2 pieces.0 in
    let whole : Takes bytes (magic ++ tracks ∷ c.0.0) c.0.1 =
    Takes-then bytes magic a.0 (tracks ∷ c.0.0) c.0.1 first (Takes-then a.0 (tracks ∷ []) b.0.1 c.0.0 c.0.1 second.1 third.0) in
    let made : List (List ℕ) × List ℕ = (image, c.0.1) in
    subst (λ (y : List (List ℕ) × List ℕ). Takes bytes (magic ++ tracks_of (length y.0) ∷ bytes_of y.0) y.1 × IsImage y.0) (ok_is made x c.2) (
      subst (λ (text : List ℕ). Takes bytes text c.0.1)
          (ap₂ (λ (n : ℕ) (content : List ℕ). magic ++ n ∷ content) (sym size.1) (sym pieces.2)) whole,
      (size.0, pieces.1),
    )

-- ---- all parts

pub counts_take : (bytes : List ℕ) (x : (ℕ × ℕ) × List ℕ) → AreBytes bytes → counts_at bytes ≡ Ok x
    → Takes bytes (to_le_bytes w64 x.0.0 ++ to_le_bytes w64 x.0.1) x.1 × (x.0.0 ≤ x.0.1) × (x.0.1 < 2 ^ 64)
unfolding counts_at
counts_take bytes x are e =
    let a = bind_ok (number_at w64 bytes) (λ cursor. number_at w64 cursor.1 >>= λ count. cond (nat_lt count.0 cursor.0) (Err BadCursor) (Ok ((cursor.0, count.0), count.1))) x e in
    let b = bind_ok (number_at w64 a.0.1) (λ count. cond (nat_lt count.0 a.0.0) (Err BadCursor) (Ok ((a.0.0, count.0), count.1))) x a.2 in
    let g = guard_ok (nat_lt b.0.0 a.0.0) BadCursor (Ok ((a.0.0, b.0.0), b.0.1)) x b.2 in
    let first = eight_take bytes a.0 are a.1 in
    let second = eight_take a.0.1 b.0 first.0.left b.1 in
    let made : (ℕ × ℕ) × List ℕ = ((a.0.0, b.0.0), b.0.1) in
    subst (λ (y : (ℕ × ℕ) × List ℕ). Takes bytes (to_le_bytes w64 y.0.0 ++ to_le_bytes w64 y.0.1) y.1 × (y.0.0 ≤ y.0.1) × (y.0.1 < 2 ^ 64)) (ok_is made x g.1)
    (Takes-then bytes (to_le_bytes w64 a.0.0) a.0.1 (to_le_bytes w64 b.0.0) b.0.1 first.0 second.0, ltb-false _ _ g.0, second.1)

-- what all parts of a file are
pub record AreParts (bytes : List ℕ) (parts : Parts) : Type 0 where
  pub image : IsImage parts.image
  pub within : parts.done ≤ length parts.records
  pub count : length parts.records < 2 ^ 64
  pub each : All (IsRecordOf (length parts.image) 0) parts.records
  pub file : file_with parts.image parts.done parts.records ≡ bytes

-- the parts of a file, one after another
file_of-parts : (image : List (List ℕ)) (cursor count : ℕ) (records : List Kept) → length records ≡ count
    → (magic ++ tracks_of (length image) ∷ bytes_of image) ++ ((to_le_bytes w64 cursor ++ to_le_bytes w64 count) ++ flat_map record_file records)
    ≡ file_with image cursor records
unfolding file_with
file_of-parts image cursor count records e =
    let list = flat_map record_file records in
    ap (λ (n : ℕ). (magic ++ tracks_of (length image) ∷ bytes_of image) ++ ((to_le_bytes w64 cursor ++ to_le_bytes w64 n) ++ list)) (sym e)
    ∙ ap (λ (text : List ℕ). magic ++ tracks_of (length image) ∷ text)
    (sym (append_assoc (bytes_of image ++ to_le_bytes w64 cursor) (to_le_bytes w64 (length records)) list
    ∙ append_assoc (bytes_of image) (to_le_bytes w64 cursor) (to_le_bytes w64 (length records) ++ list)))

pub parts_take : (bytes : List ℕ) (parts : Parts) → AreBytes bytes → parts_at bytes ≡ Ok parts → AreParts bytes parts
unfolding parts_at
parts_take bytes parts are e =
    let last : (List (List ℕ)) → ℕ → List Kept × List ℕ → Result Parts ResumeFault =
    λ (image : List (List ℕ)) (cursor : ℕ) (listed : List Kept × List ℕ).
    cond (length listed.1 == 0) (Ok (record { image = image; done = cursor; records = listed.0 })) (Err Trailing) in
    let a = bind_ok (image_at bytes) (λ image. counts_at image.1 >>= λ counts. records_at (length image.0) counts.0.1 counts.1 >>= λ listed. last image.0 counts.0.0 listed) parts e in
    let b = bind_ok (counts_at a.0.1) (λ counts. records_at (length a.0.0) counts.0.1 counts.1 >>= λ listed. last a.0.0 counts.0.0 listed) parts a.2 in
    let c = bind_ok (records_at (length a.0.0) b.0.0.1 b.0.1) (λ listed. last a.0.0 b.0.0.0 listed) parts b.2 in
    let made : Parts = record { image = a.0.0; done = b.0.0.0; records = c.0.0 } in
    let g = end_ok (length c.0.1 == 0) Trailing (Ok made) parts c.2 in
    let first = image_takes bytes a.0 are a.1 in
    let second = counts_take a.0.1 b.0 first.0.left b.1 in
    let third = records_take b.0.0.1 (length a.0.0) b.0.1 c.0 second.0.left c.1 in
    let list = flat_map record_file c.0.0 in
    let counts = to_le_bytes w64 b.0.0.0 ++ to_le_bytes w64 b.0.0.1 in
    let start = magic ++ tracks_of (length a.0.0) ∷ bytes_of a.0.0 in
    let nothing : c.0.1 ≡ [] = nil_from_length c.0.1 (eqb-true _ _ g.0) in
    let whole = Takes-then bytes start a.0.1 (counts ++ list) c.0.1 first.0 (Takes-then a.0.1 counts b.0.1 list c.0.1 second.0 third.0) in
    let all : bytes ≡ start ++ (counts ++ list) =
    whole.parts ∙ ap (λ (rest : List ℕ). (start ++ (counts ++ list)) ++ rest) nothing ∙ append-nil (start ++ (counts ++ list)) in
    let long = third.1 in
    let within = second.1 in
    let limit = second.2 in
    subst (AreParts bytes) (ok_is made parts g.1) (record {
      image = first.1;
      within = omega arith;
      count = omega arith;
      each = third.2;
      file = sym (all ∙ file_of-parts a.0.0 b.0.0.0 b.0.0.1 c.0.0 long);
    })
