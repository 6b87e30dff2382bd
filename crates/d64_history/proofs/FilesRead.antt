-- what a session file says is read from it again
use Rattle.std.proofs.Common.{◌≡◌, ℕ, suc, ◌+◌, ◌*◌, ◌<◌, ◌≤◌, ◌^◌, ◌&&◌, Bool, true, false, cond, not, nat_lt, nat_eq, List, [], ◌∷◌, ◌++◌, length, reverse, take, drop, Result, Ok, Err, refl, sym, ap, ap₂, ◌∙◌, inl, inr, arith, append_assoc, eq-eqb}
use Rattle.std.specs.Int.{w16, w64, byte_len, to_le_bytes}
use Rattle.std.specs.List.{All, filter, flat_map, list_all, range_with_len}
use Rattle.std.specs.Cmp.Lexicographic.{pointwise}
use Rattle.std.specs.Simd.{first_chunks}
use Rattle.std.proofs.lemmas.Bool.{le-ltb}
use Rattle.std.proofs.lemmas.Bool.Decides.{nat_tests}
use Rattle.std.proofs.lemmas.List.{take_at, drop_at, length-append, append-nil}
use Rattle.std.proofs.lemmas.List.Elements.{All-head, All-tail}
use Rattle.std.proofs.lemmas.List.Folds.{list_all-map}
use Rattle.std.proofs.lemmas.Nat.{from_le_bytes-to_le_bytes_2, from_le_bytes-to_le_bytes_8}
use Rattle.d64_image.specs.declared.image.TheConstants.{BLOCK_BYTES}
use Rattle.d64_image.specs.Image.{IsBlock, IsSize, IsImage, tracks_of, bytes_of, sector_at, differences}
use Rattle.d64_image.proofs.Sizes.{size_most}
use Rattle.d64_image.specs.Patch.{Kept, RisesBetween, restored_image, changed_blocks, HaveBlocks}
use Rattle.d64_history.specs.History.{History, present_image}
use Rattle.d64_history.specs.Held.{history_of}
use Rattle.d64_history.specs.Records.{LeadAlong, AreRecords}
use Rattle.d64_history.specs.SessionFile.{magic, block_file, record_file, file_with, file_of, IsSession}
use Rattle.d64_history.specs.ResumeFault.{◌>>=◌, ReadPart, bytes_at, number_at, after_magic, block_count_at, image_at, counts_at, index_at, read_block_at, blocks_at, record_file_at, records_at, Parts, parts_at, all_differ, differ_along, session_at, fault_in}
use Rattle.d64_history.specs.declared.resume_fault.ResumeFault.{ResumeFault}
use Rattle.d64_history.specs.SessionFileLaws.{FilesDecide, FilesAreFaultless}
use Rattle.d64_history.proofs.Leads.{IsRecord, Held, held, most}
use Rattle.d64_history.proofs.SessionFiles.{file-held}

-- n bytes are read again
bytes_again : (xs rest : List ℕ) (n : ℕ) → length xs ≡ n → bytes_at n (xs ++ rest) ≡ Ok (xs, rest)
bytes_again xs rest n long =
    let enough : nat_lt (length (xs ++ rest)) n ≡ false = le-ltb _ _ (omega (arith, length-append xs rest)) in
    rw (enough, take_at xs rest n long, drop_at xs rest n long) refl

two_again : (n : ℕ) (rest : List ℕ) → n < 2 ^ 16 → number_at w16 (to_le_bytes w16 n ++ rest) ≡ Ok (n, rest)
two_again n rest h = rw (bytes_again (to_le_bytes w16 n) rest (byte_len w16) refl, from_le_bytes-to_le_bytes_2 n h) refl

eight_again : (n : ℕ) (rest : List ℕ) → n < 2 ^ 64 → number_at w64 (to_le_bytes w64 n ++ rest) ≡ Ok (n, rest)
eight_again n rest h = rw (bytes_again (to_le_bytes w64 n) rest (byte_len w64) refl, from_le_bytes-to_le_bytes_8 n h) refl

block_again : (blocks low index : ℕ) (content rest : List ℕ) → low ≤ index → index < blocks → blocks ≤ 2 ^ 16 → length content ≡ BLOCK_BYTES
    → read_block_at blocks low (block_file (index, content) ++ rest) ≡ Ok ((index, content), rest)
unfolding index_at read_block_at
block_again blocks low index content rest h i most long =
    let regrouped : block_file (index, content) ++ rest ≡ to_le_bytes w16 index ++ (content ++ rest) = append_assoc (to_le_bytes w16 index) content rest in
    let above : nat_lt index low ≡ false = le-ltb _ _ h in
    let below : nat_lt index blocks ≡ true = grind (arith, nat_tests) in
    ap (read_block_at blocks low) regrouped
    ∙ rw (two_again index (content ++ rest) (omega arith), above, below, bytes_again content rest BLOCK_BYTES long) refl

blocks_again : (patch : Kept) (blocks low : ℕ) (rest : List ℕ) → RisesBetween low blocks patch → blocks ≤ 2 ^ 16 → HaveBlocks patch
    → blocks_at blocks (length patch) low (flat_map block_file patch ++ rest) ≡ Ok (patch, rest)
unfolding blocks_at RisesBetween
blocks_again [] blocks low rest r most b = refl
blocks_again ((index, content) ∷ patch) blocks low rest r most b =
    let one = All-head (λ (e : ℕ × List ℕ). IsBlock e.1) (index, content) patch b in
    let regrouped : flat_map block_file ((index, content) ∷ patch) ++ rest ≡ block_file (index, content) ++ (flat_map block_file patch ++ rest) =
    append_assoc (block_file (index, content)) (flat_map block_file patch) rest in
    ap (blocks_at blocks (suc (length patch)) low) regrouped
    ∙ rw (
      block_again blocks low index content (flat_map block_file patch ++ rest) r.0 r.1 most one.0,
      blocks_again patch blocks (index + 1) rest r.2 most (All-tail (λ (e : ℕ × List ℕ). IsBlock e.1) (index, content) patch b),
    ) refl

pub record_again : (patch : Kept) (blocks : ℕ) (rest : List ℕ) → blocks ≤ 768 → IsRecord blocks patch
    → record_file_at blocks (record_file patch ++ rest) ≡ Ok (patch, rest)
unfolding record_file_at
record_again patch blocks rest few is =
    let count = most patch 0 blocks is.0 (omega arith) in
    ap (record_file_at blocks) (append_assoc (to_le_bytes w16 (length patch)) (flat_map block_file patch) rest)
    ∙ rw (two_again (length patch) (flat_map block_file patch ++ rest) (omega arith)) (blocks_again patch blocks 0 rest is.0 (omega arith) is.1)

pub records_again : (records : List Kept) (blocks : ℕ) (rest : List ℕ) → blocks ≤ 768 → All (IsRecord blocks) records
    → records_at blocks (length records) (flat_map record_file records ++ rest) ≡ Ok (records, rest)
unfolding records_at
records_again [] blocks rest e each = refl
records_again (patch ∷ patches) blocks rest e each =
    ap (records_at blocks (suc (length patches))) (append_assoc (record_file patch) (flat_map record_file patches) rest)
    ∙ rw (
      record_again patch blocks (flat_map record_file patches ++ rest) e (All-head (IsRecord blocks) patch patches each),
      records_again patches blocks rest e (All-tail (IsRecord blocks) patch patches each),
    ) refl

-- the beginning of a file
magic_again : (magic rest : List ℕ) → after_magic magic (magic ++ rest) ≡ Ok rest
unfolding after_magic
magic_again [] rest = refl
magic_again (byte ∷ magic) rest = rw (eq-eqb byte byte refl) (magic_again magic rest)

-- how many blocks the image has
block_count_again : (image : List (List ℕ)) (rest : List ℕ) → IsSize (length image) → block_count_at (tracks_of (length image) ∷ rest) ≡ Ok (length image, rest)
unfolding block_count_at
block_count_again image rest size = elim size [
  | inl fewer ↦ ap (λ (n : ℕ). block_count_at (tracks_of n ∷ rest)) fewer ∙ ap (λ (n : ℕ). let read : ℕ × List ℕ = (n, rest) in Ok read) (sym fewer)
  | inr all ↦ ap (λ (n : ℕ). block_count_at (tracks_of n ∷ rest)) all ∙ ap (λ (n : ℕ). let read : ℕ × List ℕ = (n, rest) in Ok read) (sym all)
]

-- pieces of equal length that were joined
joined : (pieces : List (List ℕ)) (n : ℕ) → All (λ (piece : List ℕ). length piece ≡ n) pieces → first_chunks n (length pieces) (flat_map (λ (piece : List ℕ). piece) pieces) ≡ pieces
joined [] n each = refl
joined (piece ∷ pieces) n each =
    let one = All-head (λ (x : List ℕ). length x ≡ n) piece pieces each in
    let rest : List ℕ = flat_map (λ (x : List ℕ). x) pieces in
    ap₂ (λ (x : List ℕ) (xs : List ℕ). x ∷ first_chunks n (length pieces) xs) (take_at piece rest n one) (drop_at piece rest n one)
    ∙ ap (λ (xs : List (List ℕ)). piece ∷ xs) (joined pieces n (All-tail (λ (x : List ℕ). length x ≡ n) piece pieces each))

pub image_again : (image : List (List ℕ)) → IsImage image → first_chunks BLOCK_BYTES (length image) (bytes_of image) ≡ image
image_again image is = joined image BLOCK_BYTES (λ k d h. (is.1 k d h).0)

-- an image has this many bytes
pub length-joined : (pieces : List (List ℕ)) (n : ℕ) → All (λ (piece : List ℕ). length piece ≡ n) pieces → length (flat_map (λ (piece : List ℕ). piece) pieces) ≡ length pieces * n
length-joined [] n each = omega arith
length-joined (piece ∷ pieces) n each =
    let one = All-head (λ (x : List ℕ). length x ≡ n) piece pieces each in
    let rest = length-joined pieces n (All-tail (λ (x : List ℕ). length x ≡ n) piece pieces each) in
    let both : length piece + length (flat_map (λ (x : List ℕ). x) pieces) ≡ suc (length pieces) * n = omega arith in
    length-append piece (flat_map (λ (x : List ℕ). x) pieces) ∙ both

-- the image of a file
pub shown_again : (image : List (List ℕ)) (rest : List ℕ) → IsImage image → image_at (magic ++ tracks_of (length image) ∷ (bytes_of image ++ rest)) ≡ Ok (image, rest)
unfolding image_at
shown_again image rest is =
    let long : length (bytes_of image) ≡ length image * BLOCK_BYTES = length-joined image BLOCK_BYTES (λ k d h. (is.1 k d h).0) in
    let begun : after_magic magic (magic ++ tracks_of (length image) ∷ (bytes_of image ++ rest)) ≡ Ok (tracks_of (length image) ∷ (bytes_of image ++ rest)) =
    magic_again magic (tracks_of (length image) ∷ (bytes_of image ++ rest)) in
    let after : List ℕ → ReadPart (List (List ℕ)) =
    λ (other : List ℕ). block_count_at other >>= λ blocks. bytes_at (blocks.0 * BLOCK_BYTES) blocks.1 >>= λ content.
    Ok (first_chunks BLOCK_BYTES blocks.0 content.0, content.1) in
    ap (λ (reading : Result (List ℕ) ResumeFault). reading >>= after) begun
    ∙ rw (block_count_again image (bytes_of image ++ rest) is.0, bytes_again (bytes_of image) rest (length image * BLOCK_BYTES) long, image_again image is) refl

-- the counts of a file
pub counts_again : (done count : ℕ) (rest : List ℕ) → done ≤ count → count < 2 ^ 64
    → counts_at (to_le_bytes w64 done ++ (to_le_bytes w64 count ++ rest)) ≡ Ok ((done, count), rest)
unfolding counts_at
counts_again done count rest within h =
    let ordered : nat_lt count done ≡ false = le-ltb _ _ within in
    rw (eight_again done (to_le_bytes w64 count ++ rest) (omega arith), eight_again count rest h, ordered) refl

-- all parts of a file
abbrev pub parts_of : List (List ℕ) → ℕ → List Kept → Parts
parts_of image done records = record { image = image; done = done; records = records }

pub parts_again : (image : List (List ℕ)) (done : ℕ) (records : List Kept) → IsImage image → done ≤ length records → length records < 2 ^ 64 → All (IsRecord (length image)) records
    → parts_at (file_with image done records) ≡ Ok (parts_of image done records)
unfolding parts_at file_with
parts_again image done records is within count each =
    let list : List ℕ = flat_map record_file records in
    let counted : List ℕ = to_le_bytes w64 (length records) ++ list in
    let cursor : List ℕ = to_le_bytes w64 done ++ counted in
    let all : records_at (length image) (length records) list ≡ Ok (records, []) =
    ap (records_at (length image) (length records)) (sym (append-nil list)) ∙ records_again records (length image) [] (size_most (length image) is.0) each in
    let regrouped : file_with image done records ≡ magic ++ tracks_of (length image) ∷ (bytes_of image ++ cursor) =
    ap (λ (x : List ℕ). magic ++ tracks_of (length image) ∷ x)
    (append_assoc (bytes_of image ++ to_le_bytes w64 done) (to_le_bytes w64 (length records)) list ∙ append_assoc (bytes_of image) (to_le_bytes w64 done) counted) in
    ap parts_at regrouped ∙ rw (shown_again image cursor is, counts_again done (length records) list within count, all) refl

-- what a test keeps passes it
passes : (p : ℕ → Bool) (x : ℕ) (t : Bool) (xs : List ℕ) → p x ≡ t → list_all p xs ≡ true → list_all p (cond t (x ∷ xs) xs) ≡ true
passes p x true xs e h = ap₂ (λ (a b : Bool). a && b) e h
passes p x false xs e h = h

all-pass : (p : ℕ → Bool) (xs : List ℕ) → list_all p (filter p xs) ≡ true
all-pass p [] = refl
all-pass p (x ∷ xs) = passes p x (p x) (filter p xs) refl (all-pass p xs)

-- what changed differs
changed_blocks-differ : (before after : List (List ℕ)) → all_differ after (changed_blocks before after) ≡ true
unfolding all_differ changed_blocks
changed_blocks-differ before after =
    list_all-map (λ (e : ℕ × List ℕ). not (pointwise nat_eq e.1 (sector_at after e.0))) (λ (b : ℕ). (b, sector_at before b)) (differences before after)
    ∙ all-pass (λ (b : ℕ). not (pointwise nat_eq (sector_at before b) (sector_at after b))) (range_with_len 0 (length before))

-- records that lead away from an image differ from the images on the way
lead-differ : (records : List Kept) (image : List (List ℕ)) → LeadAlong image records → differ_along image records ≡ true
unfolding LeadAlong differ_along
lead-differ [] image leads = refl
lead-differ (patch ∷ patches) image leads =
    ap₂ (λ (a b : Bool). a && b) (ap (all_differ image) leads.0 ∙ changed_blocks-differ (restored_image image patch) image) (lead-differ patches (restored_image image patch) leads.1)

-- the parts of the file of a history
session_again : (history : History) (records : List Kept) → IsSession history → Held history records
    → session_at (file_of history) ≡ Ok (parts_of (present_image history) history.cursor records)
unfolding session_at AreRecords
session_again history records is h =
    let image = present_image history in
    let spelled : file_of history ≡ file_with image history.cursor records = sym (file-held h.holds) in
    let most = is.count in
    let count = h.count in
    let within = h.holds.within in
    let leads = h.holds.lead in
    let read : parts_at (file_of history) ≡ Ok (parts_of image history.cursor records) =
    ap parts_at spelled ∙ parts_again image history.cursor records h.image within (omega arith) h.each in
    rw (read, lead-differ (reverse (take history.cursor records)) image leads.0, lead-differ (drop history.cursor records) image leads.1) refl

-- the file of a history has no fault
pub faultless : FilesAreFaultless
faultless history is = let h = held history is in ap fault_in (session_again history h.0 is h.1)

-- the history of the parts of a file
abbrev known : Result Parts ResumeFault → History
known (Ok parts) = history_of parts.records parts.image parts.done
known (Err fault) = history_of [] [] 0

-- and so the history is read again from its file
again : (history : History) → IsSession history → known (session_at (file_of history)) ≡ history
again history is = let h = held history is in ap known (session_again history h.0 is h.1) ∙ h.1.holds.is

-- bytes are the file of at most one history
pub one_history : FilesDecide
one_history history other is also same = sym (again history is) ∙ ap (λ (bytes : List ℕ). known (session_at bytes)) same ∙ again other also
