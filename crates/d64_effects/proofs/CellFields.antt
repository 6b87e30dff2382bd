-- The fields of a slot: that its first two bytes don't count, and what those of a new entry and of
-- an unused slot are.
use Rattle.std.proofs.Common.{◌≡◌, ◌≢◌, ℕ, ◌+◌, ◌-◌, ◌*◌, ◌/◌, ◌%◌, ◌<◌, ◌≤◌, ◌==◌, Bool, true, false, cond, not, List, [], ◌∷◌, ◌++◌, length, get_or, take, drop, Option, Some, None, refl, sym, ap, ap₂, ◌∙◌, subst, arith, append_assoc}
use Rattle.std.specs.Prelude.{All, slice_index}
use Rattle.std.specs.List.{flat_map}
use Rattle.std.specs.Option.{option_to_list}
use Rattle.std.proofs.Math.ListN.{replicate}
use Rattle.std.proofs.lemmas.Bool.{eqb-true, not-false}
use Rattle.std.proofs.lemmas.List.{take_at, drop-drop, get_or-drop, get_or-append-add, length-append}
use Rattle.std.proofs.lemmas.List.Elements.{All-nil, All-cons, All-append, All-replicate}
use Rattle.d64_image.specs.declared.block.TheConstants.{BLOCKS}
use Rattle.d64_image.specs.Block.{pair_at}
use Rattle.d64_map.proofs.Maps.{IsPlaced, placed_at, sectors_few}
use Rattle.d64_files.specs.Name.{IsName, filled_field}
use Rattle.d64_files.specs.Ownership.{roots, roots_of, chain_at, owned_by, HasItsChains}
use Rattle.d64_files.specs.Slot.{type_byte, has_bit, is_used, kind_number, HasKind, kinds, kind_of, is_closed, is_locked, first_pair, field_of, side_pair, size_of}
use Rattle.d64_files.specs.Writing.{number_of_kind, entry_bytes}
use Rattle.d64_files.specs.declared.kind.Kind.{Kind}
use Rattle.d64_files.specs.declared.kind.Kind.TheVariants.{Del, Seq, Prg, Usr, Rel}
use Rattle.d64_files.proofs.WrittenBytes.{length-filled_field}

-- slots that are the same from the type byte on
abbrev pub SameBeyondLink : List ℕ → List ℕ → Type 0
SameBeyondLink cell other = drop 2 cell ≡ drop 2 other

-- a byte from the type byte on
byte-drop : (cell : List ℕ) (place i : ℕ) → place ≡ 2 + i → slice_index cell place ≡ slice_index (drop 2 cell) i
byte-drop cell place i e = ap (slice_index cell) e ∙ sym (get_or-drop 2 cell i 0)

byte-beyond_link : (cell other : List ℕ) (place i : ℕ) → place ≡ 2 + i → SameBeyondLink cell other → slice_index cell place ≡ slice_index other place
byte-beyond_link cell other place i at same =
    byte-drop cell place i at ∙ ap (λ (bytes : List ℕ). slice_index bytes i) same ∙ sym (byte-drop other place i at)

pub type_byte-beyond_link : (cell other : List ℕ) → SameBeyondLink cell other → type_byte cell ≡ type_byte other
type_byte-beyond_link cell other same = byte-beyond_link cell other 2 0 refl same

pub is_used-beyond_link : (cell other : List ℕ) → SameBeyondLink cell other → is_used cell ≡ is_used other
is_used-beyond_link cell other same = ap (λ (byte : ℕ). not (byte == 0)) (type_byte-beyond_link cell other same)

pub kind_number-beyond_link : (cell other : List ℕ) → SameBeyondLink cell other → kind_number cell ≡ kind_number other
kind_number-beyond_link cell other same = ap (λ (byte : ℕ). byte % 16) (type_byte-beyond_link cell other same)

pub HasKind-beyond_link : (cell other : List ℕ) → SameBeyondLink cell other → HasKind cell → HasKind other
HasKind-beyond_link cell other same has = subst (λ (number : ℕ). number ≤ 4) (kind_number-beyond_link cell other same) has

pub kind_of-beyond_link : (cell other : List ℕ) → SameBeyondLink cell other → kind_of cell ≡ kind_of other
kind_of-beyond_link cell other same = ap (λ (number : ℕ). get_or kinds number Del) (kind_number-beyond_link cell other same)

pub is_closed-beyond_link : (cell other : List ℕ) → SameBeyondLink cell other → is_closed cell ≡ is_closed other
is_closed-beyond_link cell other same = ap (λ (byte : ℕ). has_bit byte 7) (type_byte-beyond_link cell other same)

pub is_locked-beyond_link : (cell other : List ℕ) → SameBeyondLink cell other → is_locked cell ≡ is_locked other
is_locked-beyond_link cell other same = ap (λ (byte : ℕ). has_bit byte 6) (type_byte-beyond_link cell other same)

pub first_pair-beyond_link : (cell other : List ℕ) → SameBeyondLink cell other → first_pair cell ≡ first_pair other
first_pair-beyond_link cell other same =
    ap₂ (λ (track sector : ℕ). (track, sector)) (byte-beyond_link cell other 3 1 refl same) (byte-beyond_link cell other 4 2 refl same)

-- the field of the name, counted from the type byte
field_of-drop : (cell : List ℕ) → field_of cell ≡ take 16 (drop 3 (drop 2 cell))
field_of-drop cell = ap (take 16) (sym (drop-drop 3 2 cell))

pub field_of-beyond_link : (cell other : List ℕ) → SameBeyondLink cell other → field_of cell ≡ field_of other
field_of-beyond_link cell other same =
    field_of-drop cell ∙ ap (λ (bytes : List ℕ). take 16 (drop 3 bytes)) same ∙ sym (field_of-drop other)

-- a side pair by its two bytes
abbrev side_of : ℕ → ℕ → Option (ℕ × ℕ)
side_of track sector = cond (track == 0) None (Some (track, sector))

pub side_pair-beyond_link : (cell other : List ℕ) → SameBeyondLink cell other → side_pair cell ≡ side_pair other
side_pair-beyond_link cell other same =
    ap₂ side_of (byte-beyond_link cell other 0x15 0x13 refl same) (byte-beyond_link cell other 0x16 0x14 refl same)

pub size_of-beyond_link : (cell other : List ℕ) → SameBeyondLink cell other → size_of cell ≡ size_of other
size_of-beyond_link cell other same =
    ap₂ (λ (low high : ℕ). low + 256 * high) (byte-beyond_link cell other 0x1E 0x1C refl same) (byte-beyond_link cell other 0x1F 0x1D refl same)

pub roots_of-same : (kind : Kind) (cell other : List ℕ) → first_pair cell ≡ first_pair other → side_pair cell ≡ side_pair other
    → roots_of kind cell ≡ roots_of kind other
roots_of-same Del cell other first side = refl
roots_of-same Seq cell other first side = ap (λ (pair : ℕ × ℕ). pair ∷ []) first
roots_of-same Prg cell other first side = ap (λ (pair : ℕ × ℕ). pair ∷ []) first
roots_of-same Usr cell other first side = ap (λ (pair : ℕ × ℕ). pair ∷ []) first
roots_of-same Rel cell other first side =
    ap₂ (λ (pair : ℕ × ℕ) (more : Option (ℕ × ℕ)). pair ∷ option_to_list more) first side

pub roots-beyond_link : (cell other : List ℕ) → SameBeyondLink cell other → roots cell ≡ roots other
roots-beyond_link cell other same =
    ap₂ (λ (closed : Bool) (kind : Kind). cond closed (roots_of kind cell) []) (is_closed-beyond_link cell other same) (kind_of-beyond_link cell other same)
    ∙ ap (λ (found : List (ℕ × ℕ)). cond (is_closed other) found [])
    (roots_of-same (kind_of other) cell other (first_pair-beyond_link cell other same) (side_pair-beyond_link cell other same))

-- the bytes of a new entry, part after part
entry-parts : (name : List ℕ) (kind : Kind) (first blocks : ℕ)
    → entry_bytes name kind first blocks
    ≡ (0x80 + number_of_kind kind) ∷ (pair_at first).0 ∷ (pair_at first).1 ∷ (filled_field name ++ (replicate 9 0 ++ ((blocks % 256) ∷ (blocks / 256) ∷ [])))
unfolding entry_bytes
entry-parts name kind first blocks =
    ap (λ (bytes : List ℕ). (0x80 + number_of_kind kind) ∷ (pair_at first).0 ∷ (pair_at first).1 ∷ bytes)
    (append_assoc (filled_field name) (replicate 9 0) ((blocks % 256) ∷ (blocks / 256) ∷ []))

-- a slot whose bytes from the type byte on are those of a new entry
pub record IsNewEntry (cell name : List ℕ) (kind : Kind) (first blocks : ℕ) : Type 0 where
  pub short : length name ≤ 16
  pub bytes : drop 2 cell ≡ entry_bytes name kind first blocks

pub length-entry_bytes : (name : List ℕ) (kind : Kind) (first blocks : ℕ) → length name ≤ 16 → length (entry_bytes name kind first blocks) ≡ 30
length-entry_bytes name kind first blocks short =
    let tail : List ℕ = replicate 9 0 ++ ((blocks % 256) ∷ (blocks / 256) ∷ []) in
    let field : length (filled_field name) ≡ 16 = length-filled_field name short in
    let both : length (filled_field name ++ tail) ≡ length (filled_field name) + length tail = length-append (filled_field name) tail in
    let few : length tail ≡ 11 = refl in
    ap length (entry-parts name kind first blocks) ∙ omega arith

kind_byte : (kind : Kind) → 0x80 + number_of_kind kind < 256
kind_byte Del = omega arith
kind_byte Seq = omega arith
kind_byte Prg = omega arith
kind_byte Usr = omega arith
kind_byte Rel = omega arith

-- they are bytes
pub are_bytes-entry_bytes : (name : List ℕ) (kind : Kind) (first blocks : ℕ) → IsName name → first < BLOCKS → blocks < 65536
    → All (λ byte. byte < 256) (entry_bytes name kind first blocks)
are_bytes-entry_bytes name kind first blocks named here few =
    let P : ℕ → Type 0 = λ byte. byte < 256 in
    let size : List ℕ = (blocks % 256) ∷ (blocks / 256) ∷ [] in
    let p : IsPlaced first = placed_at first here in
    let track : (pair_at first).0 < 256 = let last = p.within in omega arith in
    let sector : (pair_at first).1 < 256 = let held = p.held in let few = sectors_few (pair_at first).0 in omega arith in
    let low : blocks % 256 < 256 = omega arith in
    let high : blocks / 256 < 256 = omega arith in
    let tail : All P (replicate 9 0 ++ size) =
    All-append P (replicate 9 0) size (All-replicate P 9 0 (omega arith))
    (All-cons P (blocks % 256) ((blocks / 256) ∷ []) low (All-cons P (blocks / 256) [] high (All-nil P))) in
    let field : All P (filled_field name) =
    All-append P name (replicate (16 - length name) 0xA0) named.in_range (All-replicate P (16 - length name) 0xA0 (omega arith)) in
    let rest : List ℕ = filled_field name ++ (replicate 9 0 ++ size) in
    subst (All P) (sym (entry-parts name kind first blocks))
    (All-cons P (0x80 + number_of_kind kind) ((pair_at first).0 ∷ (pair_at first).1 ∷ rest) (kind_byte kind)
    (All-cons P (pair_at first).0 ((pair_at first).1 ∷ rest) track
    (All-cons P (pair_at first).1 rest sector (All-append P (filled_field name) (replicate 9 0 ++ size) field tail))))

-- a byte of a new entry
entry-byte : (cell name : List ℕ) (kind : Kind) (first blocks place i : ℕ) → place ≡ 2 + i → IsNewEntry cell name kind first blocks
    → slice_index cell place
    ≡ slice_index
    ((0x80 + number_of_kind kind) ∷ (pair_at first).0 ∷ (pair_at first).1 ∷ (filled_field name ++ (replicate 9 0 ++ ((blocks % 256) ∷ (blocks / 256) ∷ [])))) i
entry-byte cell name kind first blocks place i at entry =
    byte-drop cell place i at ∙ ap (λ (bytes : List ℕ). slice_index bytes i) (entry.bytes ∙ entry-parts name kind first blocks)

-- a byte behind the name of a new entry
entry-byte-behind : (cell name : List ℕ) (kind : Kind) (first blocks place i : ℕ) → place ≡ 21 + i → IsNewEntry cell name kind first blocks
    → slice_index cell place ≡ slice_index (replicate 9 0 ++ ((blocks % 256) ∷ (blocks / 256) ∷ [])) i
entry-byte-behind cell name kind first blocks place i at entry =
    let tail : List ℕ = replicate 9 0 ++ ((blocks % 256) ∷ (blocks / 256) ∷ []) in
    let long : length (filled_field name) ≡ 16 = length-filled_field name entry.short in
    let from : place ≡ 2 + (3 + (16 + i)) = omega arith in
    entry-byte cell name kind first blocks place (3 + (16 + i)) from entry
    ∙ sym (get_or-drop 3 ((0x80 + number_of_kind kind) ∷ (pair_at first).0 ∷ (pair_at first).1 ∷ (filled_field name ++ tail)) (16 + i) 0)
    ∙ ap (λ (n : ℕ). get_or (filled_field name ++ tail) (n + i) 0) (sym long)
    ∙ get_or-append-add (filled_field name) tail i 0

pub type_byte-new : (cell name : List ℕ) (kind : Kind) (first blocks : ℕ) → IsNewEntry cell name kind first blocks → type_byte cell ≡ 0x80 + number_of_kind kind
type_byte-new cell name kind first blocks entry = entry-byte cell name kind first blocks 2 0 refl entry

used_by : (kind : Kind) → not (0x80 + number_of_kind kind == 0) ≡ true
used_by Del = refl
used_by Seq = refl
used_by Prg = refl
used_by Usr = refl
used_by Rel = refl

pub is_used-new : (cell name : List ℕ) (kind : Kind) (first blocks : ℕ) → IsNewEntry cell name kind first blocks → is_used cell ≡ true
is_used-new cell name kind first blocks entry =
    ap (λ (byte : ℕ). not (byte == 0)) (type_byte-new cell name kind first blocks entry) ∙ used_by kind

closed_by : (kind : Kind) → has_bit (0x80 + number_of_kind kind) 7 ≡ true
closed_by Del = refl
closed_by Seq = refl
closed_by Prg = refl
closed_by Usr = refl
closed_by Rel = refl

pub is_closed-new : (cell name : List ℕ) (kind : Kind) (first blocks : ℕ) → IsNewEntry cell name kind first blocks → is_closed cell ≡ true
is_closed-new cell name kind first blocks entry =
    ap (λ (byte : ℕ). has_bit byte 7) (type_byte-new cell name kind first blocks entry) ∙ closed_by kind

unlocked_by : (kind : Kind) → has_bit (0x80 + number_of_kind kind) 6 ≡ false
unlocked_by Del = refl
unlocked_by Seq = refl
unlocked_by Prg = refl
unlocked_by Usr = refl
unlocked_by Rel = refl

pub is_locked-new : (cell name : List ℕ) (kind : Kind) (first blocks : ℕ) → IsNewEntry cell name kind first blocks → is_locked cell ≡ false
is_locked-new cell name kind first blocks entry =
    ap (λ (byte : ℕ). has_bit byte 6) (type_byte-new cell name kind first blocks entry) ∙ unlocked_by kind

kind_by : (kind : Kind) → get_or kinds ((0x80 + number_of_kind kind) % 16) Del ≡ kind
kind_by Del = refl
kind_by Seq = refl
kind_by Prg = refl
kind_by Usr = refl
kind_by Rel = refl

pub kind_of-new : (cell name : List ℕ) (kind : Kind) (first blocks : ℕ) → IsNewEntry cell name kind first blocks → kind_of cell ≡ kind
kind_of-new cell name kind first blocks entry =
    ap (λ (byte : ℕ). get_or kinds (byte % 16) Del) (type_byte-new cell name kind first blocks entry) ∙ kind_by kind

known_by : (kind : Kind) → (0x80 + number_of_kind kind) % 16 ≤ 4
known_by Del = omega arith
known_by Seq = omega arith
known_by Prg = omega arith
known_by Usr = omega arith
known_by Rel = omega arith

pub HasKind-new : (cell name : List ℕ) (kind : Kind) (first blocks : ℕ) → IsNewEntry cell name kind first blocks → HasKind cell
HasKind-new cell name kind first blocks entry =
    subst (λ (byte : ℕ). byte % 16 ≤ 4) (sym (type_byte-new cell name kind first blocks entry)) (known_by kind)

pub first_pair-new : (cell name : List ℕ) (kind : Kind) (first blocks : ℕ) → IsNewEntry cell name kind first blocks → first_pair cell ≡ pair_at first
first_pair-new cell name kind first blocks entry =
    ap₂ (λ (track sector : ℕ). (track, sector)) (entry-byte cell name kind first blocks 3 1 refl entry) (entry-byte cell name kind first blocks 4 2 refl entry)

pub field_of-new : (cell name : List ℕ) (kind : Kind) (first blocks : ℕ) → IsNewEntry cell name kind first blocks → field_of cell ≡ filled_field name
field_of-new cell name kind first blocks entry =
    field_of-drop cell
    ∙ ap (λ (bytes : List ℕ). take 16 (drop 3 bytes)) (entry.bytes ∙ entry-parts name kind first blocks)
    ∙ take_at (filled_field name) (replicate 9 0 ++ ((blocks % 256) ∷ (blocks / 256) ∷ [])) 16 (length-filled_field name entry.short)

pub side_pair-new : (cell name : List ℕ) (kind : Kind) (first blocks : ℕ) → IsNewEntry cell name kind first blocks → side_pair cell ≡ None
side_pair-new cell name kind first blocks entry =
    ap (λ (track : ℕ). side_of track (slice_index cell 0x16)) (entry-byte-behind cell name kind first blocks 0x15 0 refl entry)

pub size_of-new : (cell name : List ℕ) (kind : Kind) (first blocks : ℕ) → IsNewEntry cell name kind first blocks → size_of cell ≡ blocks
size_of-new cell name kind first blocks entry =
    let whole : blocks % 256 + 256 * (blocks / 256) ≡ blocks = omega arith in
    ap₂ (λ (low high : ℕ). low + 256 * high) (entry-byte-behind cell name kind first blocks 0x1E 9 refl entry)
    (entry-byte-behind cell name kind first blocks 0x1F 10 refl entry)
    ∙ whole

-- the roots of a closed file without side blocks
roots_by : (kind : Kind) (cell : List ℕ) → kind ≢ Del → side_pair cell ≡ None → roots_of kind cell ≡ first_pair cell ∷ []
roots_by Del cell other side = absurd (other refl)
roots_by Seq cell other side = refl
roots_by Prg cell other side = refl
roots_by Usr cell other side = refl
roots_by Rel cell other side = ap (λ (more : Option (ℕ × ℕ)). first_pair cell ∷ option_to_list more) side

-- those of a new entry of any kind but DEL
pub roots-new : (cell name : List ℕ) (kind : Kind) (first blocks : ℕ) → IsNewEntry cell name kind first blocks → kind ≢ Del → roots cell ≡ pair_at first ∷ []
roots-new cell name kind first blocks entry other =
    ap₂ (λ (closed : Bool) (k : Kind). cond closed (roots_of k cell) []) (is_closed-new cell name kind first blocks entry)
    (kind_of-new cell name kind first blocks entry)
    ∙ roots_by kind cell other (side_pair-new cell name kind first blocks entry)
    ∙ ap (λ (pair : ℕ × ℕ). pair ∷ []) (first_pair-new cell name kind first blocks entry)

-- the type byte of an unused slot is 0
pub type_byte-unused : (cell : List ℕ) → is_used cell ≡ false → type_byte cell ≡ 0
type_byte-unused cell unused = eqb-true (type_byte cell) 0 (not-false (type_byte cell == 0) unused)

pub is_closed-unused : (cell : List ℕ) → is_used cell ≡ false → is_closed cell ≡ false
is_closed-unused cell unused = ap (λ (byte : ℕ). has_bit byte 7) (type_byte-unused cell unused)

pub HasKind-unused : (cell : List ℕ) → is_used cell ≡ false → HasKind cell
HasKind-unused cell unused = let e = type_byte-unused cell unused in omega arith

pub roots-unused : (cell : List ℕ) → is_used cell ≡ false → roots cell ≡ []
roots-unused cell unused = ap (λ (closed : Bool). cond closed (roots_of (kind_of cell) cell) []) (is_closed-unused cell unused)

-- so it owns nothing, and lacks no chain
pub owned_by-unused : (image : List (List ℕ)) (cell : List ℕ) → is_used cell ≡ false → owned_by image cell ≡ []
owned_by-unused image cell unused = ap (flat_map (chain_at image)) (roots-unused cell unused)

pub HasItsChains-unused : (image : List (List ℕ)) (cell : List ℕ) → is_used cell ≡ false → HasItsChains image cell
HasItsChains-unused image cell unused =
    subst (All (λ (root : ℕ × ℕ). chain_at image root ≢ [])) (sym (roots-unused cell unused)) (All-nil (λ (root : ℕ × ℕ). chain_at image root ≢ []))

-- a slot that is zeros from the type byte on is unused
pub is_used-zeros : (cell : List ℕ) → drop 2 cell ≡ replicate 30 0 → is_used cell ≡ false
is_used-zeros cell zeros = ap (λ (byte : ℕ). not (byte == 0)) (byte-drop cell 2 0 refl ∙ ap (λ (bytes : List ℕ). slice_index bytes 0) zeros)
