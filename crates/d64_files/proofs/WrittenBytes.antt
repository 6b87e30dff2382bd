-- Bytes that are written over others, part by part.
use Rattle.std.proofs.Common.{◌≡◌, ℕ, ◌+◌, ◌-◌, ◌≤◌, List, ◌∷◌, ◌++◌, length, take, drop, sym, ap, ap₂, ◌∙◌, arith}
use Rattle.std.proofs.Math.ListN.{replicate, drop_of_length-le}
use Rattle.std.proofs.lemmas.List.{append_assoc, append-nil, take_at, drop_at, drop-drop, length-append, length-replicate, length-drop, length-take-le, drop-replicate, replicate-append-replicate}
use Rattle.d64_files.specs.Name.{filled_field}
use Rattle.d64_files.specs.Writing.{written_at}

-- bytes that a part is written over are as many as before
pub length-written_at : (bytes part : List ℕ) (start : ℕ) → start + length part ≤ length bytes → length (written_at bytes start part) ≡ length bytes
unfolding written_at
length-written_at bytes part start inside =
    let front = length-take-le start bytes (omega arith) in
    let back = length-drop (start + length part) bytes in
    let tail = length-append part (drop (start + length part) bytes) in
    length-append (take start bytes) (part ++ drop (start + length part) bytes) ∙ omega arith

-- a part that is written right after another
pub written_next : (bytes part next : List ℕ) (start : ℕ) → start + length part ≤ length bytes
    → written_at (written_at bytes start part) (start + length part) next ≡ written_at bytes start (part ++ next)
unfolding written_at
written_next bytes part next start inside =
    let front : List ℕ = take start bytes in
    let back : List ℕ = drop (start + length part) bytes in
    let whole : front ++ (part ++ back) ≡ (front ++ part) ++ back = sym (append_assoc front part back) in
    let long : length (take start bytes) ≡ start = length-take-le start bytes (omega arith) in
    let ends : length (front ++ part) ≡ start + length part = length-append front part ∙ omega arith in
    let first : take (start + length part) (front ++ (part ++ back)) ≡ front ++ part =
    ap (take (start + length part)) whole ∙ take_at (front ++ part) back (start + length part) ends in
    let ends_there : start + length part + length next ≡ start + length (part ++ next) = let e = length-append part next in omega arith in
    let last : drop (start + length part + length next) (front ++ (part ++ back)) ≡ drop (start + length (part ++ next)) bytes =
    sym (drop-drop (length next) (start + length part) (front ++ (part ++ back)))
    ∙ ap (drop (length next)) (ap (drop (start + length part)) whole ∙ drop_at (front ++ part) back (start + length part) ends)
    ∙ drop-drop (length next) (start + length part) bytes
    ∙ ap (λ (n : ℕ). drop n bytes) ends_there in
    ap₂ (λ (xs ys : List ℕ). xs ++ (next ++ ys)) first last
    ∙ append_assoc front part (next ++ drop (start + length (part ++ next)) bytes)
    ∙ ap (λ (xs : List ℕ). front ++ xs) (sym (append_assoc part next (drop (start + length (part ++ next)) bytes)))

-- the same for a given place
written_after : (bytes part next : List ℕ) (start place : ℕ) → start + length part ≡ place → place ≤ length bytes
    → written_at (written_at bytes start part) place next ≡ written_at bytes start (part ++ next)
written_after bytes part next start place e inside =
    ap (λ (n : ℕ). written_at (written_at bytes start part) n next) (sym e) ∙ written_next bytes part next start (omega arith)

-- a part that is written over as many fillers or more
written_over : (bytes part : List ℕ) (start n x : ℕ) → start ≤ length bytes → length part ≤ n
    → written_at (written_at bytes start (replicate n x)) start part ≡ written_at bytes start (part ++ replicate (n - length part) x)
unfolding written_at
written_over bytes part start n x inside short =
    let front : List ℕ = take start bytes in
    let gone : List ℕ = replicate (length part) x in
    let kept : List ℕ = replicate (n - length part) x in
    let back : List ℕ = drop (start + length (replicate n x)) bytes in
    let long : length (take start bytes) ≡ start = length-take-le start bytes inside in
    let many : length (replicate n x) ≡ n = length-replicate n x in
    let few : length (replicate (length part) x) ≡ length part = length-replicate (length part) x in
    let rest : length (replicate (n - length part) x) ≡ n - length part = length-replicate (n - length part) x in
    let sums : length part + (n - length part) ≡ n = omega arith in
    let fillers : replicate n x ≡ gone ++ kept =
    sym (replicate-append-replicate (length part) (n - length part) x ∙ ap (λ (k : ℕ). replicate k x) sums) in
    let ends : length (front ++ gone) ≡ start + length part = length-append front gone ∙ omega arith in
    let whole : front ++ (replicate n x ++ back) ≡ (front ++ gone) ++ (kept ++ back) =
    ap (λ (xs : List ℕ). front ++ (xs ++ back)) fillers
    ∙ ap (λ (xs : List ℕ). front ++ xs) (append_assoc gone kept back)
    ∙ sym (append_assoc front gone (kept ++ back)) in
    let place : start + length (replicate n x) ≡ start + length (part ++ kept) =
    let e = length-append part (replicate (n - length part) x) in omega arith in
    ap₂ (λ (xs ys : List ℕ). xs ++ (part ++ ys)) (take_at front (replicate n x ++ back) start long)
    (ap (drop (start + length part)) whole ∙ drop_at (front ++ gone) (kept ++ back) (start + length part) ends)
    ∙ ap (λ (xs : List ℕ). front ++ xs) (sym (append_assoc part kept back))
    ∙ ap (λ (k : ℕ). front ++ ((part ++ kept) ++ drop k bytes)) place

-- a name in its field has 16 bytes
pub length-filled_field : (name : List ℕ) → length name ≤ 16 → length (filled_field name) ≡ 16
length-filled_field name short =
    let rest : List ℕ = replicate (16 - length name) 160 in
    let e : length (name ++ rest) ≡ length name + length rest = length-append name rest in
    let f : length rest ≡ 16 - length name = length-replicate (16 - length name) 160 in
    omega arith

-- the parts of an entry, one after another
pub entry_from_parts : (bytes head name size first second third fourth fifth : List ℕ) (start : ℕ) → start + 30 ≤ length bytes → length head ≡ 3
    → length name ≤ 16
    → first ≡ written_at bytes start head
    → second ≡ written_at first (start + 3) (replicate 16 0xA0)
    → third ≡ written_at second (start + 3) name
    → fourth ≡ written_at third (start + 19) (replicate 9 0)
    → fifth ≡ written_at fourth (start + 28) size
    → fifth ≡ written_at bytes start (head ++ filled_field name ++ replicate 9 0 ++ size)
entry_from_parts bytes head name size first second third fourth fifth start inside three short e1 e2 e3 e4 e5 =
    let rest : List ℕ = replicate (16 - length name) 0xA0 in
    let field = length-filled_field name short in
    let long : length first ≡ length bytes = ap length e1 ∙ length-written_at bytes head start (omega arith) in
    let to_name = length-append head (filled_field name) in
    let to_side = length-append (head ++ filled_field name) (replicate 9 0) in
    let f3 : third ≡ written_at bytes start (head ++ filled_field name) =
    e3
    ∙ ap (λ (xs : List ℕ). written_at xs (start + 3) name) e2
    ∙ written_over first name (start + 3) 16 0xA0 (omega arith) short
    ∙ ap (λ (xs : List ℕ). written_at xs (start + 3) (filled_field name)) e1
    ∙ written_after bytes head (filled_field name) start (start + 3) (omega arith) (omega arith) in
    let f4 : fourth ≡ written_at bytes start (head ++ filled_field name ++ replicate 9 0) =
    e4
    ∙ ap (λ (xs : List ℕ). written_at xs (start + 19) (replicate 9 0)) f3
    ∙ written_after bytes (head ++ filled_field name) (replicate 9 0) start (start + 19) (omega arith) (omega arith) in
    e5
    ∙ ap (λ (xs : List ℕ). written_at xs (start + 28) size) f4
    ∙ written_after bytes (head ++ filled_field name ++ replicate 9 0) size start (start + 28) (omega arith) (omega arith)

-- a link and the data after it fill a block
pub linked_from_parts : (bytes link content first second : List ℕ) → length bytes ≡ 256 → length link ≡ 2 → length content ≡ 254
    → first ≡ written_at bytes 0 link → second ≡ written_at first 2 content → second ≡ link ++ content
unfolding written_at
linked_from_parts bytes link content first second block two full e1 e2 =
    let all = length-append link content in
    e2
    ∙ ap (λ (xs : List ℕ). written_at xs 2 content) e1
    ∙ written_after bytes link content 0 2 (omega arith) (omega arith)
    ∙ ap (λ (xs : List ℕ). (link ++ content) ++ xs) (drop_of_length-le bytes (omega arith))
    ∙ append-nil (link ++ content)

-- the data of a last block, and the zeros after it
pub last_from_parts : (bytes content : List ℕ) (x : ℕ)
    → bytes ≡ written_at (0 ∷ x ∷ replicate 254 0) 2 content → bytes ≡ 0 ∷ x ∷ (content ++ replicate (254 - length content) 0)
unfolding written_at
last_from_parts bytes content x e =
    e ∙ ap (λ (ys : List ℕ). 0 ∷ x ∷ (content ++ ys))
    (sym (drop-drop (length content) 2 (0 ∷ x ∷ replicate 254 0)) ∙ drop-replicate (length content) 254 0)
