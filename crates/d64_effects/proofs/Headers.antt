-- the map's block of a formatted disk, written part by part
use Rattle.std.proofs.Common.{◌≡◌, ℕ, ◌+◌, ◌-◌, ◌≤◌, List, [], ◌∷◌, ◌++◌, length, drop, refl, sym, ap, ap₂, ◌∙◌, arith}
use Rattle.std.proofs.Math.ListN.{replicate}
use Rattle.std.proofs.lemmas.List.{append_assoc, take_at, drop_at, length-append, length-replicate, replicate-append-replicate}
use Rattle.d64_files.specs.Name.{filled_field}
use Rattle.d64_files.specs.Writing.{written_at}
use Rattle.d64_files.proofs.WrittenBytes.{length-filled_field}
use Rattle.d64_effects.specs.Format.{header}

-- a part in the middle that is written over by one as long
written_between : (front middle back part : List ℕ) (start : ℕ) → length front ≡ start → length middle ≡ length part
    → written_at (front ++ (middle ++ back)) start part ≡ front ++ (part ++ back)
unfolding written_at
written_between front middle back part start begins long =
    let ends : length (front ++ middle) ≡ start + length part = length-append front middle ∙ omega arith in
    ap₂ (λ (xs ys : List ℕ). xs ++ (part ++ ys)) (take_at front (middle ++ back) start begins)
    (ap (drop (start + length part)) (sym (append_assoc front middle back)) ∙ drop_at (front ++ middle) back (start + length part) ends)

-- the filler of the label, cut at the name's end and at the field's
cut_filler : (n : ℕ) (x : ℕ) → n ≤ 16 → replicate 27 x ≡ replicate n x ++ (replicate (16 - n) x ++ replicate 11 x)
cut_filler n x short =
    let e : n + (16 - n + 11) ≡ 27 = omega arith in
    sym (ap (λ (xs : List ℕ). replicate n x ++ xs) (replicate-append-replicate (16 - n) 11 x)
    ∙ replicate-append-replicate n (16 - n + 11) x ∙ ap (λ (k : ℕ). replicate k x) e)

-- the name over the filler
named : (start back name filler : List ℕ) → length name ≤ 16 → length start ≡ 144 → filler ≡ replicate 27 160
    → written_at (start ++ (filler ++ back)) 144 name ≡ start ++ (name ++ (replicate (16 - length name) 160 ++ (replicate 11 160 ++ back)))
named start back name filler short long fills =
    let rest : List ℕ = replicate (16 - length name) 160 in
    ap (λ (xs : List ℕ). written_at (start ++ xs) 144 name)
    (ap (λ (xs : List ℕ). xs ++ back) (fills ∙ cut_filler (length name) 160 short)
    ∙ append_assoc (replicate (length name) 160) (rest ++ replicate 11 160) back
    ∙ ap (λ (xs : List ℕ). replicate (length name) 160 ++ xs) (append_assoc rest (replicate 11 160) back))
    ∙ written_between start (replicate (length name) 160) (rest ++ (replicate 11 160 ++ back)) name 144 long (length-replicate (length name) 160)

-- the id over the filler
with_id : (start field back id : List ℕ) → length start ≡ 144 → length field ≡ 16 → length id ≡ 2
    → written_at (start ++ (field ++ (160 ∷ 160 ∷ 160 ∷ 160 ∷ back))) 162 id ≡ (start ++ field ++ (160 ∷ 160 ∷ [])) ++ (id ++ back)
with_id start field back id long whole two =
    ap (λ (xs : List ℕ). written_at xs 162 id)
    (sym (append_assoc (start ++ field) (160 ∷ 160 ∷ []) (160 ∷ 160 ∷ back) ∙ append_assoc start field (160 ∷ 160 ∷ 160 ∷ 160 ∷ back)))
    ∙ written_between (start ++ field ++ (160 ∷ 160 ∷ [])) (160 ∷ 160 ∷ []) back id 162
    (length-append (start ++ field) (160 ∷ 160 ∷ []) ∙ (let e = length-append start field in omega arith)) (sym two)

-- the DOS version over the filler
with_version : (front id back version : List ℕ) → length front ≡ 162 → length id ≡ 2 → length version ≡ 2
    → written_at (front ++ (id ++ (160 ∷ 160 ∷ 160 ∷ back))) 165 version ≡ front ++ id ++ (160 ∷ []) ++ version ++ back
with_version front id back version long two short =
    ap (λ (xs : List ℕ). written_at xs 165 version)
    (sym (append_assoc (front ++ id) (160 ∷ []) (160 ∷ 160 ∷ back) ∙ append_assoc front id (160 ∷ 160 ∷ 160 ∷ back)))
    ∙ written_between (front ++ id ++ (160 ∷ [])) (160 ∷ 160 ∷ []) back version 165
    (length-append (front ++ id) (160 ∷ []) ∙ (let e = length-append front id in omega arith)) (sym short)
    ∙ sym (append_assoc (front ++ id ++ (160 ∷ [])) version back)

-- the parts of the label that are written one after another
labelled : (start back name id third fourth fifth : List ℕ) → length name ≤ 16 → length id ≡ 2 → length start ≡ 144
    → third ≡ written_at (start ++ (replicate 27 160 ++ back)) 144 name
    → fourth ≡ written_at third 162 id
    → fifth ≡ written_at fourth 165 (0x32 ∷ 0x41 ∷ [])
    → fifth ≡ start ++ filled_field name ++ (160 ∷ 160 ∷ []) ++ id ++ (160 ∷ []) ++ (0x32 ∷ 0x41 ∷ []) ++ replicate 4 160 ++ back
labelled start back name id third fourth fifth short two long e3 e4 e5 =
    let rest : List ℕ = replicate (16 - length name) 160 in
    let f3 : third ≡ start ++ (filled_field name ++ (replicate 11 160 ++ back)) =
    e3 ∙ named start back name (replicate 27 160) short long refl ∙ ap (λ (xs : List ℕ). start ++ xs) (sym (append_assoc name rest (replicate 11 160 ++ back))) in
    let f4 : fourth ≡ (start ++ filled_field name ++ (160 ∷ 160 ∷ [])) ++ (id ++ (replicate 7 160 ++ back)) =
    e4 ∙ ap (λ (xs : List ℕ). written_at xs 162 id) f3 ∙ with_id start (filled_field name) (replicate 7 160 ++ back) id long (length-filled_field name short) two in
    e5 ∙ ap (λ (xs : List ℕ). written_at xs 165 (0x32 ∷ 0x41 ∷ [])) f4
    ∙ with_version (start ++ filled_field name ++ (160 ∷ 160 ∷ [])) id (replicate 4 160 ++ back) (0x32 ∷ 0x41 ∷ [])
    (length-append (start ++ filled_field name) (160 ∷ 160 ∷ []) ∙ (let e = length-append start (filled_field name) in let f = length-filled_field name short in omega arith)) two refl
    ∙ sym (append_assoc (start ++ filled_field name ++ (160 ∷ 160 ∷ []) ++ id ++ (160 ∷ []) ++ (0x32 ∷ 0x41 ∷ [])) (replicate 4 160) back)

-- the bytes before the label
abbrev before_label : List ℕ
before_label = 0x12 ∷ 0x01 ∷ 0x41 ∷ 0x00 ∷ replicate 140 0

-- the parts that are written one after another make the block
pub header_from_parts : (name id first second third fourth fifth : List ℕ) → length name ≤ 16 → length id ≡ 2
    → first ≡ written_at (replicate 256 0) 0 (0x12 ∷ 0x01 ∷ 0x41 ∷ 0x00 ∷ [])
    → second ≡ written_at first 144 (replicate 27 160)
    → third ≡ written_at second 144 name
    → fourth ≡ written_at third 162 id
    → fifth ≡ written_at fourth 165 (0x32 ∷ 0x41 ∷ [])
    → fifth ≡ header name id
unfolding header
header_from_parts name id first second third fourth fifth short two e1 e2 e3 e4 e5 =
    let f1 : first ≡ before_label ++ (replicate 27 0 ++ replicate 85 0) =
    e1 ∙ written_between [] (replicate 4 0) (replicate 252 0) (0x12 ∷ 0x01 ∷ 0x41 ∷ 0x00 ∷ []) 0 refl refl in
    let f2 : second ≡ before_label ++ (replicate 27 160 ++ replicate 85 0) =
    e2 ∙ ap (λ (xs : List ℕ). written_at xs 144 (replicate 27 160)) f1 ∙ written_between before_label (replicate 27 0) (replicate 85 0) (replicate 27 160) 144 refl refl in
    labelled before_label (replicate 85 0) name id third fourth fifth short two refl (e3 ∙ ap (λ (xs : List ℕ). written_at xs 144 name) f2) e4 e5
