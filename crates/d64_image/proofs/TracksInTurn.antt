-- the tracks of an image, one after another
use Rattle.std.proofs.Common.{◌≡◌, ℕ, ◌+◌, ◌<◌, ◌≤◌, List, [], ◌∷◌, ◌++◌, get_or, length, sym, ap, ◌∙◌, arith, length-append}
use Rattle.std.proofs.lemmas.List.{append_assoc}
use Rattle.std.specs.List.{range_with_len}
use Rattle.std.proofs.Math.Seq.{get_or-append_seam}
use Rattle.std.proofs.lemmas.List.FromFn.{length-range_with_len, get_or-range_with_len}

-- the track that comes after those that have come
pub record Next (count track : ℕ) (done left : List ℕ) : Type 0 where
  pub is : track ≡ length done + 1
  pub within : track ≤ count
  pub split : range_with_len 1 count ≡ (done ++ track ∷ []) ++ left
  pub more : length (done ++ track ∷ []) ≡ track

pub next_track : (count track : ℕ) (done left all : List ℕ) → range_with_len 1 count ≡ done ++ all → all ≡ track ∷ left → Next count track done left
next_track count track done left all split steps =
    let parted : range_with_len 1 count ≡ done ++ track ∷ left = split ∙ ap (λ (l : List ℕ). done ++ l) steps in
    let counted = length-range_with_len 1 count in
    let long = ap length parted in
    let added = length-append done (track ∷ left) in
    let few : length done < count = omega (arith, counted, long, added) in
    let is = sym (get_or-append_seam done track left 0) ∙ ap (λ (l : List ℕ). get_or l (length done) 0) (sym parted) ∙ get_or-range_with_len 1 count (length done) 0 few in
    let last = length-append done (track ∷ []) in
    record { is = omega (arith, is); within = omega (arith, is, few); split = parted ∙ sym (append_assoc done (track ∷ []) left); more = omega (arith, is, last) }

-- all have come
pub all_tracks : (count : ℕ) (done left : List ℕ) → range_with_len 1 count ≡ done ++ left → left ≡ [] → length done ≡ count
all_tracks count done left split none =
    let counted = length-range_with_len 1 count in
    let long = ap length (split ∙ ap (λ (l : List ℕ). done ++ l) none) in
    let added = length-append done [] in
    omega (arith, counted, long, added)
