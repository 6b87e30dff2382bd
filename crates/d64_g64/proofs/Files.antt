-- What a file has
use Rattle.std.proofs.Common.{◌≡◌, ℕ, ◌+◌, ◌*◌, ◌<◌, ◌≤◌, Bool, true, false, ◌&&◌, not, cond, nat_eq, List, [], length, ltb, leb, refl, sym, ap, ap₂, ◌∙◌, inl, inr}
use Rattle.std.specs.Prelude.{◌==◌}
use Rattle.std.proofs.lemmas.Bool.Decides.{leb_tells}
use Rattle.std.proofs.lemmas.Bool.{lt-ltb, le-ltb, cases_lt}
use Rattle.d64_g64.specs.File.{is_g64, place_count, offset_of, has_track, padded, number_of_two, entry_track_bytes}

both_true : (a b : Bool) → (a && b) ≡ true → (a ≡ true) × (b ≡ true)
both_true true b h = (refl, h)
both_true false b h = (h, absurd (cc))

leb_holds : (a b : ℕ) → leb a b ≡ true → a ≤ b
leb_holds a b h = elim (leb_tells a b) [ inl is ↦ is.1 | inr other ↦ let wrong : true ≡ false = sym h ∙ other.0 in absurd (cc) ]

-- its header, and the places of its tracks
pub long_enough : (file : List ℕ) → is_g64 file ≡ true → (12 ≤ length file) × (12 + 8 * place_count file ≤ length file)
unfolding is_g64
long_enough file h =
    let all = both_true _ _ h in
    let first = both_true _ _ all.0 in
    (leb_holds 12 (length file) first.0, leb_holds (12 + 8 * place_count file) (length file) all.1)

-- a track that no entry has, and one that an entry has
pub lacks_entry : (file : List ℕ) (entry : ℕ) → place_count file ≤ entry → false ≡ has_track file entry
unfolding has_track
lacks_entry file entry h =
    sym (ap (λ (b : Bool). b && not (offset_of file entry == 0) && leb (offset_of file entry + 2) (length file)) (le-ltb entry (place_count file) h))

pub has_entry : (file : List ℕ) (entry offset : ℕ) → entry < place_count file → offset ≡ offset_of file entry
    → (not (nat_eq offset 0) && leb (offset + 2) (length file)) ≡ has_track file entry
unfolding has_track
has_entry file entry offset h is =
    ap (λ (x : ℕ). not (nat_eq x 0) && leb (x + 2) (length file)) is
    ∙ sym (ap (λ (b : Bool). b && not (offset_of file entry == 0) && leb (offset_of file entry + 2) (length file)) (lt-ltb entry (place_count file) h))

-- if the file has the track, its entry and its length are there
pub there : (file : List ℕ) (entry : ℕ) → true ≡ has_track file entry → (entry < place_count file) × (offset_of file entry + 2 ≤ length file)
unfolding has_track
there file entry h =
    let all = both_true _ _ (sym h) in
    let first = both_true _ _ all.0 in
    (ltb_holds entry (place_count file) first.0, leb_holds (offset_of file entry + 2) (length file) all.1)
  where
    ltb_holds : (a b : ℕ) → ltb a b ≡ true → a < b
    ltb_holds a b e = elim (cases_lt a b) [ inl less ↦ less | inr more ↦ let wrong : true ≡ false = sym e ∙ le-ltb a b more in absurd (cc) ]

pub no_track : (file : List ℕ) (entry : ℕ) → false ≡ has_track file entry → [] ≡ entry_track_bytes file entry
unfolding entry_track_bytes
no_track file entry is = ap (λ (b : Bool). cond b (padded file (offset_of file entry + 2) (number_of_two file (offset_of file entry))) []) is

pub the_track : (file : List ℕ) (entry offset count : ℕ) → true ≡ has_track file entry → offset ≡ offset_of file entry → count ≡ number_of_two file offset
    → padded file (offset + 2) count ≡ entry_track_bytes file entry
unfolding entry_track_bytes
the_track file entry offset count is at long =
    ap₂ (λ (x y : ℕ). padded file (x + 2) y) at (long ∙ ap (number_of_two file) at)
    ∙ ap (λ (b : Bool). cond b (padded file (offset_of file entry + 2) (number_of_two file (offset_of file entry))) []) is
