-- The part of an argument after its last byte that passes a test.
use Rattle.std.proofs.Common.{◌≡◌, ℕ, ◌-◌, ◌≤◌, Bool, true, false, not, List, [], ◌∷◌, ◌++◌, length, drop, sym, ap, subst, ◌∙◌, append_assoc, length-append, arith}
use Rattle.std.specs.Bool.{MatchBool}
use Rattle.std.specs.List.{IsAfterLastMatch, after_last, suffix_len}
use Rattle.std.proofs.Math.Seq.{drop-append_seam}
use Rattle.std.proofs.lemmas.List.Sums.{suffix_len_is}

-- the place after the last byte that passes gives the part after it
after_last-from : (test : ℕ → Bool) (word : List ℕ) (place : ℕ) → place ≤ length word → IsAfterLastMatch test word place → drop place word ≡ after_last test word
after_last-from test word place within after =
    let size : suffix_len (λ byte. not (test byte)) word ≡ length word - place =
    suffix_len_is (λ byte. not (test byte)) word place 0 within (λ k low high. ap not (after.0 k 0 low high)) (λ some. ap not (after.1 some 0)) in
    ap (λ n. drop n word) (omega (arith, size))

-- an argument and its end
is_end : (before part : List ℕ) → drop (length (before ++ part) - length part) (before ++ part) ≡ part
is_end before part =
    let size : length (before ++ part) - length part ≡ length before = omega (arith, length-append before part) in
    ap (λ n. drop n (before ++ part)) size ∙ drop-append_seam before part

-- an argument is a part, or ends with a part after one byte more
part_of : (whole : Bool) (word rest part : List ℕ) → MatchBool whole (word ≡ part) ((byte : ℕ) × (word ≡ rest ++ byte ∷ part)) → drop (length word - length part) word ≡ part
part_of true word rest part same = subst (λ (w : List ℕ). drop (length w - length part) w ≡ part) (sym same) (is_end [] part)
part_of false word rest part (byte, cut) =
    subst (λ (w : List ℕ). drop (length w - length part) w ≡ part) (append_assoc rest (byte ∷ []) part ∙ sym cut) (is_end (rest ++ byte ∷ []) part)

-- the part after the last byte that passes
pub is_after_last : (test : ℕ → Bool) (whole : Bool) (word rest part : List ℕ)
    → MatchBool whole (word ≡ part) ((byte : ℕ) × (word ≡ rest ++ byte ∷ part))
    → IsAfterLastMatch test word (length word - length part) → part ≡ after_last test word
is_after_last test whole word rest part cut after =
    sym (part_of whole word rest part cut) ∙ after_last-from test word (length word - length part) (omega arith) after
