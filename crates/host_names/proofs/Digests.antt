-- The digest of a name, a byte at a time.
use Rattle.std.proofs.Common.{◌≡◌, ℕ, ◌+◌, ◌<◌, List, [], ◌∷◌, length, take, get_or, refl, sym, ap, ◌∙◌}
use Rattle.std.specs.Prelude.{fold}
use Rattle.std.specs.Char.{to_ascii_lowercase}
use Rattle.std.specs.Str.{str_to_ascii_lowercase}
use Rattle.std.proofs.lemmas.List.{map_more}
use Rattle.std.proofs.lemmas.Grind.{fold-append}
use Rattle.host_names.specs.Digest.{next_digest, name_digest}

pub digest-nil : name_digest [] ≡ 0
unfolding name_digest
digest-nil = refl

-- one byte more
pub digest_more : (name : List ℕ) (index digest byte : ℕ) → index < length name → digest ≡ name_digest (take index name)
    → byte ≡ to_ascii_lowercase (get_or name index 0) → next_digest digest byte ≡ name_digest (take (index + 1) name)
unfolding name_digest
digest_more name index digest byte within so is =
    ap (λ (d : ℕ). next_digest d byte) so
    ∙ ap (next_digest (name_digest (take index name))) is
    ∙ sym (fold-append next_digest 0 (str_to_ascii_lowercase (take index name)) (to_ascii_lowercase (get_or name index 0) ∷ []))
    ∙ ap (λ (bs : List ℕ). fold next_digest 0 bs) (sym (map_more to_ascii_lowercase name index 0 within))
