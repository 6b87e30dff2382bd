-- Read errors in words.
use Rattle.std.proofs.Common.{◌≡◌, ℕ, Bool, List, ◌++◌, length, ap}
use Rattle.std.proofs.lemmas.Bool.{ne_eqb}
use Rattle.std.specs.Prelude.{codes, if◌then◌else◌}
use Rattle.d64_survey.specs.Owners.{owners_of}
use Rattle.out_messages.specs.OwnerText.{block_owners}
use Rattle.out_messages.specs.FaultText.{belonging_text}

-- a block that has an owner
pub belonging_text-owned : (image : List (List ℕ)) (block : ℕ) → (length (owners_of image block) ≡ 0 → ⊥)
    → belonging_text image block ≡ codes ", belongs to " ++ block_owners image block
unfolding belonging_text
belonging_text-owned image block some =
    ap (λ (none : Bool). if none then codes ", belongs to no file" else codes ", belongs to " ++ block_owners image block) (ne_eqb (length (owners_of image block)) 0 some)
