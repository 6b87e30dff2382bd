-- a slot with another type byte: what the rest of it says
use Rattle.std.proofs.Common.{◌≡◌, ℕ, ◌+◌, ◌*◌, List, [], ◌∷◌, ◌++◌, length, drop, take, get_or, refl, sym, ap, ap₂, ◌∙◌, arith, append_assoc}
use Rattle.std.proofs.lemmas.List.{get_or-drop, drop-drop, drop_at, length-take-le, length-append}
use Rattle.d64_files.specs.Slot.{type_byte, first_pair, field_of, size_of}
use Rattle.d64_files.specs.Writing.{written_at}
use Rattle.d64_effects.proofs.DirectoryEntries.{get_or-written_within}

module _ (cell : List ℕ) (byte : ℕ) (long : length cell ≡ 32) where
  pub type_byte-typed : type_byte (written_at cell 2 (byte ∷ [])) ≡ byte
  type_byte-typed = get_or-written_within cell (byte ∷ []) 2 0 (omega arith) (omega arith)

  -- all beyond it stays
  beyond : drop 3 (written_at cell 2 (byte ∷ [])) ≡ drop 3 cell
  unfolding written_at
  beyond =
      ap (drop 3) (sym (append_assoc (take 2 cell) (byte ∷ []) (drop 3 cell)))
      ∙ drop_at (take 2 cell ++ byte ∷ []) (drop 3 cell) 3 (length-append (take 2 cell) (byte ∷ []) ∙ (let l = length-take-le 2 cell (omega arith) in omega arith))

  byte_is : (k place : ℕ) → place ≡ 3 + k → get_or (written_at cell 2 (byte ∷ [])) place 0 ≡ get_or cell place 0
  byte_is k place e =
      ap (λ (n : ℕ). get_or (written_at cell 2 (byte ∷ [])) n 0) e ∙ sym (get_or-drop 3 (written_at cell 2 (byte ∷ [])) k 0) ∙ ap (λ (bytes : List ℕ). get_or bytes k 0) beyond
      ∙ get_or-drop 3 cell k 0 ∙ ap (λ (n : ℕ). get_or cell n 0) (sym e)

  pub first_pair-typed : first_pair (written_at cell 2 (byte ∷ [])) ≡ first_pair cell
  first_pair-typed = ap₂ (λ (track sector : ℕ). (track, sector)) (byte_is 0 3 refl) (byte_is 1 4 refl)

  pub size_of-typed : size_of (written_at cell 2 (byte ∷ [])) ≡ size_of cell
  size_of-typed = ap₂ (λ (low high : ℕ). low + 256 * high) (byte_is 27 0x1E refl) (byte_is 28 0x1F refl)

  pub field_of-typed : field_of (written_at cell 2 (byte ∷ [])) ≡ field_of cell
  field_of-typed = ap (take 16) (sym (drop-drop 2 3 (written_at cell 2 (byte ∷ []))) ∙ ap (drop 2) beyond ∙ drop-drop 2 3 cell)
