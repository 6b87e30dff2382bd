-- When bytes are a label, and when they are not.
use Rattle.std.proofs.Common.{ℕ, ◌<◌, ◌≤◌, List, length, get_or, subst}
use Rattle.std.specs.List.{All, Any, Contains}
use Rattle.std.proofs.lemmas.List.Elements.{All-from_get_or}
use Rattle.d64_files.specs.Label.{IsLabel}

-- bytes with a forbidden one among them are no label
pub no_label : (forbidden bytes : List ℕ) → Any (Contains forbidden) bytes → IsLabel forbidden bytes → ⊥
no_label forbidden bytes found label =
    subst (λ b. Contains forbidden b → ⊥) found.3 (label.allowed found.0 found.1 found.2) found.4

-- 1 to 16 bytes of the program without a forbidden one are a label
pub label_from_bytes : (forbidden bytes : List ℕ) → 0 < length bytes → length bytes ≤ 16 → All (λ b. ¬ (Contains forbidden b)) bytes → ((i : ℕ) → get_or bytes i 0 < 256) → IsLabel forbidden bytes
label_from_bytes forbidden bytes not_empty short allowed in_range = record {
  not_empty = not_empty;
  short = short;
  allowed = allowed;
  in_range = All-from_get_or (λ b. b < 256) bytes 0 (λ i _. in_range i);
}
