-- What names and patterns have in common.
use Rattle.std.specs.Prelude.{◌≡◌, ◌==◌, ◌&&◌, ℕ, ◌<◌, ◌≤◌, nat_lt, nat_le, Bool, not, [], ◌∷◌, length, All, Any, Contains}
use Rattle.std.specs.List.{list_any}
use Rattle.d64_image.specs.Disk.{Bytes}
use Rattle.d64_files.specs.declared.label.BadName.{BadName}
use Rattle.d64_files.specs.declared.label.BadName.TheVariants.{Empty, TooLong, Forbidden}

-- `*`: any rest
abbrev pub star : ℕ
star = 0x2A

-- `?`: exactly one byte
abbrev pub question_mark : ℕ
question_mark = 0x3F

-- `=`, `:`, `,`, `"`, a carriage return and a shifted space
abbrev pub separators : Bytes
separators = 0x3D ∷ 0x3A ∷ 0x2C ∷ 0x22 ∷ 0x0D ∷ 0xA0 ∷ []

-- 1 to 16 bytes, of which not one is forbidden
pub record IsLabel (forbidden bytes : Bytes) : Type 0 where
  pub not_empty : 0 < length bytes
  pub short : length bytes ≤ 16
  pub allowed : All (λ b. ¬ (Contains forbidden b)) bytes
  pub in_range : All (λ b. b < 256) bytes

-- whether one of the bytes is forbidden
abbrev pub holds_any_of : Bytes → Bytes → Bool
holds_any_of forbidden bytes = list_any (λ b. list_any (λ f. f == b) forbidden) bytes

-- whether some bytes are a label
abbrev pub is_label : Bytes → Bytes → Bool
is_label forbidden bytes = nat_lt 0 (length bytes) && nat_le (length bytes) 16 && not (holds_any_of forbidden bytes)

-- what is wrong with bytes that are no label: exactly one of the three
abbrev pub IsLabelFault : Bytes → Bytes → BadName → Type 0
IsLabelFault forbidden bytes Empty = bytes ≡ []
IsLabelFault forbidden bytes TooLong = 16 < length bytes
IsLabelFault forbidden bytes Forbidden = (length bytes ≤ 16) × Any (Contains forbidden) bytes
